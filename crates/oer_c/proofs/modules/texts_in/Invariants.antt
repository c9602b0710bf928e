use Rattle.std.proofs.Common.{◌≡◌, map, take}
use Rattle.std.specs.List.{All}
use Rattle.oer_c.specs.Modules.{IsText, texts_of}
use Rattle.oer_c.proofs.modules.texts_in.Given as goal

-- the texts at the places before
abbrev pub invariant-loop-number : goal.invariant-loop-number
invariant-loop-number l = record {
  texts : map (λ t. t.now) l.found.items ≡ texts_of l.octets (take l.number l.places);
  within : All (IsText l.octets) (take l.number l.places);
}
