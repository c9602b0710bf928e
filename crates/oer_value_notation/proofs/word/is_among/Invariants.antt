use Rattle.std.proofs.Common.{◌≡◌, drop}
use Rattle.std.specs.List.{list_any}
use Rattle.std.specs.Str.{bytes_eq}
use Rattle.oer_value_notation.proofs.word.is_among.Given as goal

-- the words before aren't it
abbrev pub invariant-loop-other : goal.invariant-loop-other
invariant-loop-other l = list_any (λ v. bytes_eq l.word v.now) (drop l.other-index l.words) ≡ list_any (λ v. bytes_eq l.word v.now) l.words
