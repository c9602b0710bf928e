use Rattle.std.proofs.Common.{◌≡◌, ◌++◌, string_bytes, IsUtf8}
use Rattle.oer_places.specs.Visible.{visible}
use Rattle.oer_places.proofs.visible.push_each.Given as goal

-- what is there and what is left are the whole
abbrev pub invariant-loop-c : goal.invariant-loop-c
invariant-loop-c l = record { is : string_bytes l.fn.text ++ visible l.part ≡ string_bytes l.text ++ visible l.c-iterator.rest.now; utf8 : IsUtf8 l.c-iterator.rest.now }
