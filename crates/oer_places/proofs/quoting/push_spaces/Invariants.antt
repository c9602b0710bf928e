use Rattle.std.proofs.Common.{◌≡◌, ◌++◌, string_bytes}
use Rattle.oer_places.specs.Quoting.{spaces}
use Rattle.oer_places.proofs.quoting.push_spaces.Given as goal

abbrev pub invariant-loop : goal.invariant-loop
invariant-loop l = string_bytes l.text ≡ string_bytes l.fn.text ++ spaces l.counter
