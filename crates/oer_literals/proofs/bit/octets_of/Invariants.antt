use Rattle.std.proofs.Common.{◌≡◌, ◌++◌, ◌-◌, length}
use Rattle.oer_literals.specs.Bits.{octets_more}
use Rattle.oer_literals.proofs.bit.octets_of.Given as goal

abbrev pub invariant-octets : goal.invariant-octets
invariant-octets l = octets_more (length l.digits) l.digits ≡ l.octets.items ++ octets_more (length l.digits - l.turn) l.rest
