use Rattle.std.proofs.Common.{◌≡◌, ◌++◌, ◌-◌, map}
use Rattle.oer_literals.specs.Bits.{is_one}
use Rattle.oer_module_defaults.specs.Bits.{bits_from}
use Rattle.oer_module_defaults.proofs.bits.digits_of.Given as goal

-- the bits of the digits found and those that are left are all of them
abbrev pub invariant-loop-bit : goal.invariant-loop-bit
invariant-loop-bit l = bits_from l.numbers 0 l.size ≡ map is_one l.digits.items ++ bits_from l.numbers l.bit (l.size - l.bit)
