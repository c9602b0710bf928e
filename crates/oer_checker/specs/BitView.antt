-- Bits of octets, from one to another.
use Rattle.std.specs.Prelude.{◌≡◌, Bool, List, drop, length, take}
use Rattle.oer_model.specs.Bits.{bits_of}
use Rattle.oer_checker.specs.declared.bits.Bits.{Bits}

abbrev pub bits_in : Bits → List Bool
bits_in b = drop b.from (take b.to (bits_of b.octets.now))

-- they are all bits up to the last
abbrev pub IsWhole : Bits → Type 0
IsWhole b = (b.from ≡ 0) × (length (bits_in b) ≡ b.to)
