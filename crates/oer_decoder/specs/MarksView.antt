-- The bits of a preamble.
use Rattle.std.specs.Prelude.{Bool, List, min, take, ⊤}
use Rattle.oer_decoder.specs.declared.preamble.Marks.{Marks}
use Rattle.oer_decoder.specs.declared.preamble.Marks.TheVariants.{Few, Many}

abbrev pub bits_in : Marks → List Bool
bits_in (Few bits count) = take (min count 8) bits
bits_in (Many bits) = bits.items

-- at most eight
abbrev pub IsFew : Marks → Type 0
IsFew (Few bits count) = ⊤
IsFew (Many bits) = ⊥
