-- The widths of numbers.
use Rattle.oer_model.specs.AsnType.{AsnType, leaf, sequence_of}
use Rattle.oer_model.specs.Widths.{HasSizeWidths, LeafHasWidths}

-- the numbers of the type itself have their widths, without those of the types in it
abbrev pub OwnWidths : AsnType → Type 0
OwnWidths (leaf kind) = LeafHasWidths kind
OwnWidths (sequence_of s T) = HasSizeWidths s
OwnWidths T = Unit {0}
