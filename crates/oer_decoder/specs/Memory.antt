-- The types whose values take no memory.
use Rattle.oer_model.specs.AsnType.{AsnType, boolean, enumerated, integer, null}

abbrev pub NeedsNoMemory : AsnType → Type 0
NeedsNoMemory boolean = Unit {0}
NeedsNoMemory null = Unit {0}
NeedsNoMemory (integer low high) = Unit {0}
NeedsNoMemory (enumerated numbers extensible) = Unit {0}
NeedsNoMemory T = ⊥
