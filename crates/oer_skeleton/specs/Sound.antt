-- Types in which each ENUMERATED has an item, and each CHOICE an alternative before the extension marker.
use Rattle.oer_model.specs.AsnType.{Additions, Alternatives, AsnType, Fields}
use Rattle.oer_model.specs.WellFormed.{HasNoItems, InAdditions, InAlternatives, InFields, Somewhere}

abbrev pub HasItems : AsnType → Type 0
HasItems T = Somewhere HasNoItems T → ⊥

abbrev pub FieldsHaveItems : Fields → Type 0
FieldsHaveItems fs = InFields HasNoItems fs → ⊥

abbrev pub AdditionsHaveItems : Additions → Type 0
AdditionsHaveItems more = InAdditions HasNoItems more → ⊥

abbrev pub AlternativesHaveItems : Alternatives → Type 0
AlternativesHaveItems more = InAlternatives HasNoItems more → ⊥
