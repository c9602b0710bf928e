-- What follows the tag of a CHOICE.
use Rattle.oer_units.specs.Reader.{Reader, bind, choose, give}
use Rattle.oer_units.specs.Reading.{counted_octets}
use Rattle.oer_units.specs.declared.tagging.Tag.{Tag}
use Rattle.oer_model.specs.AsnType.{Alternatives}
use Rattle.oer_model.specs.AsnValue.{AsnValue, chosen, foreign}
use Rattle.oer_model.specs.Constraints.{has_tag}
use Rattle.oer_model.specs.Reading.{read_alternative}

-- what r reads, as the value of the alternative with the tag t
abbrev pub chosen_by : Tag → Reader AsnValue → Reader AsnValue
chosen_by t r = bind r (λ v. give (chosen t v))

-- the value of an alternative that has the tag, or else what r reads
abbrev pub by_tag : Alternatives → Tag → Reader AsnValue → Reader AsnValue
by_tag more t r = choose (has_tag t more) (chosen_by t (read_alternative more t)) r

-- an alternative that the type doesn't know
abbrev pub foreign_at : Tag → Reader AsnValue
foreign_at t = bind counted_octets (λ w. give (foreign t w))

-- what follows a tag that no alternative of the root has: one of those after the extension marker, or one that the type doesn't know
abbrev pub later_at : Alternatives → Tag → Reader AsnValue
later_at more t = by_tag more t (foreign_at t)
