-- A `Shape` without parts, beside what it stands for.
use Rattle.std.proofs.Common.{◌≡◌, rules}
use Rattle.oer_model.specs.AsnType.{boolean, null}
use Rattle.oer_values.specs.ShapeView.{type_of}
use Rattle.oer_values.specs.declared.shape.Shape.{Boolean, Null, the_lemmas}
use Rattle.oer_values.proofs.Shapes.{type_of-Integer, type_of-Enumerated, type_of-BitString, type_of-OctetString, type_of-Ia5, type_of-Visible, type_of-Numeric, type_of-Printable, type_of-Utf8, type_of-SequenceOf, type_of-Sequence, type_of-Choice}

pub type_of-Boolean : type_of Boolean ≡ boolean
type_of-Boolean = search (rules, the_lemmas)

pub type_of-Null : type_of Null ≡ null
type_of-Null = search (rules, the_lemmas)

-- each level of a type
pub ruleset shapes = (type_of-Boolean, type_of-Null, type_of-Integer, type_of-Enumerated, type_of-BitString, type_of-OctetString, type_of-Ia5, type_of-Visible, type_of-Numeric, type_of-Printable, type_of-Utf8, type_of-SequenceOf, type_of-Sequence, type_of-Choice)
