-- A `Shape` without parts, beside what it stands for.
use Rattle.std.proofs.Common.{◌≡◌, rules}
use Rattle.oer_model.specs.AsnType.{boolean, null}
use Rattle.oer_values.specs.ShapeView.{type_of}
use Rattle.oer_values.specs.declared.shape.Shape.{Boolean, Null, the_lemmas}

pub type_of-Boolean : type_of Boolean ≡ boolean
type_of-Boolean = search (rules, the_lemmas)

pub type_of-Null : type_of Null ≡ null
type_of-Null = search (rules, the_lemmas)
