use Rattle.std.proofs.Common.{◌≡◌, rules, refl}
use Rattle.oer_model.specs.AsnType.{object_id}
use Rattle.oer_values.specs.ShapeView.{type_of}
use Rattle.oer_values.specs.declared.shape.Shape.{ObjectId, the_lemmas}
use Rattle.oer_module_leaves.proofs.leaf.write_plain.Goals as goal

type_of-ObjectId : type_of ObjectId ≡ object_id
type_of-ObjectId = search (rules, the_lemmas)

pub returns-in_ok-put-in-ObjectIdentifier : goal.returns-in_ok-put-in-ObjectIdentifier
returns-in_ok-put-in-ObjectIdentifier c =
    rw (c.in-ObjectIdentifier.is, c.in_ok-put-in-ObjectIdentifier.ensures, type_of-ObjectId) refl
