-- The elements of a list of BOOLEANs.
use Rattle.std.proofs.Common.{◌≡◌, ◌∙◌, ℕ, List, Option, Result, ap, rules, subst, sym}
use Rattle.oer_model.specs.AsnType.{boolean}
use Rattle.oer_values.specs.ShapeView.{type_of}
use Rattle.oer_values.specs.ValueView.{values_of}
use Rattle.oer_values.specs.declared.shape.Shape.{Shape, Boolean, the_lemmas}
use Rattle.oer_values.specs.declared.value.Value.{Value}
use Rattle.oer_units.specs.declared.fault.SinkFault.{SinkFault}
use Rattle.oer_leaves.specs.Parts.{values_octets}
use Rattle.oer_leaves.specs.Wrote.{Measures, Wrote}

type_of-Boolean : type_of Boolean ≡ boolean
type_of-Boolean = search (rules, the_lemmas)

elements_same : (item : Shape) (vs : List Value) → item ≡ Boolean → values_octets boolean (values_of vs) ≡ values_octets (type_of item) (values_of vs)
elements_same item vs e = sym (ap (λ T. values_octets T (values_of vs)) (ap type_of e ∙ type_of-Boolean))

pub booleans_wrote : (r : Result ℕ SinkFault) (item : Shape) (vs : List Value) (done : ℕ) (old new : Option (List ℕ)) (f f' : ℕ) → item ≡ Boolean → Wrote done (values_octets boolean (values_of vs)) old f r new f' → Wrote done (values_octets (type_of item) (values_of vs)) old f r new f'
booleans_wrote r item vs done old new f f' e h = subst (λ l. Wrote done l old f r new f') (elements_same item vs e) h

pub booleans_measured : (o : Option ℕ) (item : Shape) (vs : List Value) (done : ℕ) → item ≡ Boolean → Measures done (values_octets boolean (values_of vs)) o → Measures done (values_octets (type_of item) (values_of vs)) o
booleans_measured o item vs done e h = subst (λ l. Measures done l o) (elements_same item vs e) h
