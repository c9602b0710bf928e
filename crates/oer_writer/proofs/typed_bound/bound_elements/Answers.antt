use Rattle.std.proofs.Common.{◌∙◌, eqb-true, length, subst, sym}
use Rattle.oer_values.specs.ShapeView.{type_of}
use Rattle.oer_values.specs.ValueView.{values_of}
use Rattle.oer_writer.specs.TypeBounds.{HasMost}
use Rattle.oer_writer.proofs.TypeBounds.{elements_given, elements_most, elements_none}
use Rattle.oer_writer.proofs.typed_bound.bound_elements.Goals as goal

pub returns-then-is_empty : goal.returns-then-is_empty
returns-then-is_empty c =
    let none = eqb-true (length c.args.values.now) 0 (sym c.is_empty.ensures ∙ c.if-is_empty.true) in
    elements_none (type_of c.args.item.now) c.args.done c.args.values.now none

pub returns-in_ok-times-in-Some : goal.returns-in_ok-times-in-Some
returns-in_ok-times-in-Some c =
    let m = c.in-Some.most in
    elements_most (type_of c.args.item.now) c.args.done m c.in_ok-times-in-Some.field-0 c.args.values.now c.plus.result (subst (λ o. HasMost (type_of c.args.item.now) o) c.in-Some.is c.most.ensures) c.in_ok-times-in-Some.ensures c.plus.ensures

pub returns-in-None : goal.returns-in-None
returns-in-None c = elements_given (type_of c.args.item.now) c.args.done (values_of c.args.values.now) c.bound_values.result c.bound_values.ensures
