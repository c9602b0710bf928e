use Rattle.std.proofs.Common.{◌∙◌, true, ap}
use Rattle.oer_model.specs.AsnType.{ia5, null, numeric, printable, restricted_string, visible}
use Rattle.oer_values.specs.ShapeView.{type_of}
use Rattle.oer_values.proofs.Shapes.{type_of-Ia5, type_of-Numeric, type_of-Printable, type_of-Visible}
use Rattle.oer_checker.proofs.Joins.{give_got}
use Rattle.oer_checker.proofs.Shapes.{type_of-Null}
use Rattle.oer_checker.proofs.TypeSteps.{by_type}
use Rattle.oer_checker.proofs.leaf.check_leaf.Goals as goal

pub returns-in-Null : goal.returns-in-Null
returns-in-Null c = by_type (type_of c.args.shape.now) null _ _ (ap type_of c.in-Null.is ∙ type_of-Null) (give_got true _)

pub returns-in-Ia5 : goal.returns-in-Ia5
returns-in-Ia5 c = by_type (type_of c.args.shape.now) (restricted_string ia5 c.in-Ia5.size) _ _ (ap type_of c.in-Ia5.is ∙ type_of-Ia5 c.in-Ia5.size) c.check_text.ensures

pub returns-in-Visible : goal.returns-in-Visible
returns-in-Visible c = by_type (type_of c.args.shape.now) (restricted_string visible c.in-Visible.size) _ _ (ap type_of c.in-Visible.is ∙ type_of-Visible c.in-Visible.size) c.check_text-in-Visible.ensures

pub returns-in-Numeric : goal.returns-in-Numeric
returns-in-Numeric c = by_type (type_of c.args.shape.now) (restricted_string numeric c.in-Numeric.size) _ _ (ap type_of c.in-Numeric.is ∙ type_of-Numeric c.in-Numeric.size) c.check_text-in-Numeric.ensures

pub returns-in-Printable : goal.returns-in-Printable
returns-in-Printable c = by_type (type_of c.args.shape.now) (restricted_string printable c.in-Printable.size) _ _ (ap type_of c.in-Printable.is ∙ type_of-Printable c.in-Printable.size) c.check_text-in-Printable.ensures
