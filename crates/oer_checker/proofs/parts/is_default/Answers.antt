use Rattle.std.proofs.Common.{◌^◌, ◌<◌, length, rules}
use Rattle.oer_values.specs.ShapeView.{type_of}
use Rattle.oer_values.specs.ValueView.{value_of}
use Rattle.oer_checker.proofs.FieldSteps.{default_is}
use Rattle.oer_checker.proofs.parts.is_default.Goals as goal

pub returns-in-Default : goal.returns-in-Default
returns-in-Default c =
    let few : length c.args.octets.now < 2 ^ 64 = search rules in
    rw c.in-Default.is (default_is (type_of c.args.field.now.shape) (value_of c.in-Default.value) c.args.octets.now c.equals.result c.computed_octets.ensures.given c.computed_octets.ensures.computed c.requires.limits (rw c.in-Default.is at c.requires.fits) few c.equals.ensures)
