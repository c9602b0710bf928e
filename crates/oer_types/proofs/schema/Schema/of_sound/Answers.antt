use Rattle.std.proofs.Common.{refl, sym}
use Rattle.oer_values.specs.ShapeView.{type_of}
use Rattle.oer_model.proofs.faults.Faults.{first_is, well_formed}
use Rattle.oer_types.proofs.schema.Schema.of_sound.Goals as goal

pub invariant_of-result : goal.invariant_of-result
invariant_of-result c = record { well_formed = well_formed (type_of c.args.shape) (c.in-None.ensures.widths refl) (sym c.in-None.ensures.first) }

pub returns-in-Some : goal.returns-in-Some
returns-in-Some c = (first_is (type_of c.args.shape) c.in-Some.fault (sym c.in-Some.ensures.first), refl)
