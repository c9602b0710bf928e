use Rattle.oer_values.specs.ShapeView.{type_of}
use Rattle.oer_model.proofs.faults.Faults.{defaults_fit}
use Rattle.oer_types.proofs.schema.Schema.shape.Goals as goal

pub returns-clause-defaults : goal.returns-clause-defaults
returns-clause-defaults c = defaults_fit (type_of c.args.self.now.shape) c.args.self.now.well_formed
