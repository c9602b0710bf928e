use Rattle.oer_values.specs.ShapeView.{type_of}
use Rattle.oer_notation.proofs.Soundness.{copy_sound}
use Rattle.oer_notation.proofs.parse.read_named.Goals as goal

pub returns-clause-sound : goal.returns-clause-sound
returns-clause-sound c = copy_sound (type_of c.shape.result.now) c.read_known.result c.shape.ensures.well_formed c.read_known.ensures.same
