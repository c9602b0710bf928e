use Rattle.oer_values.specs.ShapeView.{type_of}
use Rattle.oer_compare.proofs.Told.{extends_told}
use Rattle.oer_compare.proofs.comparing.compare.Goals as goal

pub returns-clause-extends : goal.returns-clause-extends
returns-clause-extends c = extends_told c.types.result (type_of c.args.old.now) (type_of c.args.new.now) c.types.ensures
