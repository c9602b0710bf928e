use Rattle.oer_model.proofs.filling.FillFits.{fill_fits}
use Rattle.oer_model.proofs.filling.FillTwice.{fill_twice}
use Rattle.oer_model.proofs.laws.filling.Goals as goal

pub returns-clause-fits : goal.returns-clause-fits
returns-clause-fits c = fill_fits

pub returns-clause-twice : goal.returns-clause-twice
returns-clause-twice c = fill_twice
