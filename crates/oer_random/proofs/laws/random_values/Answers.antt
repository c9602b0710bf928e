use Rattle.oer_random.proofs.Fitting.{drawn_fit}
use Rattle.oer_random.proofs.NoEnds.{drawn_meet_no_end}
use Rattle.oer_random.proofs.laws.random_values.Goals as goal

pub returns-clause-fit : goal.returns-clause-fit
returns-clause-fit c = drawn_fit

pub returns-clause-meet_no_end : goal.returns-clause-meet_no_end
returns-clause-meet_no_end c = drawn_meet_no_end
