use Rattle.oer_skeleton.proofs.Fitting.{skeletons_fit}
use Rattle.oer_skeleton.proofs.NoEnds.{skeletons_meet_no_end}
use Rattle.oer_skeleton.proofs.laws.skeletons.Goals as goal

pub returns-clause-fit : goal.returns-clause-fit
returns-clause-fit c = skeletons_fit

pub returns-clause-meet_no_end : goal.returns-clause-meet_no_end
returns-clause-meet_no_end c = skeletons_meet_no_end
