use Rattle.oer_compare.proofs.BothWays.{both_ways}
use Rattle.oer_compare.proofs.Complete.{complete}
use Rattle.oer_compare.proofs.Onward.{extends_onward}
use Rattle.oer_compare.proofs.laws.comparing.Goals as goal

pub returns-clause-complete : goal.returns-clause-complete
returns-clause-complete c = complete

pub returns-clause-both_ways : goal.returns-clause-both_ways
returns-clause-both_ways c = both_ways

pub returns-clause-onward : goal.returns-clause-onward
returns-clause-onward c = extends_onward
