use Rattle.oer_model.proofs.canonical.Again.{canon_stays, rewrite_twice}
use Rattle.oer_model.proofs.laws.rewriting.Goals as goal

pub returns-clause-stays : goal.returns-clause-stays
returns-clause-stays c = canon_stays

pub returns-clause-twice : goal.returns-clause-twice
returns-clause-twice c = rewrite_twice
