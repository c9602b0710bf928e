use Rattle.oer_canonical_cmd.proofs.Strictly.{made, none}
use Rattle.oer_canonical_cmd.proofs.run.strict_answer.Goals as goal

pub returns-in-Ok-clause-exact : goal.returns-in-Ok-clause-exact
returns-in-Ok-clause-exact g c = λ path of. made _ c.in-Ok.line c.strictly.result (c.in-Ok.ensures.exact path of) c.strictly.ensures

pub returns-in-Err-clause-exact : goal.returns-in-Err-clause-exact
returns-in-Err-clause-exact g c = λ path of. none _ c.in-Err.fault (c.in-Err.ensures.exact path of)
