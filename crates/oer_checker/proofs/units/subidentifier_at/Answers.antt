use Rattle.std.proofs.Common.{◌∙◌, refl}
use Rattle.oer_checker.proofs.UnitSteps.{sub_err, sub_ok}
use Rattle.oer_checker.proofs.units.subidentifier_at.Goals as goal

pub returns-in-Ok-clause-size : goal.returns-in-Ok-clause-size
returns-in-Ok-clause-size c = c.after.ensures ∙ sub_ok c.args.content _ c.args.at.now.rest.now c.args.at.now.left _ _ c.in-Ok.field-0 _ c.taken-taken.result c.new-w.ensures refl c.in-Ok.ensures.reads refl c.taken-taken.ensures

pub returns-in-Err-clause-size : goal.returns-in-Err-clause-size
returns-in-Err-clause-size c = c.after-in-Err.ensures ∙ sub_err c.args.content _ c.args.at.now.rest.now c.args.at.now.left _ _ c.in-Err.fault c.taken-taken.result c.new-w.ensures refl c.in-Err.ensures.memory c.in-Err.ensures.reads
