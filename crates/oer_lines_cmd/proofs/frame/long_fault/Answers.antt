use Rattle.std.proofs.Common.{sym, subst}
use Rattle.oer_parts.specs.Walk.{path_of as steps_of}
use Rattle.oer_cmd.specs.Run.{IsPath}
use Rattle.oer_lines_cmd.specs.Tasks.{path_of}
use Rattle.oer_lines_cmd.specs.declared.task.LineTask.TheVariants.{Part}
use Rattle.oer_lines_cmd.proofs.TooLong.{bad_path, no_part, with_path, without_path}
use Rattle.oer_lines_cmd.proofs.frame.long_fault.Goals as goal

pub returns-in_default : goal.returns-in_default
returns-in_default c = λ path of. no_part c.args.asked.task c.args.asked.limit path c.in_default.not-Part

pub returns-in_default-path : goal.returns-in_default-path
returns-in_default-path c = λ path of. without_path c.args.asked.task c.in-Part.path c.args.asked.limit path c.in-Part.is c.in_default-path.not-Some of

pub returns-in-Ok : goal.returns-in-Ok
returns-in-Ok c = λ path of. with_path c.args.asked.task c.in-Part.path c.args.asked.limit path (steps_of c.in-Ok.field-0.items) c.in-Part.is
    (subst (λ t. IsPath (path_of (Part t)) (steps_of c.in-Ok.field-0.items)) (sym c.in-Some.is) c.in-Ok.ensures.spelt) of

pub returns-in-Form : goal.returns-in-Form
returns-in-Form c = λ path of. bad_path c.args.asked.task c.in-Part.path c.args.asked.limit path c.in-Part.is
    (λ p is. c.in-Err.ensures.form c.in-Form.is p (subst (λ t. IsPath (path_of (Part t)) p) c.in-Some.is is)) of
