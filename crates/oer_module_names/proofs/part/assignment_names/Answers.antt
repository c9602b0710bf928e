use Rattle.std.proofs.Common.{ap, ◌∙◌}
use Rattle.oer_module_names.proofs.Indexing.{assignments_named, pushed_all, texts}
use Rattle.oer_module_names.proofs.part.assignment_names.Goals as goal

pub returns : goal.returns
returns c =
    let l = c.loop-assignment in
    ap texts (pushed_all (λ x. x.name) l.names.items c.args.assignments.now l.assignment-index l.invariant c.loop-assignment-test.false) ∙ assignments_named c.args.assignments.now
