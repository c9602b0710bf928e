use Rattle.std.proofs.Common.{ap, ◌∙◌}
use Rattle.oer_module_names.proofs.Indexing.{modules_named, pushed_all, texts}
use Rattle.oer_module_names.proofs.part.module_names.Goals as goal

pub returns : goal.returns
returns c =
    let l = c.loop-module in
    ap texts (pushed_all (λ x. x.name) l.names.items c.args.modules.now l.module-index l.invariant c.loop-module-test.false) ∙ modules_named c.args.modules.now
