use Rattle.std.proofs.Common.{ap, ◌∙◌}
use Rattle.oer_module_names.proofs.Indexing.{sources_named, pushed_all, texts}
use Rattle.oer_module_names.proofs.part.source_names.Goals as goal

pub returns : goal.returns
returns c =
    let l = c.loop-import in
    ap texts (pushed_all (λ x. x.from) l.names.items c.args.imports.now l.import-index l.invariant c.loop-import-test.false) ∙ sources_named c.args.imports.now
