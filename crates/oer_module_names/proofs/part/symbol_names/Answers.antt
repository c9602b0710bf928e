use Rattle.std.proofs.Common.{ap, ◌∙◌}
use Rattle.oer_module_names.proofs.Indexing.{symbols_named, pushed_all, texts}
use Rattle.oer_module_names.proofs.part.symbol_names.Goals as goal

pub returns : goal.returns
returns c =
    let l = c.loop-symbol in
    ap texts (pushed_all (λ x. x.name) l.names.items c.args.symbols.now l.symbol-index l.invariant c.loop-symbol-test.false) ∙ symbols_named c.args.symbols.now
