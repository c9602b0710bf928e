use Rattle.std.proofs.Common.{sym}
use Rattle.std.proofs.lemmas.Result.{err_from_is_err_and}
use Rattle.oer_module_tags.proofs.Loops.{context_err}
use Rattle.oer_module_tags.proofs.alternatives.context_tags.Goals as goal

pub returns-in_err-tag : goal.returns-in_err-tag
returns-in_err-tag c =
    let l = c.loop-number in
    let p = err_from_is_err_and c.from_residual.result c.from_residual.ensures.1 in
    rw (p.1, p.2) (λ not_memory. context_err c.args.place c.args.numbers.now l.number-index l.tags.items _ l.invariant _ _ c.loop-number-test.true
    (sym c.in_err-tag.ensures))
