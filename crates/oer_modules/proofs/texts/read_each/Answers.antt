use Rattle.std.proofs.Common.{◌∙◌, map}
use Rattle.std.proofs.lemmas.Result.{err_from_is_err_and}
use Rattle.oer_modules.proofs.Readings.{read_err, read_more, read_over}
use Rattle.oer_modules.specs.Texts.{library_of}
use Rattle.oer_modules.proofs.texts.read_each.Goals as goal

pub returns-in_err-read : goal.returns-in_err-read
returns-in_err-read c =
    let l = c.loop-text in
    let p = err_from_is_err_and c.from_residual.result c.from_residual.ensures.1 in
    rw (p.1, p.2) (λ not_memory. read_err c.args.tokens.now l.text (library_of l.library) _ l.invariant c.index-tokens-text.result _
    c.loop-text-test.true c.index-tokens-text.is (c.in_err-read.ensures not_memory))

pub loop-text-preserved : goal.loop-text-preserved
loop-text-preserved c =
    let l = c.loop-text in
    read_more c.args.tokens.now l.text (library_of l.library) _ l.invariant c.index-tokens-text.result _ c.loop-text-test.true c.index-tokens-text.is c.in_ok-read.ensures

pub returns : goal.returns
returns c =
    let l = c.loop-text in
    read_over c.args.tokens.now l.text (library_of l.library) _ l.invariant c.loop-text-test.false
