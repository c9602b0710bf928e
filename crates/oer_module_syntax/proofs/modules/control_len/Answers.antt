use Rattle.std.proofs.Common.{sym, ◌∙◌, arith, add-one}
use Rattle.oer_module_syntax.proofs.Spots.{control_stop, control_more, control_over}
use Rattle.oer_module_syntax.proofs.modules.control_len.Goals as goal

pub returns-then-is_end-clause-value : goal.returns-then-is_end-clause-value
returns-then-is_end-clause-value c =
    let l = c.loop-n in
    let known = l.invariant in
    let stop = control_stop c.args.spots.now l.n _ c.loop-n-test.true (sym c.is_end.ensures ∙ c.if-is_end.true) in
    omega arith

pub loop-n-preserved : goal.loop-n-preserved
loop-n-preserved c =
    let l = c.loop-n in
    let known = l.invariant in
    let more = control_more c.args.spots.now l.n _ c.loop-n-test.true (sym c.is_end.ensures ∙ c.if-is_end.false) in
    rw (add-one l.n) (omega arith)

pub returns-clause-value : goal.returns-clause-value
returns-clause-value c =
    let l = c.loop-n in
    let known = l.invariant in
    let over = control_over c.args.spots.now l.n c.loop-n-test.false in
    let whole = c.loop-n.auto.n-end in
    let past = c.loop-n-test.false in
    omega arith
