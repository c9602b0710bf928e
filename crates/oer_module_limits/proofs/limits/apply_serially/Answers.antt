use Rattle.std.proofs.Common.{◌<◌, ◌≤◌, suc, length, sym, ◌∙◌, arith}
use Rattle.oer_module_limits.proofs.Serial.{begin, turn, end}
use Rattle.oer_module_limits.proofs.limits.apply_serially.Goals as goal

pub loop-at-init : goal.loop-at-init
loop-at-init c = sym (begin c.args.constraints.now)

pub loop-at-preserved : goal.loop-at-preserved
loop-at-preserved c =
    let l = c.loop-at in
    let followed : suc l.at < length l.constraints = omega (arith, c.loop-at-test.true, c.saturating_sub-followed.ensures, l.auto.constraints) in
    l.invariant ∙ turn l.at l.constraints c.index-constraints-at.result followed

pub returns : goal.returns
returns c =
    let l = c.loop-at in
    let all : length l.constraints ≤ suc l.at = omega (arith, c.loop-at-test.false, c.saturating_sub-followed.ensures, l.auto.constraints) in
    sym (l.invariant ∙ end l.at l.constraints all)
