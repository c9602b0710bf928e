use Rattle.std.proofs.Common.{◌≡◌, [], drop, sym, ap, ◌∙◌, arith}
use Rattle.oer_module_names.proofs.Allowed.{apart_none}
use Rattle.oer_module_names.proofs.Indexing.{past_drop}
use Rattle.oer_module_names.specs.Versions.{apart}
use Rattle.oer_module_names.proofs.version.shared_len.Goals as goal

pub returns-else-shared-has-clause-value : goal.returns-else-shared-has-clause-value
returns-else-shared-has-clause-value c =
    let l = c.loop-shared in
    let asked = drop l.shared c.args.asked.now in
    let none : drop l.shared c.args.has.now ≡ [] = past_drop c.args.has.now l.shared (let over = c.if-shared-has.false in omega (arith, over)) in
    l.invariant.0 ∙ ap (apart asked) none ∙ apart_none asked ∙ ap (λ ys. (asked, ys)) (sym none)
