use Rattle.std.proofs.Common.{◌-◌, ◌∙◌, sym, ap, List, ℕ, arith, drop, take, length, length-drop}
use Rattle.oer_units.specs.declared.fault.Why.TheVariants.{End}
use Rattle.oer_units.specs.Reader.{at, got, refused}
use Rattle.oer_units.proofs.ReadGroups.{group_over, group_short, group_there}
use Rattle.oer_checker.proofs.BitLists.{none_left, take_all}
use Rattle.oer_checker.proofs.units.group_at.Goals as goal

pub returns-then-count-at : goal.returns-then-count-at
returns-then-count-at c = sym (group_over c.args.count c.args.at.now.rest.now c.args.at.now.left c.if-count-at.true)

pub returns-then-count-rest : goal.returns-then-count-rest
returns-then-count-rest c =
    let xs = c.args.at.now.rest.now in
    ap (λ (l : List ℕ). refused End l) (none_left xs) ∙ sym (group_short c.args.count xs c.args.at.now.left c.if-count-at.false c.if-count-rest.true)

pub returns : goal.returns
returns c =
    let xs = c.args.at.now.rest.now in
    ap (λ (l : List ℕ). got (take c.args.count xs) (at l (c.args.at.now.left - c.args.count))) (take_all (length xs - c.args.count) (drop c.args.count xs) (omega (arith, length-drop c.args.count xs)))
    ∙ sym (group_there c.args.count xs c.args.at.now.left c.if-count-at.false c.if-count-rest.false)
