use Rattle.std.proofs.Common.{◌≤◌, ◌<◌, ◌∙◌, ap, length, map, get_or, subst}
use Rattle.oer_module_names.specs.Views.{modules_in}
use Rattle.oer_modules.proofs.Rounds.{definition_more, definitions_over}
use Rattle.oer_notation.specs.Defining.{known_of}
use Rattle.oer_modules.proofs.defined.add_module.Goals as goal

pub loop-assignment-preserved : goal.loop-assignment-preserved
loop-assignment-preserved c =
    let l = c.loop-assignment in
    let items = c.deref-assignment-items.ensures.value in
    let less = subst (λ xs. l.assignment-index < length xs) items c.loop-assignment-test.true in
    let at = c.assignment-item.is ∙ ap (λ xs. get_or xs l.assignment-index c.assignment-item.result) items in
    definition_more (modules_in c.args.names.now) c.args.nesting c.args.module.now.assignments.items l.assignment-index c.assignment-item.result _ (map known_of l.found.items) _
    less at l.invariant c.in_ok-add.ensures

pub returns : goal.returns
returns c =
    let l = c.loop-assignment in
    let over = subst (λ xs. length xs ≤ l.assignment-index) c.deref-assignment-items.ensures.value c.loop-assignment-test.false in
    definitions_over (modules_in c.args.names.now) c.args.nesting c.args.module.now.assignments.items l.assignment-index _ (map known_of l.found.items) over l.invariant
