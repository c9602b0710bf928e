use Rattle.std.proofs.Common.{◌≤◌, ◌<◌, ◌∙◌, ap, length, map, get_or, subst}
use Rattle.oer_module_names.specs.Views.{modules_in}
use Rattle.oer_modules.proofs.Listings.{assignment_more, assignments_over}
use Rattle.oer_modules.specs.Listed.{printed_of}
use Rattle.oer_modules.specs.Texts.{library_of}
use Rattle.oer_modules.proofs.listing.Listing.add_module.Goals as goal

pub loop-assignment-preserved : goal.loop-assignment-preserved
loop-assignment-preserved c =
    let l = c.loop-assignment in
    let s = c.args.sources in
    let items = c.deref-assignment-items.ensures.value in
    let less = subst (λ xs. l.assignment-index < length xs) items c.loop-assignment-test.true in
    let at = c.assignment-item.is ∙ ap (λ xs. get_or xs l.assignment-index c.assignment-item.result) items in
    assignment_more (map (λ t. t.now) s.texts.now) (library_of s.library.now) (modules_in s.names.now) s.nesting c.args.number
    c.args.module.now.assignments.items l.assignment-index c.assignment-item.result _ (printed_of l.self) _ less at l.invariant c.in_ok-add.ensures

pub returns : goal.returns
returns c =
    let l = c.loop-assignment in
    let s = c.args.sources in
    let over = subst (λ xs. length xs ≤ l.assignment-index) c.deref-assignment-items.ensures.value c.loop-assignment-test.false in
    assignments_over (map (λ t. t.now) s.texts.now) (library_of s.library.now) (modules_in s.names.now) s.nesting c.args.number
    c.args.module.now.assignments.items l.assignment-index _ (printed_of l.self) over l.invariant
