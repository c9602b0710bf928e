use Rattle.std.proofs.Common.{map}
use Rattle.std.proofs.lemmas.Result.{err_from_is_err_and}
use Rattle.oer_module_names.specs.Views.{modules_in}
use Rattle.oer_module_text.specs.Room.{room_of}
use Rattle.oer_module_defaults.proofs.Rounds.{elements_err}
use Rattle.oer_module_defaults.specs.Components.{roots_at}
use Rattle.oer_module_defaults.specs.Views.{component_of}
use Rattle.oer_module_defaults.proofs.component.+listing.Goals as goal

pub list_elements-returns-in_err-list_element-clause-list : goal.list_elements-returns-in_err-list_element-clause-list
list_elements-returns-in_err-list_element-clause-list t c =
    let l = c.loop-element in
    let p = err_from_is_err_and c.from_residual.result c.from_residual.ensures.1 in
    rw (p.1, p.2) (λ not_memory. elements_err (roots_at (modules_in c.args.scope.names.now) c.args.levels) l.here c.args.elements.now l.element-index
    (map component_of l.found.items) (room_of l.room) _ l.invariant.list c.element-item.result c.loop-element-test.true c.element-item.is
    (c.in_err-list_element.ensures.list not_memory))
