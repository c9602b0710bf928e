use Rattle.std.proofs.Common.{◌≡◌, drop, map}
use Rattle.oer_module_names.specs.Views.{modules_in}
use Rattle.oer_module_syntax.specs.Tree.{assignment_of}
use Rattle.oer_modules.specs.Defined.{with_definitions}
use Rattle.oer_notation.specs.Defining.{known_of}
use Rattle.oer_modules.proofs.defined.add_module.Given as goal

-- what is found so far, with what is left
abbrev pub invariant-loop-assignment : goal.invariant-loop-assignment
invariant-loop-assignment l =
    with_definitions (modules_in l.names) l.nesting (map known_of l.found.items) (map assignment_of (drop l.assignment-index l.module.assignments.items))
    ≡ with_definitions (modules_in l.names) l.nesting (map known_of l.fn.found.items) (map assignment_of l.module.assignments.items)
