use Rattle.std.proofs.Common.{◌≡◌, [], drop, map}
use Rattle.oer_module_names.specs.Views.{modules_in}
use Rattle.oer_module_syntax.specs.Tree.{module_of}
use Rattle.oer_modules.specs.Defined.{with_each}
use Rattle.oer_notation.specs.Defining.{known_of}
use Rattle.oer_modules.proofs.defined.of_each.Given as goal

-- what is found so far, with what is left
abbrev pub invariant-loop-module : goal.invariant-loop-module
invariant-loop-module l =
    with_each (modules_in l.names) l.nesting (map known_of l.found.items) (map module_of (drop l.module-index l.modules))
    ≡ with_each (modules_in l.names) l.nesting [] (map module_of l.modules)
