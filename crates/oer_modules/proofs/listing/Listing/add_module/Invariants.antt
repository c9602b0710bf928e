use Rattle.std.proofs.Common.{◌≡◌, drop, map}
use Rattle.oer_module_names.specs.Views.{modules_in}
use Rattle.oer_module_syntax.specs.Tree.{assignment_of}
use Rattle.oer_modules.specs.Listed.{entries_of, printed_after, printed_of}
use Rattle.oer_modules.specs.Texts.{library_of}
use Rattle.oer_modules.proofs.listing.Listing.add_module.Given as goal

-- what is printed so far, with what is left
abbrev pub invariant-loop-assignment : goal.invariant-loop-assignment
invariant-loop-assignment l =
    printed_after (printed_of l.self)
    (entries_of (map (λ t. t.now) l.sources.texts.now) (library_of l.sources.library.now) (modules_in l.sources.names.now) l.sources.nesting l.number
    (map assignment_of (drop l.assignment-index l.module.assignments.items)))
    ≡ printed_after (printed_of l.fn.self)
    (entries_of (map (λ t. t.now) l.sources.texts.now) (library_of l.sources.library.now) (modules_in l.sources.names.now) l.sources.nesting l.number (map assignment_of l.module.assignments.items))
