use Rattle.std.proofs.Common.{◌≡◌, drop, map}
use Rattle.oer_module_names.specs.Views.{modules_in}
use Rattle.oer_module_syntax.specs.Tree.{module_of}
use Rattle.oer_modules.specs.Listed.{entries_from, printed_after, printed_of}
use Rattle.oer_modules.specs.Texts.{library_of}
use Rattle.oer_modules.proofs.listing.Listing.add_modules.Given as goal

-- what is printed so far, with what is left
abbrev pub invariant-loop-number : goal.invariant-loop-number
invariant-loop-number l =
    printed_after (printed_of l.self)
    (entries_from (map (λ t. t.now) l.sources.texts.now) (library_of l.sources.library.now) (modules_in l.sources.names.now) l.sources.nesting l.number (map module_of (drop l.number l.modules)))
    ≡ printed_after (printed_of l.fn.self)
    (entries_from (map (λ t. t.now) l.sources.texts.now) (library_of l.sources.library.now) (modules_in l.sources.names.now) l.sources.nesting 0 (map module_of l.modules))
