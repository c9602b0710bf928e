use Rattle.std.proofs.Common.{◌≡◌, map, drop}
use Rattle.oer_module_syntax.specs.Tree.{element_of, elements_from}
use Rattle.oer_module_tags.specs.Alternatives.{checked}
use Rattle.oer_module_tags.proofs.alternatives.check_each.Given as goal

-- none before is refused
abbrev pub invariant-loop-element : goal.invariant-loop-element
invariant-loop-element l =
    checked l.«module» (elements_from (map element_of l.elements)) ≡ checked l.«module» (elements_from (map element_of (drop l.element-index l.elements)))
