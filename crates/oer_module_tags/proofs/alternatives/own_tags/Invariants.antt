use Rattle.std.proofs.Common.{◌≡◌, ◌++◌, Ok, map, drop}
use Rattle.oer_module_names.specs.Views.{modules_in}
use Rattle.oer_module_syntax.specs.Tree.{element_of, elements_from}
use Rattle.oer_module_text.specs.Errors.{◌>>=◌}
use Rattle.oer_module_tags.specs.Alternatives.{own_tags}
use Rattle.oer_module_tags.proofs.alternatives.own_tags.Given as goal

-- the tags found and those of what is left are all of them
abbrev pub invariant-loop-element : goal.invariant-loop-element
invariant-loop-element l =
    own_tags (modules_in l.names) l.«module» (elements_from (map element_of l.elements))
    ≡ (own_tags (modules_in l.names) l.«module» (elements_from (map element_of (drop l.element-index l.elements))) >>= λ gs. Ok (l.tags.items ++ gs))
