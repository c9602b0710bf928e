use Rattle.std.proofs.Common.{◌≡◌, ◌++◌, drop, map}
use Rattle.oer_module_syntax.specs.Tree.{element_of, elements_from}
use Rattle.oer_module_parts.specs.Automatic.{marks_of}
use Rattle.oer_module_parts.proofs.automatic.+marks.Given as goal

-- those found, and those of what is left, are all
abbrev pub invariant-add_marks-loop-element : goal.invariant-add_marks-loop-element
invariant-add_marks-loop-element l =
    l.initial.marks.items ++ marks_of (elements_from (map element_of l.elements))
    ≡ l.marks.items ++ marks_of (elements_from (map element_of (drop l.element-index l.elements)))
