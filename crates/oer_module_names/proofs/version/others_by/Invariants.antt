use Rattle.std.proofs.Common.{take, map, option_map}
use Rattle.oer_module_syntax.specs.Tree.{module_of}
use Rattle.oer_module_names.specs.Indexed.{AreOthersOf, held}
use Rattle.oer_module_names.proofs.version.others_by.Given as goal

-- those of the modules before
abbrev pub invariant-loop-module : goal.invariant-loop-module
invariant-loop-module l = AreOthersOf (held l.by_name) (map (option_map (λ a. a.items)) l.found) l.others.items (map module_of (take l.module-index l.modules))
