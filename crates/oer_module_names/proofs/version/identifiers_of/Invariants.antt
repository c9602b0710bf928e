use Rattle.std.proofs.Common.{◌≡◌, map, option_map, take}
use Rattle.oer_module_syntax.specs.Tree.{module_of}
use Rattle.oer_module_names.specs.Tables.{identifiers}
use Rattle.oer_module_names.proofs.version.identifiers_of.Given as goal

-- those of the modules before
abbrev pub invariant-loop-module : goal.invariant-loop-module
invariant-loop-module l = map (option_map (λ a. a.items)) l.found.items ≡ identifiers (map module_of (take l.module-index l.modules))
