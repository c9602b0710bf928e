use Rattle.std.proofs.Common.{take, map}
use Rattle.oer_module_syntax.specs.Tree.{module_of}
use Rattle.oer_module_names.specs.Indexed.{ArePartsOf}
use Rattle.oer_module_names.proofs.part.parts_of.Given as goal

-- the Parts of the modules before
abbrev pub invariant-loop-module : goal.invariant-loop-module
invariant-loop-module l = ArePartsOf l.parts.items (map module_of (take l.module-index l.modules))
