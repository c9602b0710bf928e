use Rattle.std.proofs.Common.{◌≡◌, drop, map}
use Rattle.oer_module_defaults.specs.Alternatives.{index_of}
use Rattle.oer_module_defaults.specs.Views.{component_of}
use Rattle.oer_module_defaults.proofs.alternative.index_of.Given as goal

-- none before has the name
abbrev pub invariant-loop-index : goal.invariant-loop-index
invariant-loop-index l =
    index_of 0 l.name (map component_of l.components) ≡ index_of l.index l.name (map component_of (drop l.index l.components))
