use Rattle.std.proofs.Common.{◌≡◌, ◌≤◌, ◌++◌, drop}
use Rattle.oer_module_parts.specs.Automatic.{places_of}
use Rattle.oer_module_parts.proofs.automatic.places_of.Given as goal

-- those found, and those of what is left, are all
abbrev pub invariant-loop-mark : goal.invariant-loop-mark
invariant-loop-mark l = record {
  all : places_of 0 l.marks ≡ l.places.items ++ places_of l.markers (drop l.mark-index l.marks);
  most : l.markers ≤ l.mark-index;
}
