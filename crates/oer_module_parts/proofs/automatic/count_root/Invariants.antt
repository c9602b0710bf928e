use Rattle.std.proofs.Common.{◌≡◌, ◌+◌, ◌≤◌, drop}
use Rattle.oer_module_parts.specs.Automatic.{root_count}
use Rattle.oer_module_parts.proofs.automatic.count_root.Given as goal

-- as many as so far, and those of what is left
abbrev pub invariant-loop-place : goal.invariant-loop-place
invariant-loop-place l = record {
  all : l.count + root_count (drop l.place-index l.places) ≡ root_count l.places;
  most : l.count ≤ l.place-index;
}
