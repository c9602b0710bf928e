use Rattle.std.proofs.Common.{◌≡◌, map}
use Rattle.oer_types.specs.Schema.{the_type}
use Rattle.oer_values.specs.ShapeView.{type_of}
use Rattle.oer_at.specs.Hops.{hops_from, hops_of}
use Rattle.oer_at.specs.Names.{text_behind}
use Rattle.oer_at.proofs.Onward.{behind, rest_of}
use Rattle.oer_at.proofs.leading.hops.Given as goal

-- the hops so far, and those of the names that are left
abbrev pub invariant-loop-before : goal.invariant-loop-before
invariant-loop-before l = hops_of (the_type l.initial.schema) (map text_behind l.initial.names) ≡ behind l.hops.items (hops_from l.before (type_of l.shape) (rest_of l.initial.names l.before))
