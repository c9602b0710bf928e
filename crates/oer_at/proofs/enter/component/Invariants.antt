use Rattle.std.proofs.Common.{◌≡◌, drop}
use Rattle.oer_values.specs.ShapeView.{fields_of}
use Rattle.oer_at.specs.Hops.{find_field}
use Rattle.oer_at.proofs.enter.component.Given as goal

-- the name isn't among those before
abbrev pub invariant-loop-index : goal.invariant-loop-index
invariant-loop-index l = find_field 0 (fields_of l.fields) l.name ≡ find_field l.index (fields_of (drop l.index l.fields)) l.name
