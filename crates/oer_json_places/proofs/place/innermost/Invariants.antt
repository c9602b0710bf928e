use Rattle.std.proofs.Common.{◌≡◌, ◌-◌}
use Rattle.serde_json.specs.View.{view}
use Rattle.oer_model.specs.Limits.{max_depth}
use Rattle.oer_values.specs.ShapeView.{type_of}
use Rattle.oer_json_places.specs.Faultless.{IsFaultless}
use Rattle.oer_json_places.specs.Place.{behind, down}
use Rattle.oer_json_places.specs.Views.{hops_of}
use Rattle.oer_json_places.proofs.place.innermost.Given as goal

-- the steps so far lead to the part, which goes on
abbrev pub invariant-loop-level : goal.invariant-loop-level
invariant-loop-level l = record {
  same : down max_depth l.initial.fault (type_of l.initial.shape) (view l.initial.json) ≡ behind (hops_of l.path.items) (down
      (max_depth - l._level) l.initial.fault (type_of l.shape) (view l.json));
  well : IsFaultless (type_of l.shape);
}
