use Rattle.std.proofs.Common.{◌≡◌, drop}
use Rattle.serde_json.specs.View.{items_view}
use Rattle.oer_values.specs.ShapeView.{type_of}
use Rattle.oer_json_places.specs.Next.{items_next}
use Rattle.oer_json_places.proofs.next.items_next.Given as goal

-- none before is at fault
abbrev pub invariant-loop-index : goal.invariant-loop-index
invariant-loop-index l = items_next l.fault (type_of l.shape) 0 (items_view l.items) ≡ items_next l.fault (type_of l.shape) l.index
    (items_view (drop l.index l.items))
