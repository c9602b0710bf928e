use Rattle.std.proofs.Common.{◌≡◌, drop}
use Rattle.serde_json.specs.View.{members_view}
use Rattle.oer_values.specs.ShapeView.{additions_of}
use Rattle.oer_json_places.specs.Faultless.{AdditionsAreFaultless}
use Rattle.oer_json_places.specs.Next.{additions_next}
use Rattle.oer_json_places.proofs.next.additions_next.Given as goal

-- none before is at fault
abbrev pub invariant-loop-addition : goal.invariant-loop-addition
invariant-loop-addition l = record {
  same : additions_next l.fault (additions_of l.additions) (members_view l.members.entries) ≡ additions_next l.fault (additions_of
      (drop l.addition-index l.additions)) (members_view l.members.entries);
  well : AdditionsAreFaultless (additions_of (drop l.addition-index l.additions));
}
