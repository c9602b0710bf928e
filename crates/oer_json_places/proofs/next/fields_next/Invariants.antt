use Rattle.std.proofs.Common.{◌≡◌, drop}
use Rattle.serde_json.specs.View.{members_view}
use Rattle.oer_values.specs.ShapeView.{fields_of}
use Rattle.oer_json_places.specs.Faultless.{FieldsAreFaultless}
use Rattle.oer_json_places.specs.Next.{fields_next}
use Rattle.oer_json_places.proofs.next.fields_next.Given as goal

-- none before is at fault
abbrev pub invariant-loop-field : goal.invariant-loop-field
invariant-loop-field l = record {
  same : fields_next l.fault (fields_of l.fields) (members_view l.members.entries) ≡ fields_next l.fault (fields_of
      (drop l.field-index l.fields)) (members_view l.members.entries);
  well : FieldsAreFaultless (fields_of (drop l.field-index l.fields));
}
