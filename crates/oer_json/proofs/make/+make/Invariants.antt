use Rattle.std.proofs.Common.{◌≡◌, drop, map}
use Rattle.serde_json.specs.View.{members_view, view}
use Rattle.oer_values.specs.ShapeView.{additions_of, fields_of, type_of}
use Rattle.oer_values.specs.ValueView.{places_of, values_of}
use Rattle.oer_json.specs.Made.{made, made_items, put_additions, put_fields}
use Rattle.oer_json.proofs.Making.{before_items}
use Rattle.oer_json.proofs.make.+make.Given as goal

-- what is left gives the whole

abbrev pub invariant-put_fields-loop-field : goal.invariant-put_fields-loop-field
invariant-put_fields-loop-field l = put_fields (fields_of l.fields) (places_of l.places) (members_view l.fn.members.entries) ≡ put_fields (fields_of (drop l.field-index l.fields)) (places_of l.rest) (members_view l.members.entries)

abbrev pub invariant-put_additions-loop-addition : goal.invariant-put_additions-loop-addition
invariant-put_additions-loop-addition l =
    put_additions (additions_of l.additions) (places_of l.places) (members_view l.fn.members.entries) ≡ put_additions (additions_of (drop l.addition-index l.additions)) (places_of l.rest) (members_view l.members.entries)

abbrev pub invariant-items_json-loop-value : goal.invariant-items_json-loop-value
invariant-items_json-loop-value l =
    made_items (made (type_of l.item)) (values_of l.values) ≡ before_items (map view l.items.items) (made_items (made (type_of l.item)) (values_of (drop l.value-index l.values)))
