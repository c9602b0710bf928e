use Rattle.std.proofs.Common.{◌≡◌, drop, Ok, Result}
use Rattle.serde_json.specs.View.{items_view, members_view, view}
use Rattle.oer_model.specs.AsnType.{no_alternatives}
use Rattle.oer_model.specs.AsnValue.{AsnValue}
use Rattle.oer_values.specs.ShapeView.{additions_of, fields_of, root_of, type_of}
use Rattle.oer_values.specs.ValueView.{attached}
use Rattle.oer_json.specs.Answer.{◌>>=◌}
use Rattle.oer_json.specs.Take.{take, take_additions, take_alternative, take_fields, take_items}
use Rattle.oer_json.specs.declared.fault.JsonFault.{JsonFault}
use Rattle.oer_json.proofs.Taking.{before_values}
use Rattle.oer_json.proofs.take.+take.Given as goal

-- what is there and what is left are the whole

abbrev pub invariant-take_fields-loop-field : goal.invariant-take_fields-loop-field
invariant-take_fields-loop-field l =
    take_fields (fields_of l.fields) (members_view l.members.entries) ≡ (take_fields (fields_of (drop l.field-index l.fields)) (members_view l.members.entries) >>= λ ps. Ok (attached l.places.items ps))

abbrev pub invariant-take_additions-loop-addition : goal.invariant-take_additions-loop-addition
invariant-take_additions-loop-addition l =
    take_additions (additions_of l.additions) (members_view l.members.entries) ≡ (take_additions (additions_of (drop l.addition-index l.additions)) (members_view l.members.entries) >>= λ ps. Ok (attached l.places.items ps))

abbrev pub invariant-take_items-loop-json : goal.invariant-take_items-loop-json
invariant-take_items-loop-json l = take_items (take (type_of l.item)) (items_view l.items) ≡ (take_items (take (type_of l.item)) (items_view (drop l.json-index l.items)) >>= λ vs. Ok (before_values l.values.items vs))

abbrev pub invariant-take_alternative-loop-alt : goal.invariant-take_alternative-loop-alt
invariant-take_alternative-loop-alt l =
    (otherwise : Result AsnValue JsonFault) → take_alternative otherwise (root_of l.alts no_alternatives) l.key (view l.json) ≡ take_alternative otherwise (root_of (drop l.alt-index l.alts) no_alternatives) l.key (view l.json)
