use Rattle.std.proofs.Common.{map, sym, ap, ◌∙◌, string_bytes}
use Rattle.oer_values.specs.ShapeView.{fields_of}
use Rattle.oer_model.specs.WellFormed.{field_names}
use Rattle.oer_json.specs.Keys.{is_among}
use Rattle.oer_json.proofs.KeySteps.{keys_view}
use Rattle.oer_json_places.specs.Next.{first_other}
use Rattle.oer_json_places.proofs.keys.other_field.Goals as goal

pub loop-key-init : goal.loop-key-init
loop-key-init c =
    let f = first_other (is_among (field_names (fields_of c.args.fields.now))) in
    ap f (keys_view c.args.map.now.entries) ∙ ap (λ ks. f (map string_bytes ks)) (sym (c.into_iter-key-iterator.ensures.into_iter_gives
    ∙ c.keys-key-items.ensures.rest))
