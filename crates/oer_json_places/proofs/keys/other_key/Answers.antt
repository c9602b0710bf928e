use Rattle.std.proofs.Common.{map, sym, ap, ◌∙◌, string_bytes}
use Rattle.oer_values.specs.ShapeView.{additions_of, fields_of}
use Rattle.oer_model.specs.WellFormed.{addition_names, field_names}
use Rattle.oer_json.specs.Take.{is_key}
use Rattle.oer_json.proofs.KeySteps.{keys_view}
use Rattle.oer_json_places.specs.Next.{first_other}
use Rattle.oer_json_places.proofs.keys.other_key.Goals as goal

pub loop-key-init : goal.loop-key-init
loop-key-init c =
    let f = first_other (is_key (field_names (fields_of c.args.root.now)) (addition_names (additions_of c.args.additions.now))) in
    ap f (keys_view c.args.map.now.entries) ∙ ap (λ ks. f (map string_bytes ks)) (sym (c.into_iter-key-iterator.ensures.into_iter_gives
    ∙ c.keys-key-items.ensures.rest))
