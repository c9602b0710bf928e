use Rattle.std.proofs.Common.{[], map, sym, ap, ◌∙◌, string_bytes}
use Rattle.oer_json.specs.Keys.{places_in}
use Rattle.oer_json.proofs.KeySteps.{keys_view}
use Rattle.oer_json.proofs.keys.places_in.Goals as goal

pub loop-key-init : goal.loop-key-init
loop-key-init c =
    let f = places_in [] in
    ap f (keys_view c.args.map.now.entries) ∙ ap (λ ks. places_in [] (map string_bytes ks)) (sym (c.into_iter-key-iterator.ensures.into_iter_gives ∙ c.keys-key-items.ensures.rest))
    ∙ ap (λ ns. places_in ns (map string_bytes c.into_iter-key-iterator.result)) (sym c.new-places.ensures.empty)
