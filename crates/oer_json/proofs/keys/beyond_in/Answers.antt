use Rattle.std.proofs.Common.{None, map, sym, ap, ◌∙◌, string_bytes}
use Rattle.oer_json.specs.Keys.{beyond_in}
use Rattle.oer_json.proofs.KeySteps.{keys_view}
use Rattle.oer_json.proofs.keys.beyond_in.Goals as goal

pub loop-key-init : goal.loop-key-init
loop-key-init c =
    let f = beyond_in None in
    ap f (keys_view c.args.map.now.entries) ∙ ap (λ ks. f (map string_bytes ks)) (sym (c.into_iter-key-iterator.ensures.into_iter_gives ∙ c.keys-key-items.ensures.rest))
