use Rattle.std.proofs.Common.{◌≡◌, ap, arith, length, ◌++◌}
use Rattle.oer_units.specs.Least.{length_octets, object_id_octets}
use Rattle.oer_leaves.proofs.Steps.{wrote_then}
use Rattle.oer_leaves.proofs.leaf.put_object_id.Goals as goal

pub returns : goal.returns
returns g c =
    let same : length (object_id_octets c.args.arcs.now) ≡ c.in_ok-length.length = omega (arith, c.in_ok-length.ensures.0) in
    let contents = object_id_octets c.args.arcs.now in
    wrote_then c.put_all_arcs-2.result _ c.in_ok-done.done (length_octets c.in_ok-length.length) contents _ _ _ _ _ _ _ (ap (λ n. length_octets n ++ contents) same) c.in_ok-done.ensures c.put_all_arcs-2.ensures
