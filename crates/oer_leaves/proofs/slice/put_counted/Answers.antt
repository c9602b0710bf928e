use Rattle.std.proofs.Common.{length, refl}
use Rattle.oer_units.specs.Least.{length_octets}
use Rattle.oer_leaves.proofs.Steps.{wrote_then}
use Rattle.oer_leaves.proofs.slice.put_counted.Goals as goal

pub returns : goal.returns
returns g c = wrote_then c.put_slice.result _ c.in_ok-done.done (length_octets (length c.args.octets.now)) c.args.octets.now _ _ _ _ _ _ _ refl c.in_ok-done.ensures c.put_slice.ensures
