use Rattle.std.proofs.Common.{refl}
use Rattle.oer_units.specs.Least.{counted, tag_octets}
use Rattle.oer_leaves.proofs.Steps.{wrote_then}
use Rattle.oer_leaves.proofs.leaf.put_foreign.Goals as goal

pub returns : goal.returns
returns g c = wrote_then c.put_counted.result _ c.in_ok-done.done (tag_octets c.args.tag) (counted c.args.octets.now) _ _ _ _ _ _ _ refl c.in_ok-done.ensures c.put_counted.ensures
