use Rattle.std.proofs.Common.{arith}
use Rattle.std.proofs.lemmas.Grind.{common_steps}
use Rattle.oer_units.specs.Least.{subidentifier_octets}
use Rattle.oer_leaves.proofs.Steps.{wrote_then}
use Rattle.oer_leaves.proofs.leaf.put_all_arcs.Goals as goal

pub returns : goal.returns
returns g c = wrote_then c.put_arcs.result _ c.in_ok-done.done _ (subidentifier_octets c.in-Some-split_first.rest.now) _ _ _ _ _ _ _ (grind (arith, common_steps)) c.in_ok-done.ensures c.put_arcs.ensures
