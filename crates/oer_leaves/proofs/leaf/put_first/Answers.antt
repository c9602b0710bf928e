use Rattle.std.proofs.Common.{refl, replicate}
use Rattle.oer_leaves.proofs.Steps.{same_wrote}
use Rattle.oer_leaves.proofs.Numbers.{two_arcs}
use Rattle.oer_leaves.proofs.leaf.put_first.Goals as goal

pub returns : goal.returns
returns g c = same_wrote c.put_slice.result _ _ _ _ _ _ _ (two_arcs c.args.first c.args.second c.fill_upper-from.result (replicate 20 0) c.fill_upper-from.new.buffer refl c.fill_upper-from.array_long c.fill_upper-from.ensures.most c.fill_upper-from.ensures.digits) c.put_slice.ensures
