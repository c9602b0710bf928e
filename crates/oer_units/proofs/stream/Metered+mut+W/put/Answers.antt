use Rattle.std.proofs.Common.{◌∙◌}
use Rattle.oer_units.proofs.Sinks.{Appends-rest, room_left, took_some}
use Rattle.oer_units.proofs.stream.Metered+mut+W.put.Goals as goal

pub loop-at-preserved : goal.loop-at-preserved
loop-at-preserved g c = record {
  within = room_left c.loop-at.at c.in-Ok.taken c.args.octets.now c.loop-at.invariant.within c.in-Ok.ensures.bound;
  same = c.in-Ok.ensures.same ∙ c.loop-at.invariant.same;
  appends = Appends-rest _ _ _ c.loop-at.at c.in-Ok.taken c.args.octets.now c.loop-at.invariant.appends c.in-Ok.ensures.bytes;
  count = c.in-Ok.ensures.count ∙ took_some _ c.in-Ok.taken _ c.in-Ok.taken-test.1 ∙ c.loop-at.invariant.count;
}
