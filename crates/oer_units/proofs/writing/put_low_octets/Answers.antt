use Rattle.std.proofs.Common.{subst}
use Rattle.oer_units.specs.Writing.{Puts}
use Rattle.oer_units.proofs.Needed.{headed}
use Rattle.oer_units.proofs.writing.put_low_octets.Goals as goal

pub returns : goal.returns
returns g c = subst (λ l. Puts l (g.W.Sink.contents c.args.w.now) (g.W.Sink.failed c.args.w.now) c.put_octets.result (g.W.Sink.contents c.put_octets.new.w) (g.W.Sink.failed c.put_octets.new.w)) (headed c.args.count c.args.n c.args.head c.to_be_bytes.result c.copy_from_slice.new.self c.requires c.to_be_bytes.ensures c.copy_from_slice.ensures.after) c.put_octets.ensures
