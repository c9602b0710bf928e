use Rattle.std.proofs.lemmas.Result.{on_ok_weaker}
use Rattle.oer_entries.proofs.Taken.{none_taken, one_taken}
use Rattle.oer_entries.proofs.entries.take_some.Goals as goal

pub returns-then-is_empty : goal.returns-then-is_empty
returns-then-is_empty g c = none_taken g.E.TakeEntry.takes c.args.taker.now

pub returns : goal.returns
returns g c = on_ok_weaker c.take.result (λ h. one_taken g.E.TakeEntry.takes c.args.taker.now c.take.new.self c.entry.result h) c.take.ensures
