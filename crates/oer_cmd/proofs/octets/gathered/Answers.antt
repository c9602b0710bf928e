use Rattle.oer_cmd.proofs.Exact.{within_stop, within_value}
use Rattle.oer_cmd.proofs.octets.gathered.Goals as goal

pub returns-in-Ok-clause-exact : goal.returns-in-Ok-clause-exact
returns-in-Ok-clause-exact g c = λ b is.
    let same = rw is at c.in-Ok.ensures.all in rw same (within_value c.args.limit c.in-Ok.octets.items c.in-Ok.ensures.within)

pub returns-in-Err-Longer-clause-exact : goal.returns-in-Err-Longer-clause-exact
returns-in-Err-Longer-clause-exact g c = λ b is small. within_stop c.args.limit b (rw is at (c.in-Err-Longer.ensures.longer c.in-Err-Longer.field-0-is))
