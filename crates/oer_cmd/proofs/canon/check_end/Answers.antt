use Rattle.std.proofs.Common.{ap, arith, length, take}
use Rattle.oer_cmd.proofs.Front.{nothing_left}
use Rattle.oer_cmd.proofs.canon.check_end.Goals as goal

pub returns-in-Ok-eq0-clause-exact : goal.returns-in-Ok-eq0-clause-exact
returns-in-Ok-eq0-clause-exact g c = λ b is. nothing_left _ _ (take c.in-Ok-eq0.field-0 c.pull.new.into) b c.args.taken c.in-Ok-eq0.ensures.bytes.0
    (c.in-Ok-eq0.ensures.bytes.1 c.in-Ok-eq0.field-0-test (omega arith)) (ap (λ n. length (take n c.pull.new.into)) c.in-Ok-eq0.field-0-test) is
