use Rattle.std.proofs.Common.{[], sym, append-nil, arith}
use Rattle.oer_cmd.proofs.check.judged.Goals as goal

pub returns-in-Err-clause-none : goal.returns-in-Err-clause-none
returns-in-Err-clause-none c = λ all. c.in-Err.ensures.comes all.0 c.args.octets.now [] (sym (append-nil c.args.octets.now)) all.1

pub returns-then-verdict-octets-clause-none : goal.returns-then-verdict-octets-clause-none
returns-then-verdict-octets-clause-none c = λ all.
    let same = c.in-Ok.ensures.comes all.0 c.args.octets.now [] (sym (append-nil c.args.octets.now)) all.1 in absurd (omega (arith, same))
