use Rattle.std.proofs.Common.{◌≡◌, get_or, rules}
use Rattle.oer_parts.proofs.Zeros.{zero_end, zero_more}
use Rattle.oer_parts.proofs.clear.are_zero.Goals as goal

pub loop-octet-preserved : goal.loop-octet-preserved
loop-octet-preserved c = λ e.
    let none : get_or c.args.octets.now c.loop-octet.octet-index 0 ≡ 0 = search rules in
    c.loop-octet.invariant (zero_more c.args.octets.now c.loop-octet.octet-index c.loop-octet-test.true none e)

pub returns : goal.returns
returns c = λ e. c.loop-octet.invariant (zero_end c.args.octets.now c.loop-octet.octet-index c.loop-octet-test.false)
