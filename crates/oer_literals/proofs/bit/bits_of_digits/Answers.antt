use Rattle.std.proofs.Common.{length, ap, ◌∙◌, arith}
use Rattle.oer_literals.proofs.Digits.{bits_whole, octets_count}
use Rattle.oer_literals.proofs.bit.bits_of_digits.Goals as goal

pub returns : goal.returns
returns c =
    let w = c.args.digits.now in
    let h = rw c.in_ok-octets.ensures at c.in-Ok.ensures in
    h.1 ∙ bits_whole (length w) w (omega arith)

pub unreachable-requires : goal.unreachable-requires
unreachable-requires c =
    let w = c.args.digits.now in
    absurd (c.in-Err.ensures.0 (ap length c.in_ok-octets.ensures ∙ octets_count (length w) w (omega arith)))
