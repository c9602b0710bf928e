use Rattle.oer_checker.proofs.Exits.{at_stop}
use Rattle.std.proofs.Common.{sym}
use Rattle.oer_checker.proofs.BitSteps.{preamble_got, preamble_out, preamble_stop}
use Rattle.oer_checker.proofs.bit_strings.preamble.Goals as goal

pub returns-in_err-octets : goal.returns-in_err-octets
returns-in_err-octets c = rw (at_stop c.from_residual.result c.in_err-octets.field-0.0 c.from_residual.ensures.1) (preamble_stop c.args.count _ _ _ (rw c.octets_needed.ensures.value at c.in_err-octets.ensures))

pub returns-then-not-ends_in_zeros : goal.returns-then-not-ends_in_zeros
returns-then-not-ends_in_zeros c = preamble_out c.args.count _ _ c.in_ok-octets.octets.now (rw c.octets_needed.ensures.value at c.in_ok-octets.ensures) (sym (rw c.spare_bits.ensures.value at c.if-not-ends_in_zeros.ensures))

pub returns : goal.returns
returns c = preamble_got c.args.count _ _ c.in_ok-octets.octets.now (rw c.octets_needed.ensures.value at c.in_ok-octets.ensures) (sym (rw c.spare_bits.ensures.value at c.if-not-ends_in_zeros.ensures))
