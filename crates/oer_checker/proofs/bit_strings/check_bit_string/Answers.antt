use Rattle.oer_checker.proofs.Exits.{at_stop}
use Rattle.std.proofs.Common.{◌∙◌, ap}
use Rattle.oer_model.specs.Canonical.{bitmap_octets}
use Rattle.oer_model.specs.Checking.{are_least_bits}
use Rattle.oer_model.specs.Constraints.{fixed}
use Rattle.oer_checker.specs.BitView.{bits_in}
use Rattle.oer_checker.proofs.BitSteps.{counted_got, counted_stop, fixed_got, fixed_stop}
use Rattle.oer_checker.proofs.bit_strings.check_bit_string.Goals as goal

pub returns-in_err-octets : goal.returns-in_err-octets
returns-in_err-octets c = rw (at_stop c.from_residual.result c.in_err-octets.field-0.0 c.from_residual.ensures.1) (fixed_stop (fixed c.args.size.now) c.args.size.now _ c.in-Some.count _ _ c.in-Some.ensures (rw c.octets_needed.ensures.value at c.in_err-octets.ensures))

pub returns-in-Some : goal.returns-in-Some
returns-in-Some c = rw (c.ends_in_zeros.ensures, c.spare_bits.ensures.value) (fixed_got (fixed c.args.size.now) c.args.size.now _ _ c.in-Some.count c.in_ok-octets.octets.now c.in-Some.ensures (rw c.octets_needed.ensures.value at c.in_ok-octets.ensures))

pub returns-in_err-bits : goal.returns-in_err-bits
returns-in_err-bits c = rw (at_stop c.from_residual-in_err-bits.result c.in_err-bits.field-0.0 c.from_residual-in_err-bits.ensures.1) (counted_stop (fixed c.args.size.now) c.args.size.now _ _ _ c.in_default.ensures c.in_err-bits.ensures.bits)

pub returns : goal.returns
returns c = counted_got (fixed c.args.size.now) c.args.size.now _ _ (bits_in c.in_ok-bits.bits) c.are_least_bits.result c.in_default.ensures c.in_ok-bits.ensures.bits (c.are_least_bits.ensures (bits_in c.in_ok-bits.bits) c.in_ok-bits.ensures.whole.1 ∙ ap (are_least_bits bitmap_octets (bits_in c.in_ok-bits.bits)) c.octets_between.ensures)
