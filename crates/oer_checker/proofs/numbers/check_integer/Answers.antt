use Rattle.oer_checker.proofs.Exits.{at_stop}
use Rattle.std.proofs.Common.{◌∙◌, SFits, ℤ, pos, ap, eqb, length, sym, unsigned_abs}
use Rattle.std.specs.Int.{w64, w128}
use Rattle.std.proofs.lemmas.Int.{to_z-of_z}
use Rattle.oer_units.specs.Least.{counted, signed_octets, unsigned_octets}
use Rattle.oer_units.specs.Width.{octets_of_width}
use Rattle.oer_model.specs.Constraints.{signed_counted, signed_fixed, unsigned_counted, unsigned_fixed}
use Rattle.oer_values.specs.FormView.{form_seen}
use Rattle.oer_checker.specs.Places.{place_of}
use Rattle.oer_checker.specs.Steps.{between}
use Rattle.oer_checker.proofs.NumberSteps.{integer_stop, integer_then, least_natural, signed_any, unsigned_got, unsigned_stop}
use Rattle.oer_checker.proofs.numbers.check_integer.Goals as goal

pub returns-in_err-number-in-UnsignedFixed : goal.returns-in_err-number-in-UnsignedFixed
returns-in_err-number-in-UnsignedFixed c = rw (at_stop c.from_residual.result c.in_err-number-in-UnsignedFixed.field-0.0 c.from_residual.ensures.1) (integer_stop c.args.low c.args.high (unsigned_fixed (octets_of_width c.in-UnsignedFixed.width)) _ _ _ (sym (ap form_seen c.in-UnsignedFixed.is) ∙ c.of_bounds.ensures) (unsigned_stop c.in-UnsignedFixed.width _ _ _ c.in_err-number-in-UnsignedFixed.ensures))

pub returns-in_err-number-in-SignedFixed : goal.returns-in_err-number-in-SignedFixed
returns-in_err-number-in-SignedFixed c = rw (at_stop c.from_residual-in_err-number-in-SignedFixed.result c.in_err-number-in-SignedFixed.field-0.0 c.from_residual-in_err-number-in-SignedFixed.ensures.1) (integer_stop c.args.low c.args.high (signed_fixed (octets_of_width c.in-SignedFixed.width)) _ _ _ (sym (ap form_seen c.in-SignedFixed.is) ∙ c.of_bounds.ensures) (signed_any c.in-SignedFixed.width _ _ c.in_err-number-in-SignedFixed.ensures.number))

pub returns-in_err-number-in-UnsignedCounted : goal.returns-in_err-number-in-UnsignedCounted
returns-in_err-number-in-UnsignedCounted c = rw (at_stop c.from_residual-in_err-number-in-UnsignedCounted.result c.in_err-number-in-UnsignedCounted.field-0.0 c.from_residual-in_err-number-in-UnsignedCounted.ensures.1) (integer_stop c.args.low c.args.high (unsigned_counted) _ _ _ (sym (ap form_seen c.in-UnsignedCounted.is) ∙ c.of_bounds.ensures) c.in_err-number-in-UnsignedCounted.ensures.number)

pub returns-in_err-number-in-SignedCounted : goal.returns-in_err-number-in-SignedCounted
returns-in_err-number-in-SignedCounted c = rw (at_stop c.from_residual-in_err-number-in-SignedCounted.result c.in_err-number-in-SignedCounted.field-0.0 c.from_residual-in_err-number-in-SignedCounted.ensures.1) (integer_stop c.args.low c.args.high (signed_counted) _ _ _ (sym (ap form_seen c.in-SignedCounted.is) ∙ c.of_bounds.ensures) c.in_err-number-in-SignedCounted.ensures.number)

pub returns-in_ok-number-in-UnsignedFixed : goal.returns-in_ok-number-in-UnsignedFixed
returns-in_ok-number-in-UnsignedFixed c = (rw (to_z-of_z w128 c.from.result (record { sfits = c.from.type_inv }), c.from.ensures) at c.in_bounds.ensures) ∙ integer_then c.args.low c.args.high (unsigned_fixed (octets_of_width c.in-UnsignedFixed.width)) _ _ (pos c.in_ok-number-in-UnsignedFixed.number) (sym (ap form_seen c.in-UnsignedFixed.is) ∙ c.of_bounds.ensures) (unsigned_got c.in-UnsignedFixed.width _ _ c.in_ok-number-in-UnsignedFixed.number c.in_ok-number-in-UnsignedFixed.ensures)

pub returns-in_ok-number-in-SignedFixed : goal.returns-in_ok-number-in-SignedFixed
returns-in_ok-number-in-SignedFixed c =
    let z = c.in_ok-number-in-SignedFixed.number in
    let fits : SFits w64 z = c.in_ok-number-in-SignedFixed.ensures.range in
    (rw (to_z-of_z w128 c.from-in-SignedFixed.result (record { sfits = c.from-in-SignedFixed.type_inv }), c.from-in-SignedFixed.ensures, to_z-of_z w64 z fits) at c.in_bounds-in-SignedFixed.ensures) ∙ integer_then c.args.low c.args.high (signed_fixed (octets_of_width c.in-SignedFixed.width)) _ _ z (sym (ap form_seen c.in-SignedFixed.is) ∙ c.of_bounds.ensures) (signed_any c.in-SignedFixed.width _ _ c.in_ok-number-in-SignedFixed.ensures.number)

pub returns-in_ok-number-in-UnsignedCounted : goal.returns-in_ok-number-in-UnsignedCounted
returns-in_ok-number-in-UnsignedCounted c =
    let z = c.in_ok-number-in-UnsignedCounted.number in
    let fits : SFits w128 z = c.in_ok-number-in-UnsignedCounted.ensures.range in
    let sized = eqb (length (between (place_of c.args.at.now) (place_of c.unsigned_counted_at.new.at))) in
    let least = c.is_of_length-is_least.ensures ∙ ap sized (c.unsigned_counted_len.ensures ∙ ap (λ (y : ℤ). length (counted (unsigned_octets (unsigned_abs y)))) (to_z-of_z w128 z fits)) ∙ ap (eqb (length (between (place_of c.args.at.now) (place_of c.unsigned_counted_at.new.at)))) (least_natural _ _ z c.in_ok-number-in-UnsignedCounted.ensures.number) in
    (rw (to_z-of_z w128 z fits, least) at c.in_bounds-in-UnsignedCounted.ensures) ∙ integer_then c.args.low c.args.high unsigned_counted _ _ z (sym (ap form_seen c.in-UnsignedCounted.is) ∙ c.of_bounds.ensures) c.in_ok-number-in-UnsignedCounted.ensures.number

pub returns-in_ok-number-in-SignedCounted : goal.returns-in_ok-number-in-SignedCounted
returns-in_ok-number-in-SignedCounted c =
    let z = c.in_ok-number-in-SignedCounted.number in
    let fits : SFits w128 z = c.in_ok-number-in-SignedCounted.ensures.range in
    let sized = eqb (length (between (place_of c.args.at.now) (place_of c.signed_counted_at.new.at))) in
    let least = c.is_of_length-is_least-in-SignedCounted.ensures ∙ ap sized (c.signed_counted_len.ensures ∙ ap (λ (y : ℤ). length (counted (signed_octets y))) (to_z-of_z w128 z fits)) in
    (rw (to_z-of_z w128 z fits, least) at c.in_bounds-in-SignedCounted.ensures) ∙ integer_then c.args.low c.args.high signed_counted _ _ z (sym (ap form_seen c.in-SignedCounted.is) ∙ c.of_bounds.ensures) c.in_ok-number-in-SignedCounted.ensures.number
