use Rattle.oer_checker.proofs.Exits.{at_stop}
use Rattle.std.proofs.Common.{◌≡◌, ◌∙◌, SFits, ℤ, ap, eqb, length, sym, unsigned_abs}
use Rattle.std.specs.Int.{w128}
use Rattle.std.proofs.lemmas.Int.{to_z-of_z}
use Rattle.std.proofs.lemmas.Bool.{le-leb, lt-leb}
use Rattle.oer_units.specs.Least.{counted, unsigned_octets}
use Rattle.oer_checker.specs.Places.{place_of}
use Rattle.oer_checker.specs.Steps.{between}
use Rattle.oer_checker.proofs.NumberSteps.{sized_got, sized_misfit, sized_over, sized_stop}
use Rattle.oer_checker.proofs.numbers.sized_quantity_at.Goals as goal

pub returns-in_err-quantity : goal.returns-in_err-quantity
returns-in_err-quantity c = rw (at_stop c.from_residual.result c.in_err-quantity.field-0.0 c.from_residual.ensures.1) (sized_stop c.args.size _ _ _ c.in_err-quantity.ensures.number)

pub returns-then-count-from : goal.returns-then-count-from
returns-then-count-from c =
    let z = c.in_ok-quantity.quantity in
    let fits : SFits w128 z = c.in_ok-quantity.ensures.range in
    let many : c.unsigned_abs-count.result ≡ unsigned_abs z = c.unsigned_abs-count.ensures.value ∙ ap unsigned_abs (to_z-of_z w128 z fits) in
    sized_over c.args.size _ _ z c.in_ok-quantity.ensures.number (lt-leb (unsigned_abs z) c.unsigned_counted_at.new.at.left (rw (c.from.ensures, many) at c.if-count-from.true))

pub returns-then-not-allows : goal.returns-then-not-allows
returns-then-not-allows c =
    let z = c.in_ok-quantity.quantity in
    let fits : SFits w128 z = c.in_ok-quantity.ensures.range in
    let many : c.unsigned_abs-count.result ≡ unsigned_abs z = c.unsigned_abs-count.ensures.value ∙ ap unsigned_abs (to_z-of_z w128 z fits) in
    sized_misfit c.args.size _ _ z c.in_ok-quantity.ensures.number (le-leb (unsigned_abs z) c.unsigned_counted_at.new.at.left (rw (c.from.ensures, many) at c.if-count-from.false)) (sym (rw many at c.if-not-allows.ensures))

pub returns : goal.returns
returns c =
    let z = c.in_ok-quantity.quantity in
    let fits : SFits w128 z = c.in_ok-quantity.ensures.range in
    let many : c.unsigned_abs-count.result ≡ unsigned_abs z = c.unsigned_abs-count.ensures.value ∙ ap unsigned_abs (to_z-of_z w128 z fits) in
    let least : c.is_of_length-is_least.result ≡ eqb (length (between (place_of c.args.at.now) (place_of c.unsigned_counted_at.new.at))) (length (counted (unsigned_octets (unsigned_abs z)))) = c.is_of_length-is_least.ensures ∙ ap (eqb (length (between (place_of c.args.at.now) (place_of c.unsigned_counted_at.new.at)))) (c.unsigned_counted_len.ensures ∙ ap (λ (y : ℤ). length (counted (unsigned_octets (unsigned_abs y)))) (to_z-of_z w128 z fits)) in
    rw many (sized_got c.args.size _ _ z c.is_of_length-is_least.result c.in_ok-quantity.ensures.number least (le-leb (unsigned_abs z) c.unsigned_counted_at.new.at.left (rw (c.from.ensures, many) at c.if-count-from.false)) (sym (rw many at c.if-not-allows.ensures)))
