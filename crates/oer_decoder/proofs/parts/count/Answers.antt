use Rattle.std.proofs.Common.{refl, ◌≡◌, ◌∙◌, sym, ap, SFits, ℕ, Ok, Err}
use Rattle.std.specs.Prelude.{unsigned_abs}
use Rattle.std.specs.Int.{w128}
use Rattle.std.proofs.lemmas.Int.{to_z-of_z}
use Rattle.oer_model.specs.Constraints.{size_fits}
use Rattle.oer_decoder.proofs.Loops.{count_stop, count_over, count_misfit, count_got, quantity_any}
use Rattle.oer_decoder.proofs.Exits.{at_fault, here}
use Rattle.oer_decoder.proofs.parts.count.Goals as goal

pub returns-in_err-quantity : goal.returns-in_err-quantity
returns-in_err-quantity g c = rw (at_fault c.from_residual.result c.in_err-quantity.field-0.0 c.from_residual.ensures.1) (here _ _ _ _ (count_stop c.args.size _ _ _ (quantity_any _ _ (Err c.in_err-quantity.field-0.0) c.in_err-quantity.ensures.reads)))

pub returns-in_err-count : goal.returns-in_err-count
returns-in_err-count g c =
    let z = c.in_ok-quantity.quantity in
    let fits : SFits w128 z = record { sfits = (rw c.in_ok-quantity.was at c.unsigned_counted.type_inv).1.1.1.1.0.1 } in
    let many : c.unsigned_abs.result ≡ unsigned_abs z = c.unsigned_abs.ensures.value ∙ ap unsigned_abs (to_z-of_z w128 z fits) in
    rw (at_fault c.from_residual-in_err-count.result c.in_err-count.field-0.0 c.from_residual-in_err-count.ensures.1)
    (here _ _ _ _ (count_over c.args.size _ _ _ (unsigned_abs z) _ (quantity_any _ _ (Ok z) c.in_ok-quantity.ensures.reads) (rw many at c.in_err-count.ensures.reads)))

pub returns-then-not-allows : goal.returns-then-not-allows
returns-then-not-allows g c =
    let z = c.in_ok-quantity.quantity in
    let fits : SFits w128 z = record { sfits = (rw c.in_ok-quantity.was at c.unsigned_counted.type_inv).1.1.1.1.0.1 } in
    let many : c.unsigned_abs.result ≡ unsigned_abs z = c.unsigned_abs.ensures.value ∙ ap unsigned_abs (to_z-of_z w128 z fits) in
    count_misfit c.args.size _ _ _ (unsigned_abs z) c.in_ok-count.count _ (quantity_any _ _ (Ok z) c.in_ok-quantity.ensures.reads) (rw many at c.in_ok-count.ensures.reads) (c.in_ok-count.ensures.value ∙ many)
    (sym (c.if-not-allows.ensures ∙ ap (λ (n : ℕ). size_fits c.args.size n) c.from.ensures)) refl refl

pub returns : goal.returns
returns g c =
    let z = c.in_ok-quantity.quantity in
    let fits : SFits w128 z = record { sfits = (rw c.in_ok-quantity.was at c.unsigned_counted.type_inv).1.1.1.1.0.1 } in
    let many : c.unsigned_abs.result ≡ unsigned_abs z = c.unsigned_abs.ensures.value ∙ ap unsigned_abs (to_z-of_z w128 z fits) in
    count_got c.args.size _ _ _ (unsigned_abs z) c.in_ok-count.count (quantity_any _ _ (Ok z) c.in_ok-quantity.ensures.reads) (rw many at c.in_ok-count.ensures.reads) (c.in_ok-count.ensures.value ∙ many)
    (sym (c.if-not-allows.ensures ∙ ap (λ (n : ℕ). size_fits c.args.size n) c.from.ensures))
