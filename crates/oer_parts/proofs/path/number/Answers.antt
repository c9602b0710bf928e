use Rattle.std.proofs.Common.{◌∷◌, sym, ◌∙◌, ap, subst, eqb-true, eq-eqb, true≢false, length}
use Rattle.std.specs.Str.Parse.{ParsesUnsigned}
use Rattle.oer_parts.proofs.Digits.{empty, some_digit, no_plus, one_zero, zero_is, parsed, not_refused}
use Rattle.oer_parts.proofs.path.number.Goals as goal

pub returns-then-first-eq43 : goal.returns-then-first-eq43
returns-then-first-eq43 c = λ n h e. no_plus _ _ n h (sym c.in-Some.ensures.cases.0 ∙ c.as_bytes.ensures.value ∙ e) c.if-first-eq43.true

pub returns-then-is_empty : goal.returns-then-is_empty
returns-then-is_empty c =
    let none = empty c.in-Some.rest.now (eqb-true _ 0 (sym c.if-is_empty.ensures)) in
    sym c.as_bytes.ensures.value ∙ c.in-Some.ensures.cases.0 ∙ ap (λ l. c.in-Some.first.now ∷ l) none ∙ zero_is _ c.if-first-eq48.true

pub returns-then-first-eq48 : goal.returns-then-first-eq48
returns-then-first-eq48 c = λ n h e.
    let none = one_zero _ _ n h (sym c.in-Some.ensures.cases.0 ∙ c.as_bytes.ensures.value ∙ e) c.if-first-eq48.true in
    true≢false (sym (eq-eqb _ 0 (ap length none)) ∙ sym c.if-is_empty.ensures)

pub returns-in-Ok : goal.returns-in-Ok
returns-in-Ok c =
    let whole = sym c.in-Some.ensures.cases.0 ∙ c.as_bytes.ensures.value in
    sym whole ∙ parsed _ _ c.in-Ok.n c.parse.result (subst (λ l. ParsesUnsigned 64 10 l c.parse.result) (sym whole) c.parse.ensures.value.0) c.in-Ok.is c.if-first-eq43.false c.if-first-eq48.false

pub returns-in-Err : goal.returns-in-Err
returns-in-Err c = λ n h e. not_refused c.args.digits.now n c.parse.result _ c.parse.ensures.value.0 c.in-Err.is h e

pub returns-in_default : goal.returns-in_default
returns-in_default c = λ n h e. some_digit n h (sym (empty _ c.in_default.ensures.cases) ∙ c.as_bytes.ensures.value ∙ e)
