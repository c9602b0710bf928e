use Rattle.std.proofs.Common.{◌≡◌, ap, sym, subst, ◌∙◌, Some, false}
use Rattle.std.specs.Int.{w128}
use Rattle.std.specs.Prelude.{FitsSigned}
use Rattle.std.proofs.lemmas.Int.{to_z-of_z}
use Rattle.oer_module_values.specs.Digits.{in_range, whole_of}
use Rattle.oer_module_values.proofs.Wholes.{whole_ok, whole_err, above_fits, above_large}
use Rattle.oer_module_values.proofs.digits.whole_of.Goals as goal

pub returns-in_default : goal.returns-in_default
returns-in_default c = whole_err c.args.negative c.args.digits.now c.parse.result _ c.parse.ensures.value.0 c.in_default.is

pub returns-then-negative : goal.returns-then-negative
returns-then-negative c =
    rw c.if-negative.true (c.below_zero.ensures ∙ whole_ok _ c.args.digits.now c.parse.result _ c.parse.ensures.value.0 c.in-Ok.is)

pub returns-in-Ok-try_from : goal.returns-in-Ok-try_from
returns-in-Ok-try_from c =
    let t = c.in-Ok-try_from.ensures in
    let p : in_range false c.in-Ok.magnitude ≡ whole_of c.args.negative c.args.digits.now =
    rw c.if-negative.false (whole_ok _ c.args.digits.now c.parse.result _ c.parse.ensures.value.0 c.in-Ok.is) in
    ap Some (to_z-of_z w128 c.in-Ok-try_from.number (subst (FitsSigned w128) (sym t.1) t.0)) ∙ ap Some t.1
    ∙ sym (above_fits c.in-Ok.magnitude t.0) ∙ p

pub returns-in-Err : goal.returns-in-Err
returns-in-Err c =
    let p : in_range false c.in-Ok.magnitude ≡ whole_of c.args.negative c.args.digits.now =
    rw c.if-negative.false (whole_ok _ c.args.digits.now c.parse.result _ c.parse.ensures.value.0 c.in-Ok.is) in
    above_large c.in-Ok.magnitude c.in-Err.ensures ∙ p
