-- The turns in which arcs are read, and the numbers that digits write.
use Rattle.std.proofs.Common.{◌≡◌, ◌<◌, ◌≤◌, ◌+◌, ◌-◌, ◌^◌, ℕ, zero, suc, Bool, true, false, cond, nat_lt, ◌&&◌, List, [], ◌∷◌, ◌++◌, length, Option, None, Some, Result, Ok, Err, refl, sym, ap, ◌∙◌, arith, lt-ltb}
use Rattle.std.proofs.lemmas.Bool.{ltb-true, and_parts}
use Rattle.std.proofs.lemmas.Str.Parse.{tells_all_ascii_digits, numerals_by_value, IsNumeralModel}
use Rattle.std.specs.Str.Parse.{ParsesUnsigned, IsNumeral, digits_value, without_leading_plus}
use Rattle.std.specs.Str.{all_ascii_digits}
use Rattle.oer_module_lexer.specs.declared.token.Sign.TheVariants.{CloseBrace}
use Rattle.oer_module_syntax.specs.State.{State, at_sign}
use Rattle.oer_module_names.specs.Identifiers.{arc_at, arcs_by, arcs_from, number_of, written}

-- ---- numbers

tells_numerals : IsNumeralModel (λ ds. all_ascii_digits ds ≡ true) (digits_value 10)
tells_numerals = numerals_by_value _ tells_all_ascii_digits

numeral_true : (w : List ℕ) → IsNumeral 10 w → (nat_lt 0 (length w) && all_ascii_digits w) ≡ true
numeral_true w h = rw (lt-ltb 0 (length w) h.0, tells_numerals.from w h.1) refl

true_numeral : (w : List ℕ) → (nat_lt 0 (length w) && all_ascii_digits w) ≡ true → IsNumeral 10 w
true_numeral w h = let p = and_parts (nat_lt 0 (length w)) (all_ascii_digits w) h in (ltb-true _ _ p.0, tells_numerals.to _ p.1)

written_is : (w : List ℕ) → (nat_lt 0 (length w) && all_ascii_digits w) ≡ true → nat_lt (digits_value 10 w) (2 ^ 128) ≡ true → written w ≡ Some (digits_value 10 w)
written_is w a b = rw (a, b) refl

pub number_ok : {E : Type 0} (w : List ℕ) (r : Result ℕ E) (n : ℕ) → ParsesUnsigned 128 10 w r → r ≡ Ok n → Some n ≡ number_of w
unfolding number_of
number_ok w (Ok x) n h e =
    let same : x ≡ n = cc in
    ap Some (sym same ∙ h.1) ∙ sym (written_is (without_leading_plus w) (numeral_true (without_leading_plus w) h.0.0) (lt-ltb (digits_value 10 (without_leading_plus w)) (2 ^ 128) h.0.1))
number_ok w (Err x) n h e = absurd (cc)

none_written : (w : List ℕ) (a b : Bool) → (nat_lt 0 (length w) && all_ascii_digits w) ≡ a → nat_lt (digits_value 10 w) (2 ^ 128) ≡ b
    → (IsNumeral 10 w × (digits_value 10 w < 2 ^ 128) → ⊥) → None ≡ cond (a && b) (Some (digits_value 10 w)) None
none_written w true true e f h = absurd (h (true_numeral w e, ltb-true _ _ f))
none_written w true false e f h = refl
none_written w false b e f h = refl

pub number_err : {E : Type 0} (w : List ℕ) (r : Result ℕ E) (x : E) → ParsesUnsigned 128 10 w r → r ≡ Err x → None ≡ number_of w
unfolding number_of
number_err w (Ok y) x h e = absurd (cc)
number_err w (Err y) x h e = none_written (without_leading_plus w) _ _ refl refl h

-- ---- turns

turn_more : (n : ℕ) (before : List ℕ) (s : State) → 0 < n → arcs_from n before s ≡ cond (at_sign CloseBrace s) (Some before) (arcs_by (arcs_from (n - 1)) before (arc_at before s))
unfolding arcs_from
turn_more zero before s some = absurd (omega (arith, some))
turn_more (suc n) before s some = let less : n ≡ suc n - 1 = omega arith in ap (λ m. cond (at_sign CloseBrace s) (Some before) (arcs_by (arcs_from m) before (arc_at before s))) less

turn_over : (n : ℕ) (before : List ℕ) (s : State) → n ≡ 0 → arcs_from n before s ≡ None
unfolding arcs_from
turn_over n before s e = ap (λ m. arcs_from m before s) e

-- turn t of n
module _ (n t : ℕ) (start s : State) (before : List ℕ) (same : arcs_from n [] start ≡ arcs_from (n - t) before s) where
  pub read_end : t < n → true ≡ at_sign CloseBrace s → Some before ≡ arcs_from n [] start
  read_end l e = sym (same ∙ turn_more (n - t) before s (omega (arith, l)) ∙ ap (λ b. cond b (Some before) (arcs_by (arcs_from (n - t - 1)) before (arc_at before s))) (sym e))

  read_next : t < n → false ≡ at_sign CloseBrace s → (o : Option (ℕ × State)) → o ≡ arc_at before s → arcs_from n [] start ≡ arcs_by (arcs_from (n - (t + 1))) before o
  read_next l e o f =
      let less : n - t - 1 ≡ n - (t + 1) = omega arith in
      same ∙ turn_more (n - t) before s (omega (arith, l)) ∙ ap (λ b. cond b (Some before) (arcs_by (arcs_from (n - t - 1)) before (arc_at before s))) (sym e)
      ∙ ap (λ m. arcs_by (arcs_from m) before (arc_at before s)) less ∙ ap (arcs_by (arcs_from (n - (t + 1))) before) (sym f)

  pub read_none : t < n → false ≡ at_sign CloseBrace s → None ≡ arc_at before s → None ≡ arcs_from n [] start
  read_none l e f = sym (read_next l e None f)

  pub read_on : t < n → false ≡ at_sign CloseBrace s → (a : ℕ) (q : State) → Some (a, q) ≡ arc_at before s → arcs_from n [] start ≡ arcs_from (n - (t + 1)) (before ++ a ∷ []) q
  read_on l e a q f = read_next l e (Some (a, q)) f

  pub read_over : n ≤ t → None ≡ arcs_from n [] start
  read_over l = sym (same ∙ turn_over (n - t) before s (omega (arith, l)))
