-- Numbers in decimal.
use Rattle.std.proofs.Common.{◌≡◌, ℕ, zero, suc, ◌+◌, ◌*◌, ◌/◌, ◌%◌, ◌^◌, ◌<◌, ◌≤◌, List, [], ◌∷◌, ◌++◌, length, get_or, Bool, true, false, not, cond, ◌&&◌, ◌||◌, ◌==◌, Some, None, Ok, ℤ, pos, negsuc, neg_ℤ, refl, sym, ap, subst, ◌∙◌, arith, append_assoc, append-nil, nat_lt, lt-ltb}
use Rattle.std.specs.Prelude.{int_le, slice_index}
use Rattle.std.specs.Fmt.{decimal, signed_decimal}
use Rattle.std.specs.Char.{digit_value}
use Rattle.std.specs.Str.{all_ascii_digits}
use Rattle.std.specs.Str.Parse.{AllDigits, IsNumeral, digits_value, digits_value_after, without_leading_plus}
use Rattle.std.proofs.lemmas.Bool.{and_parts, eqb-true, ltb-true, leb-true}
use Rattle.std.proofs.lemmas.Fmt.{decimal_digit, decimal_step_wide, decimal_by_steps_wide, decimal_is_IsNumeral_wide}
use Rattle.std.proofs.lemmas.Str.{digit_value_digit}
use Rattle.std.proofs.lemmas.Str.Parse.{digit_from_value}
use Rattle.oer_json.specs.Answer.{some_or}
use Rattle.oer_json.specs.Take.{decimal_in}
use Rattle.oer_json.specs.declared.fault.JsonFault.TheVariants.{Kind, Range}
use Rattle.oer_json.proofs.Answered.{given, if_ok, if_some}
use Rattle.oer_literals.proofs.Numerals.{numeral_true, tells_numerals}
use Rattle.oer_literals.specs.Numbers.{is_numeral, integer_of, natural_below}
use Rattle.oer_json.specs.Texts.{is_natural, is_positive, is_whole}

-- ---- digits of a number

le_value_after : (n : ℕ) (ds : List ℕ) → n ≤ digits_value_after 10 n ds
le_value_after n [] = omega arith
le_value_after n (c ∷ cs) = omega (arith, le_value_after (n * 10 + digit_value c) cs)

decimal_value_after : (n : ℕ) (ds : List ℕ) → 0 < n → AllDigits 10 ds → digits_value_after 10 n ds < 10 ^ 64 → decimal (digits_value_after 10 n ds) ≡ decimal n ++ ds
decimal_value_after n [] some d small = sym (append-nil (decimal n))
decimal_value_after n (c ∷ cs) some d small =
    let m : ℕ = n * 10 + digit_value c in
    let k = digit_value_digit c (digit_from_value c d.0) in
    let front : m / 10 ≡ n = omega (arith, d.0) in
    let end : 48 + m % 10 ≡ c = omega (arith, d.0) in
    decimal_value_after m cs (omega arith) d.1 small
    ∙ ap (λ x. x ++ cs) (decimal_step_wide m (omega arith) (omega (arith, le_value_after m cs)) ∙ (λ i. decimal (front i) ++ (end i ∷ [])))
    ∙ append_assoc (decimal n) (c ∷ []) cs

decimal_value : (ds : List ℕ) → AllDigits 10 ds → 0 < length ds → (get_or ds 0 0 ≡ 48 → length ds ≡ 1) → digits_value 10 ds < 10 ^ 64 → decimal (digits_value 10 ds) ≡ ds
decimal_value [] d some lead small = absurd (omega arith)
decimal_value (c ∷ []) d some lead small =
    let k = digit_value_digit c (digit_from_value c d.0) in
    decimal_digit (0 * 10 + digit_value c) (omega (arith, d.0)) ∙ ap (λ x. x ∷ []) (omega arith)
decimal_value (c ∷ e ∷ cs) d some lead small =
    let k = digit_value_digit c (digit_from_value c d.0) in
    let no : c ≡ 48 → ⊥ = λ z. omega (arith, lead z) in
    let is : 48 + (0 * 10 + digit_value c) ≡ c = omega arith in
    decimal_value_after (0 * 10 + digit_value c) (e ∷ cs) (omega arith) d.1 small
    ∙ ap (λ x. x ++ (e ∷ cs)) (decimal_digit (0 * 10 + digit_value c) (omega (arith, d.0)) ∙ ap (λ x. x ∷ []) is)

-- what is decided of digits
pub record Digits (w : List ℕ) : Type 0 where
  pub some : 0 < length w
  pub all : AllDigits 10 w
  pub lead : get_or w 0 0 ≡ 48 → length w ≡ 1

either_one : (a b : Bool) (n c : ℕ) → (a ≡ true → n ≡ 1) → (b ≡ true → c ≡ 48 → ⊥) → (a || b) ≡ true → c ≡ 48 → n ≡ 1
either_one true b n c f g h e = f refl
either_one false b n c f g h e = absurd (g h e)

not_eq : (c : ℕ) → not (c == 48) ≡ true → c ≡ 48 → ⊥
not_eq c h e = let t : not (48 == 48) ≡ true = subst (λ x. not (x == 48) ≡ true) e h in cc

pub natural_digits : (w : List ℕ) → is_natural w ≡ true → Digits w
unfolding is_natural
natural_digits w h =
    let p = and_parts (nat_lt 0 (length w) && all_ascii_digits w) (length w == 1 || not (slice_index w 0 == 48)) h in
    let q = and_parts (nat_lt 0 (length w)) (all_ascii_digits w) p.0 in
    record {
      some = ltb-true 0 (length w) q.0;
      all = tells_numerals.to w q.1;
      lead = either_one (length w == 1) (not (slice_index w 0 == 48)) (length w) (slice_index w 0) (eqb-true (length w) 1) (not_eq (slice_index w 0)) p.1;
    }

pub natural_decimal : (w : List ℕ) → is_natural w ≡ true → digits_value 10 w < 10 ^ 64 → decimal (digits_value 10 w) ≡ w
natural_decimal w h small = let d = natural_digits w h in decimal_value w d.all d.some d.lead small

-- ---- what is written is such digits

record Leads (n : ℕ) (ds : List ℕ) : Type 0 where
  some : 0 < length ds
  first : 0 < n → 48 < get_or ds 0 0

leads_more : (n : ℕ) (ds : List ℕ) → 10 ≤ n → Leads (n / 10) ds → Leads n (ds ++ ((48 + n % 10) ∷ []))
leads_more n [] ten h = let f = h.some in absurd (omega arith)
leads_more n (d ∷ ds) ten h = record { some = omega arith; first = λ p. h.first (omega arith) }

leads : (n : ℕ) → n < 10 ^ 64 → Leads n (decimal n)
leads n small = decimal_by_steps_wide Leads (λ n l. record { some = omega arith; first = λ p. omega arith }) leads_more n small

or_right : (a b : Bool) → b ≡ true → (a || b) ≡ true
or_right true b h = refl
or_right false b h = h

and_true : (a b : Bool) → a ≡ true → b ≡ true → (a && b) ≡ true
and_true true b h k = k
and_true false b h k = h

differs : (c : ℕ) → 48 < c → not (c == 48) ≡ true
differs c h = elim_bool (c == 48) refl where
  elim_bool : (b : Bool) → c == 48 ≡ b → not b ≡ true
  elim_bool true e = let k = eqb-true c 48 e in absurd (omega arith)
  elim_bool false e = refl

unspecial : (n : ℕ) → n < 10 ^ 64 → (length (decimal n) == 1 || not (slice_index (decimal n) 0 == 48)) ≡ true
unspecial zero small = rw (decimal_digit 0 (omega arith)) refl
unspecial (suc n) small = or_right (length (decimal (suc n)) == 1) _ (differs (slice_index (decimal (suc n)) 0) ((leads (suc n) small).first (omega arith)))

pub decimal_natural : (n : ℕ) → n < 10 ^ 64 → is_natural (decimal n) ≡ true
unfolding is_natural
decimal_natural n small =
    let k = decimal_is_IsNumeral_wide n small in
    and_true (nat_lt 0 (length (decimal n)) && all_ascii_digits (decimal n)) _ (and_true (nat_lt 0 (length (decimal n))) (all_ascii_digits (decimal n)) (lt-ltb 0 (length (decimal n)) k.0.0) (tells_numerals.from (decimal n) k.0.1)) (unspecial n small)

-- ---- a number below a limit

no_plus : (w : List ℕ) → AllDigits 10 w → without_leading_plus w ≡ w
no_plus [] d = refl
no_plus (c ∷ cs) d = by (c == 43) refl where
  by : (b : Bool) → c == 43 ≡ b → without_leading_plus (c ∷ cs) ≡ c ∷ cs
  by true e = let k = eqb-true c 43 e in let l = digit_from_value c d.0 in absurd (omega arith)
  by false e = rw e refl

pub below_sound : (limit : ℕ) (w : List ℕ) (n : ℕ) → limit ≤ 10 ^ 64 → is_natural w ≡ true → natural_below limit w ≡ Some n → (w ≡ decimal n) × (n < limit)
below_sound limit w n small h e =
    let d = natural_digits w h in
    let f = rw (no_plus w d.all) at e in
    let p = if_some (is_numeral w && nat_lt (digits_value 10 w) limit) (digits_value 10 w) n f in
    let q = and_parts (is_numeral w) (nat_lt (digits_value 10 w) limit) p.0 in
    let l = ltb-true (digits_value 10 w) limit q.1 in
    (sym (natural_decimal w h (omega arith)) ∙ ap decimal p.1, omega (arith, p.1))

pub below_complete : (limit n : ℕ) → limit ≤ 10 ^ 64 → n < limit → natural_below limit (decimal n) ≡ Some n
below_complete limit n small l =
    let k = decimal_is_IsNumeral_wide n (omega arith) in
    let a = and_true (nat_lt 0 (length (decimal n))) (all_ascii_digits (decimal n)) (lt-ltb 0 (length (decimal n)) k.0.0) (tells_numerals.from (decimal n) k.0.1) in
    rw (no_plus (decimal n) k.0.1, k.1, a, lt-ltb n limit l) refl

-- ---- whole numbers

abbrev Is128 : ℤ → Type 0
Is128 z = (int_le (negsuc 170141183460469231731687303715884105727) z ≡ true) × (int_le z (pos 170141183460469231731687303715884105727) ≡ true)

value_small : (w : List ℕ) (n : ℕ) → n ≡ digits_value 10 w → n ≤ 2 ^ 127 → digits_value 10 w < 10 ^ 64
value_small w n e h = omega arith

negative_spelt : (m : ℕ) (w : List ℕ) → digits_value 10 w ≡ suc m → decimal (digits_value 10 w) ≡ w → 45 ∷ w ≡ signed_decimal (neg_ℤ (pos (digits_value 10 w)))
negative_spelt m w e h = rw e (ap (λ ds. 45 ∷ ds) (sym h ∙ ap decimal e))

negative_128 : (n : ℕ) → int_le (negsuc 170141183460469231731687303715884105727) (neg_ℤ (pos n)) ≡ true → n ≤ 2 ^ 127
negative_128 zero h = omega arith
negative_128 (suc n) h = let k = leb-true n 170141183460469231731687303715884105727 h in omega arith

positive_128 : (n : ℕ) → int_le (pos n) (pos 170141183460469231731687303715884105727) ≡ true → n ≤ 2 ^ 127
positive_128 n h = let k = leb-true n 170141183460469231731687303715884105727 h in omega arith

-- a positive number is not 0
value_positive : (c : ℕ) (cs : List ℕ) → AllDigits 10 (c ∷ cs) → (c ≡ 48 → ⊥) → (m : ℕ) × (digits_value 10 (c ∷ cs) ≡ suc m)
value_positive c cs d never =
    let k = digit_value_digit c (digit_from_value c d.0) in
    let r = digit_from_value c d.0 in
    let l = le_value_after (0 * 10 + digit_value c) cs in
    let big : 0 < digits_value_after 10 (0 * 10 + digit_value c) cs = omega arith in
    pred_of (digits_value 10 (c ∷ cs)) big where
      pred_of : (n : ℕ) → 0 < n → (m : ℕ) × (n ≡ suc m)
      pred_of zero h = absurd (omega arith)
      pred_of (suc m) h = (m, refl)

minus_sound : (w : List ℕ) (z : ℤ) → is_positive w ≡ true → neg_ℤ (pos (digits_value 10 w)) ≡ z → Is128 z → 45 ∷ w ≡ signed_decimal z
unfolding is_positive
minus_sound [] z h e i = let p = and_parts (is_natural []) (not (slice_index [] 0 == 48)) h in let d = natural_digits [] p.0 in let s = d.some in absurd (omega arith)
minus_sound (c ∷ cs) z h e i =
    let p = and_parts (is_natural (c ∷ cs)) (not (slice_index (c ∷ cs) 0 == 48)) h in
    let d = natural_digits (c ∷ cs) p.0 in
    let v = value_positive c cs d.all (not_eq c p.1) in
    let small = negative_128 (digits_value 10 (c ∷ cs)) (subst (λ x. int_le (negsuc 170141183460469231731687303715884105727) x ≡ true) (sym e) i.0) in
    negative_spelt v.0 (c ∷ cs) v.1 (natural_decimal (c ∷ cs) p.0 (omega arith)) ∙ ap signed_decimal e

plus_sound : (w : List ℕ) (z : ℤ) → is_natural w ≡ true → pos (digits_value 10 w) ≡ z → Is128 z → w ≡ signed_decimal z
plus_sound w z h e i =
    let small = positive_128 (digits_value 10 w) (subst (λ x. int_le x (pos 170141183460469231731687303715884105727) ≡ true) (sym e) i.1) in
    sym (natural_decimal w h (omega arith)) ∙ ap signed_decimal e

pub whole_sound : (w : List ℕ) (z : ℤ) → is_whole w ≡ true → integer_of w ≡ Some z → w ≡ signed_decimal z
unfolding is_whole integer_of
whole_sound [] z h e = let d = natural_digits [] h in let s = d.some in absurd (omega arith)
whole_sound (c ∷ cs) z h e = by (c == 45) refl h e where
  by : (b : Bool) → c == 45 ≡ b → cond b (is_positive cs) (is_natural (c ∷ cs)) ≡ true
      → cond (is_numeral (cond b cs (without_leading_plus (c ∷ cs))) && (int_le (negsuc 170141183460469231731687303715884105727) (cond b (neg_ℤ (pos (digits_value 10 (cond b cs (without_leading_plus (c ∷ cs)))))) (pos (digits_value 10 (cond b cs (without_leading_plus (c ∷ cs))))))
      && int_le (cond b (neg_ℤ (pos (digits_value 10 (cond b cs (without_leading_plus (c ∷ cs)))))) (pos (digits_value 10 (cond b cs (without_leading_plus (c ∷ cs)))))) (pos 170141183460469231731687303715884105727)))
      (Some (cond b (neg_ℤ (pos (digits_value 10 (cond b cs (without_leading_plus (c ∷ cs)))))) (pos (digits_value 10 (cond b cs (without_leading_plus (c ∷ cs))))))) None ≡ Some z
      → c ∷ cs ≡ signed_decimal z
  by true g h e =
      let p = if_some _ _ z e in
      let q = and_parts _ _ p.0 in
      let r = and_parts _ _ q.1 in
      let i = subst Is128 p.1 (r.0, r.1) in
      ap (λ x. x ∷ cs) (eqb-true c 45 g) ∙ minus_sound cs z h p.1 i
  by false g h e =
      let d = natural_digits (c ∷ cs) h in
      let f = rw (no_plus (c ∷ cs) d.all) at e in
      let p = if_some _ _ z f in
      let q = and_parts _ _ p.0 in
      let r = and_parts _ _ q.1 in
      let i = subst Is128 p.1 (r.0, r.1) in
      plus_sound (c ∷ cs) z h p.1 i

no_minus : (w : List ℕ) → AllDigits 10 w → slice_index w 0 == 45 ≡ false
no_minus [] d = refl
no_minus (c ∷ cs) d = by (c == 45) refl where
  by : (b : Bool) → c == 45 ≡ b → c == 45 ≡ false
  by true e = let k = eqb-true c 45 e in let l = digit_from_value c d.0 in absurd (omega arith)
  by false e = e

plus_complete : (w : List ℕ) (n : ℕ) → IsNumeral 10 w → digits_value 10 w ≡ n → Is128 (pos n) → integer_of w ≡ Some (pos n)
unfolding integer_of
plus_complete w n k e i =
    let q = and_true (is_numeral w) _ (numeral_true w k) (and_true (int_le (negsuc 170141183460469231731687303715884105727) (pos n)) (int_le (pos n) (pos 170141183460469231731687303715884105727)) i.0 i.1) in
    rw (no_minus w k.1, no_plus w k.1, e, q) refl

minus_complete : (w : List ℕ) (n : ℕ) → IsNumeral 10 w → digits_value 10 w ≡ suc n → Is128 (negsuc n) → integer_of (45 ∷ w) ≡ Some (negsuc n)
unfolding integer_of
minus_complete w n k e i =
    let q = and_true (is_numeral w) _ (numeral_true w k) (and_true (int_le (negsuc 170141183460469231731687303715884105727) (negsuc n)) (int_le (negsuc n) (pos 170141183460469231731687303715884105727)) i.0 i.1) in
    rw (e, q) refl

pub integer_complete : (z : ℤ) → Is128 z → integer_of (signed_decimal z) ≡ Some z
integer_complete (pos n) i =
    let small = positive_128 n i.1 in
    let k = decimal_is_IsNumeral_wide n (omega arith) in
    plus_complete (decimal n) n k.0 k.1 i
integer_complete (negsuc n) i =
    let small = leb-true n 170141183460469231731687303715884105727 i.0 in
    let k = decimal_is_IsNumeral_wide (suc n) (omega arith) in
    minus_complete (decimal (suc n)) n k.0 k.1 i

plus_whole : (w : List ℕ) → AllDigits 10 w → is_natural w ≡ true → is_whole w ≡ true
unfolding is_whole
plus_whole w d h = rw (no_minus w d) h

minus_whole : (w : List ℕ) → is_natural w ≡ true → 48 < slice_index w 0 → is_whole (45 ∷ w) ≡ true
unfolding is_whole is_positive
minus_whole w h l = and_true (is_natural w) _ h (differs (slice_index w 0) l)

pub whole_complete : (z : ℤ) → Is128 z → is_whole (signed_decimal z) ≡ true
whole_complete (pos n) i =
    let small = positive_128 n i.1 in
    let k = decimal_is_IsNumeral_wide n (omega arith) in
    plus_whole (decimal n) k.0.1 (decimal_natural n (omega arith))
whole_complete (negsuc n) i =
    let small = leb-true n 170141183460469231731687303715884105727 i.0 in
    minus_whole (decimal (suc n)) (decimal_natural (suc n) (omega arith)) ((leads (suc n) (omega arith)).first (omega arith))

-- ---- as texts

pub text_spelt : (s : List ℕ) (z : ℤ) → decimal_in s ≡ Ok z → s ≡ signed_decimal z
unfolding decimal_in
text_spelt s z h = let p = if_ok (is_whole s) (some_or Range (integer_of s)) Kind z h in whole_sound s z p.0 (given Range (integer_of s) z p.1)

pub text_read : (z : ℤ) → int_le (negsuc 170141183460469231731687303715884105727) z ≡ true → int_le z (pos 170141183460469231731687303715884105727) ≡ true → decimal_in (signed_decimal z) ≡ Ok z
unfolding decimal_in
text_read z low high = rw (whole_complete z (low, high), integer_complete z (low, high)) refl
