-- Numbers with points between them.
use Rattle.std.proofs.Common.{◌≡◌, ℕ, ◌^◌, ◌<◌, ◌≤◌, List, [], ◌∷◌, ◌++◌, length, map, Bool, true, false, cond, ◌==◌, Ok, refl, sym, ap, ◌∙◌, arith, append_assoc, append-nil, nat_lt, lt-ltb}
use Rattle.std.specs.Fmt.{decimal}
use Rattle.std.specs.Str.Parse.{AllDigits}
use Rattle.std.proofs.lemmas.Bool.{and_parts, eqb-true}
use Rattle.std.proofs.lemmas.Fmt.{decimal_is_IsNumeral_wide}
use Rattle.std.proofs.lemmas.Str.Parse.{digit_from_value}
use Rattle.oer_model.specs.Fits.{AllBelow}
use Rattle.oer_json.specs.Answer.{some_or}
use Rattle.oer_literals.specs.Numbers.{arc_of}
use Rattle.oer_json.specs.Texts.{after_points, all_natural, dotted, is_natural, parts}
use Rattle.oer_json.specs.Take.{dotted_in, number_in, numbers_in, several_in}
use Rattle.oer_json.specs.declared.fault.JsonFault.TheVariants.{Kind, Range}
use Rattle.oer_json.proofs.Answered.{bound_ok, given, if_ok, ok_is}
use Rattle.oer_json.proofs.Decimals.{below_sound, below_complete, decimal_natural}

-- the parts with points in front of all but the first
abbrev after : List (List ℕ) → List ℕ
after [] = []
after (w ∷ ws) = 46 ∷ (w ++ after ws)

abbrev joined : List (List ℕ) → List ℕ
joined [] = []
joined (w ∷ ws) = w ++ after ws

-- there is a first part
data Starts : List (List ℕ) → Type 0 where
  starts : {w : List ℕ} {ws : List (List ℕ)} → Starts (w ∷ ws)

starts_by : (b : Bool) (found : List ℕ) (xs ys : List (List ℕ)) → Starts ys → Starts (cond b (found ∷ xs) ys)
starts_by true found xs ys h = starts
starts_by false found xs ys h = h

parts_start : (found w : List ℕ) → Starts (parts found w)
parts_start found [] = starts
parts_start found (c ∷ cs) = starts_by (c == 46) found (parts [] cs) (parts (found ++ c ∷ []) cs) (parts_start (found ++ c ∷ []) cs)

after_joined : (ws : List (List ℕ)) → Starts ws → after ws ≡ 46 ∷ joined ws
after_joined _ starts = refl

joined_by : (b : Bool) (c : ℕ) (cs found : List ℕ) → c == 46 ≡ b → joined (parts [] cs) ≡ cs → joined (parts (found ++ c ∷ []) cs) ≡ (found ++ c ∷ []) ++ cs
    → joined (cond b (found ∷ parts [] cs) (parts (found ++ c ∷ []) cs)) ≡ found ++ c ∷ cs
joined_by true c cs found e h k = ap (λ x. found ++ x) (after_joined (parts [] cs) (parts_start [] cs) ∙ ap (λ x. 46 ∷ x) h ∙ ap (λ x. x ∷ cs) (sym (eqb-true c 46 e)))
joined_by false c cs found e h k = k ∙ append_assoc found (c ∷ []) cs

pub joined_parts : (found w : List ℕ) → joined (parts found w) ≡ found ++ w
joined_parts found [] = refl
joined_parts found (c ∷ cs) = joined_by (c == 46) c cs found refl (joined_parts [] cs) (joined_parts (found ++ c ∷ []) cs)

-- ---- what is read is spelt

limit_128 : 2 ^ 128 ≤ 10 ^ 64
limit_128 = omega arith

arc_spelt : (w : List ℕ) (x : ℕ) → is_natural w ≡ true → number_in w ≡ Ok x → (w ≡ decimal x) × (x < 2 ^ 128)
unfolding arc_of
arc_spelt w x h e = below_sound (2 ^ 128) w x limit_128 h (given Range _ x e)

after_spelt : (ws : List (List ℕ)) (xs : List ℕ) → all_natural ws ≡ true → numbers_in ws ≡ Ok xs → after ws ≡ after_points xs
after_spelt [] xs h e = ap after_points (ok_is [] xs e)
after_spelt (w ∷ ws) xs h e =
    let n = and_parts (is_natural w) (all_natural ws) h in
    let p = bound_ok (number_in w) _ xs e in
    let q = bound_ok (numbers_in ws) _ xs p.2 in
    ap (λ x. 46 ∷ (x ++ after ws)) (arc_spelt w p.0 n.0 p.1).0 ∙ ap (λ x. 46 ∷ (decimal p.0 ++ x)) (after_spelt ws q.0 n.1 q.1) ∙ ap after_points (ok_is (p.0 ∷ q.0) xs q.2)

joined_spelt : (ws : List (List ℕ)) (xs : List ℕ) → all_natural ws ≡ true → numbers_in ws ≡ Ok xs → joined ws ≡ dotted xs
joined_spelt [] xs h e = ap dotted (ok_is [] xs e)
joined_spelt (w ∷ ws) xs h e =
    let n = and_parts (is_natural w) (all_natural ws) h in
    let p = bound_ok (number_in w) _ xs e in
    let q = bound_ok (numbers_in ws) _ xs p.2 in
    ap (λ x. x ++ after ws) (arc_spelt w p.0 n.0 p.1).0 ∙ ap (λ x. decimal p.0 ++ x) (after_spelt ws q.0 n.1 q.1) ∙ ap dotted (ok_is (p.0 ∷ q.0) xs q.2)

pub dotted_sound : (s xs : List ℕ) → dotted_in s ≡ Ok xs → s ≡ dotted xs
unfolding dotted_in
dotted_sound s xs e =
    let p = if_ok (nat_lt 1 (length (parts [] s))) (several_in s) Kind xs e in
    let q = if_ok (all_natural (parts [] s)) (numbers_in (parts [] s)) Kind xs p.1 in
    sym (joined_parts [] s) ∙ joined_spelt (parts [] s) xs q.0 q.1

-- ---- what is spelt is read

no_point : (c : ℕ) → AllDigits 10 (c ∷ []) → c == 46 ≡ false
no_point c d = by (c == 46) refl where
  by : (b : Bool) → c == 46 ≡ b → c == 46 ≡ false
  by true e = let k = eqb-true c 46 e in let l = digit_from_value c d.0 in absurd (omega arith)
  by false e = e

parts_last : (found w : List ℕ) → AllDigits 10 w → parts found w ≡ (found ++ w) ∷ []
parts_last found [] d = ap (λ x. x ∷ []) (sym (append-nil found))
parts_last found (c ∷ cs) d = rw (no_point c (d.0, tt)) (parts_last (found ++ c ∷ []) cs d.1 ∙ ap (λ x. x ∷ []) (append_assoc found (c ∷ []) cs))

parts_more : (found w r : List ℕ) → AllDigits 10 w → parts found (w ++ 46 ∷ r) ≡ (found ++ w) ∷ parts [] r
parts_more found [] r d = ap (λ x. x ∷ parts [] r) (sym (append-nil found))
parts_more found (c ∷ cs) r d = rw (no_point c (d.0, tt)) (parts_more (found ++ c ∷ []) cs r d.1 ∙ ap (λ x. x ∷ parts [] r) (append_assoc found (c ∷ []) cs))

digits_of : (n : ℕ) → n < 2 ^ 128 → AllDigits 10 (decimal n)
digits_of n l = let k = limit_128 in (decimal_is_IsNumeral_wide n (omega arith)).0.1

parts_dotted : (x : ℕ) (xs : List ℕ) → AllBelow (2 ^ 128) (x ∷ xs) → parts [] (decimal x ++ after_points xs) ≡ decimal x ∷ map decimal xs
parts_dotted x [] b = ap (parts []) (append-nil (decimal x)) ∙ parts_last [] (decimal x) (digits_of x b.0)
parts_dotted x (y ∷ ys) b = parts_more [] (decimal x) (decimal y ++ after_points ys) (digits_of x b.0) ∙ ap (λ ws. decimal x ∷ ws) (parts_dotted y ys b.1)

all_written : (xs : List ℕ) → AllBelow (2 ^ 128) xs → all_natural (map decimal xs) ≡ true
all_written [] b = refl
all_written (x ∷ xs) b = let k = limit_128 in rw (decimal_natural x (let l = b.0 in omega arith)) (all_written xs b.1)

number_written : (x : ℕ) → x < 2 ^ 128 → number_in (decimal x) ≡ Ok x
unfolding arc_of
number_written x l = ap (λ o. some_or Range o) (below_complete (2 ^ 128) x limit_128 l)

numbers_written : (xs : List ℕ) → AllBelow (2 ^ 128) xs → numbers_in (map decimal xs) ≡ Ok xs
numbers_written [] b = refl
numbers_written (x ∷ xs) b = rw (number_written x b.0, numbers_written xs b.1) refl

pub dotted_complete : (x y : ℕ) (xs : List ℕ) → AllBelow (2 ^ 128) (x ∷ y ∷ xs) → dotted_in (dotted (x ∷ y ∷ xs)) ≡ Ok (x ∷ y ∷ xs)
unfolding dotted_in
dotted_complete x y xs b =
    let p = parts_dotted x (y ∷ xs) b in
    rw (p, all_written (x ∷ y ∷ xs) b, numbers_written (x ∷ y ∷ xs) b, lt-ltb 1 (length (decimal x ∷ decimal y ∷ map decimal xs)) (omega arith)) refl
