-- Bits of which none is set, and components that aren't there.
use Rattle.std.proofs.Common.{◌≡◌, ◌∙◌, ℕ, zero, suc, ◌+◌, ◌-◌, ◌<◌, ◌≤◌, Bool, true, false, not, ◌&&◌, List, [], ◌∷◌, ◌++◌, length, take, drop, drop-cons, get_or, add-one, eqb, arith, refl, sym, ap, length-drop, length-take}
use Rattle.std.proofs.lemmas.List.{drop_all, take-append-drop, take_all}
use Rattle.oer_model.specs.AsnType.{Need, default, may, must}
use Rattle.oer_model.specs.Bits.{all_false, bit, bits_of, octets_for, spare_bits}
use Rattle.oer_model.specs.Constraints.{optional, optional_with}
use Rattle.oer_model.specs.SharedSteps.{bits_left, is_there}
use Rattle.oer_values.specs.ShapeView.{fields_of, need_of}
use Rattle.oer_values.specs.declared.shape.Field.{Field}
use Rattle.oer_checker.specs.Steps.{last_are_zero}
use Rattle.oer_checker.proofs.BitLists.{drop_sum, last_octet, spare_last}
use Rattle.oer_parts.specs.Last.{none_there}
use Rattle.oer_parts.proofs.Lasts.{not_right}

-- ---- octets

bits_both : (a b : List ℕ) → bits_of (a ++ b) ≡ bits_of a ++ bits_of b
bits_both [] b = refl
bits_both (x ∷ a) b = ap (λ (s : List Bool). bit x 7 ∷ bit x 6 ∷ bit x 5 ∷ bit x 4 ∷ bit x 3 ∷ bit x 2 ∷ bit x 1 ∷ bit x 0 ∷ s) (bits_both a b)

clear_drop : (n : ℕ) (s : List Bool) → all_false s ≡ true → all_false (drop n s) ≡ true
clear_drop zero s e = e
clear_drop (suc n) [] e = refl
clear_drop (suc n) (b ∷ s) e = clear_drop n s (not_right b (all_false s) e)

clear_take : (n : ℕ) (s : List Bool) → all_false s ≡ true → all_false (take n s) ≡ true
clear_take zero s e = refl
clear_take (suc n) [] e = refl
clear_take (suc n) (true ∷ s) e = absurd (cc)
clear_take (suc n) (false ∷ s) e = clear_take n s e

clear_within : (n t : ℕ) (s : List Bool) → all_false (drop n s) ≡ true → all_false (drop n (take t s)) ≡ true
clear_within zero t s e = clear_take t s e
clear_within (suc n) zero s e = refl
clear_within (suc n) (suc t) [] e = refl
clear_within (suc n) (suc t) (b ∷ s) e = clear_within n t s e

clear_both : (n : ℕ) (s t : List Bool) → all_false (drop n s) ≡ true → all_false t ≡ true → all_false (drop n (s ++ t)) ≡ true
clear_both zero [] t e f = f
clear_both zero (true ∷ s) t e f = absurd (cc)
clear_both zero (false ∷ s) t e f = clear_both zero s t e f
clear_both (suc n) [] t e f = clear_drop (suc n) t f
clear_both (suc n) (b ∷ s) t e f = clear_both n s t e f

-- k: how many octets the bits up to this one begin
pub clear_from : (from to k : ℕ) (w : List ℕ) → k ≡ octets_for from → k ≤ length w → last_are_zero (spare_bits from) (take k w) ≡ true → all_false (bits_of (take (length w - k) (drop k w))) ≡ true → all_false (drop from (take to (bits_of w))) ≡ true
clear_from from to k w is le front later =
    let size : length (take k w) ≡ octets_for from = omega (arith, is, le, length-take k w) in
    let begun = spare_last from (take k w) size ∙ front in
    let rest : take (length w - k) (drop k w) ≡ drop k w = take_all (length w - k) (drop k w) (omega (arith, length-drop k w)) in
    let after = ap (λ (l : List ℕ). all_false (bits_of l)) (sym rest) ∙ later in
    let whole : bits_of w ≡ bits_of (take k w) ++ bits_of (drop k w) = ap bits_of (sym (take-append-drop k w)) ∙ bits_both (take k w) (drop k w) in
    clear_within from to (bits_of w) (ap (λ (s : List Bool). all_false (drop from s)) whole ∙ clear_both from (bits_of (take k w)) (bits_of (drop k w)) begun after)

pub clear_all : (from to : ℕ) (w : List ℕ) → all_false (bits_of w) ≡ true → all_false (drop from (take to (bits_of w))) ≡ true
clear_all from to w e = clear_drop from (take to (bits_of w)) (clear_take to (bits_of w) e)

-- the last octet, alone
pub some_octet : (w : List ℕ) → false ≡ eqb (length w) 0 → 0 < length w
some_octet [] e = absurd (cc)
some_octet (x ∷ w) e = omega arith

pub by_last : (u : ℕ) (w : List ℕ) → 0 < length w → u ≤ 7 → all_false (drop (8 - u) (bits_of (get_or w (length w - 1) 0 ∷ []))) ≡ last_are_zero u w
by_last u w some le =
    let k = length w - 1 in
    let none : drop (suc k) w ≡ [] = drop_all (suc k) w (omega arith) in
    let alone : drop k w ≡ get_or w k 0 ∷ [] = drop-cons w k 0 (omega arith) ∙ ap (λ (l : List ℕ). get_or w k 0 ∷ l) none in
    ap (λ (l : List ℕ). all_false (drop (8 - u) (take 8 (bits_of l)))) (sym alone) ∙ last_octet u w le

-- through a loop: those that are left
zero_clear : (x : ℕ) (w : List ℕ) → x ≡ 0 → all_false (bits_of w) ≡ true → all_false (bits_of (x ∷ w)) ≡ true
unfolding bit
zero_clear x w is e = rw is e

pub zero_more : (w : List ℕ) (i : ℕ) → i < length w → get_or w i 0 ≡ 0 → all_false (bits_of (drop (i + 1) w)) ≡ true → all_false (bits_of (drop i w)) ≡ true
zero_more w i h none e =
    let cut = drop-cons w i 0 h in
    let rest = ap (λ (k : ℕ). all_false (bits_of (drop k w))) (sym (add-one i)) ∙ e in
    ap (λ (l : List ℕ). all_false (bits_of l)) cut ∙ zero_clear (get_or w i 0) (drop (suc i) w) none rest

pub zero_end : (w : List ℕ) (i : ℕ) → length w ≤ i → all_false (bits_of (drop i w)) ≡ true
zero_end w i h = ap (λ (l : List ℕ). all_false (bits_of l)) (drop_all i w h)

-- ---- components

with_sum : (need : Need) (a b c : ℕ) → a ≡ b + c → optional_with need a ≡ optional_with need b + c
with_sum must a b c e = e
with_sum may a b c e = omega (arith, e)
with_sum (default d) a b c e = omega (arith, e)

optional_split : (xs : List Field) (i : ℕ) → optional (fields_of xs) ≡ optional (fields_of (take i xs)) + optional (fields_of (drop i xs))
optional_split xs zero = omega arith
optional_split [] (suc i) = refl
optional_split (x ∷ xs) (suc i) = with_sum (need_of x.need) (optional (fields_of xs)) (optional (fields_of (take i xs))) (optional (fields_of (drop i xs))) (optional_split xs i)

-- those before one, itself, and those after it
pub optional_parts : (xs : List Field) (i : ℕ) → i < length xs → optional (fields_of xs) ≡ optional (fields_of (take i xs)) + (optional (fields_of (take (i + 1 - i) (drop i xs))) + optional (fields_of (take (length xs - (i + 1)) (drop (i + 1) xs))))
optional_parts xs i less =
    let ys = drop i xs in
    let zs = drop (i + 1) xs in
    let single : i + 1 - i ≡ 1 = omega arith in
    let one : take (i + 1 - i) ys ≡ take 1 ys = ap (λ (n : ℕ). take n ys) single in
    let next : zs ≡ drop 1 ys = drop_sum i 1 (i + 1) xs refl in
    let all : take (length xs - (i + 1)) zs ≡ drop 1 ys = take_all (length xs - (i + 1)) zs (omega (arith, length-drop (i + 1) xs)) ∙ next in
    let own : optional (fields_of (take (i + 1 - i) ys)) ≡ optional (fields_of (take 1 ys)) = ap (λ (l : List Field). optional (fields_of l)) one in
    let after : optional (fields_of (take (length xs - (i + 1)) zs)) ≡ optional (fields_of (drop 1 ys)) = ap (λ (l : List Field). optional (fields_of l)) all in
    omega (arith, optional_split xs i, optional_split ys 1, own, after)

optional_most : (xs : List Field) → optional (fields_of xs) ≤ length xs
optional_most [] = omega arith
optional_most (x ∷ xs) = by (need_of x.need) (optional_most xs)
  where
    by : (need : Need) → optional (fields_of xs) ≤ length xs → optional_with need (optional (fields_of xs)) ≤ suc (length xs)
    by must h = omega (arith, h)
    by may h = omega (arith, h)
    by (default d) h = omega (arith, h)

-- where each has a bit, and none of the bits is set
pub none_clear : (xs : List Field) (s : List Bool) → optional (fields_of xs) ≡ length xs → all_false s ≡ true → none_there (fields_of xs) s ≡ true
none_clear [] s each clear = refl
none_clear (x ∷ xs) s each clear = by (need_of x.need) s (λ t e c. none_clear xs t e c) each clear
  where
    Rest : List Bool → Type 0
    Rest t = optional (fields_of xs) ≡ length xs → all_false t ≡ true → none_there (fields_of xs) t ≡ true

    by : (need : Need) (s : List Bool) → ((t : List Bool) → Rest t) → optional_with need (optional (fields_of xs)) ≡ suc (length xs) → all_false s ≡ true → (not (is_there need s) && none_there (fields_of xs) (bits_left need s)) ≡ true
    by must s rest e c = absurd (omega (arith, e, optional_most xs))
    by may [] rest e c = rest [] (omega (arith, e)) refl
    by may (true ∷ s) rest e c = absurd (cc)
    by may (false ∷ s) rest e c = rest s (omega (arith, e)) c
    by (default d) [] rest e c = rest [] (omega (arith, e)) refl
    by (default d) (true ∷ s) rest e c = absurd (cc)
    by (default d) (false ∷ s) rest e c = rest s (omega (arith, e)) c
