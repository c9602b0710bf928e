-- What stands between points, part by part.
use Rattle.std.proofs.Common.{◌≡◌, ℕ, zero, suc, ◌+◌, ◌<◌, List, [], ◌∷◌, ◌++◌, length, drop, get_or, Bool, true, false, cond, ◌&&◌, ◌==◌, Option, Some, Bor, Result, Ok, Err, IsUtf8, refl, sym, ap, subst, ◌∙◌, arith, append_assoc, append-nil, nat_lt, lt-ltb}
use Rattle.std.proofs.lemmas.Bool.{eqb-true}
use Rattle.std.proofs.lemmas.Str.{IsUtf8-drop, IsCharBoundary-after_ascii}
use Rattle.std.proofs.lemmas.Str.Pattern.{IsSplitOnceResult, split_parts}
use Rattle.oer_json.specs.Answer.{◌>>=◌}
use Rattle.oer_json.specs.Take.{number_in, numbers_in}
use Rattle.oer_json.specs.Texts.{all_natural, is_natural, parts}
use Rattle.oer_json.specs.declared.fault.JsonFault.{JsonFault}

-- there is no point in the list
abbrev pub HasNoPoint : List ℕ → Type 0
HasNoPoint xs = (i : ℕ) → i < length xs → get_or xs i 0 ≡ 46 → ⊥

no_point_first : (c : ℕ) (cs : List ℕ) → HasNoPoint (c ∷ cs) → (b : Bool) → c == 46 ≡ b → c == 46 ≡ false
no_point_first c cs h true e = absurd (h zero (omega arith) (eqb-true c 46 e))
no_point_first c cs h false e = e

no_point_rest : (c : ℕ) (cs : List ℕ) → HasNoPoint (c ∷ cs) → HasNoPoint cs
no_point_rest c cs h i l = h (suc i) (omega arith)

pub parts_whole : (found w : List ℕ) → HasNoPoint w → parts found w ≡ (found ++ w) ∷ []
parts_whole found [] h = ap (λ x. x ∷ []) (sym (append-nil found))
parts_whole found (c ∷ cs) h = rw (no_point_first c cs h (c == 46) refl) (parts_whole (found ++ c ∷ []) cs (no_point_rest c cs h) ∙ ap (λ x. x ∷ []) (append_assoc found (c ∷ []) cs))

pub parts_split : (found w r : List ℕ) → HasNoPoint w → parts found (w ++ 46 ∷ r) ≡ (found ++ w) ∷ parts [] r
parts_split found [] r h = ap (λ x. x ∷ parts [] r) (sym (append-nil found))
parts_split found (c ∷ cs) r h = rw (no_point_first c cs h (c == 46) refl) (parts_split (found ++ c ∷ []) cs r (no_point_rest c cs h) ∙ ap (λ x. x ∷ parts [] r) (append_assoc found (c ∷ []) cs))

-- at a point
pub parts_at : (bs part after : List ℕ) → bs ≡ part ++ 46 ∷ after → HasNoPoint part → parts [] bs ≡ part ∷ parts [] after
parts_at bs part after e h = ap (parts []) e ∙ parts_split [] part after h

pub natural_fails : (bs part after : List ℕ) → bs ≡ part ++ 46 ∷ after → HasNoPoint part → is_natural part ≡ false → all_natural (parts [] bs) ≡ false
natural_fails bs part after e h n = ap all_natural (parts_at bs part after e h) ∙ rw n refl

pub natural_goes_on : (bs part after : List ℕ) → bs ≡ part ++ 46 ∷ after → HasNoPoint part → is_natural part ≡ true → all_natural (parts [] bs) ≡ all_natural (parts [] after)
natural_goes_on bs part after e h n = ap all_natural (parts_at bs part after e h) ∙ rw n refl

pub natural_ends : (bs : List ℕ) → HasNoPoint bs → all_natural (parts [] bs) ≡ is_natural bs
natural_ends bs h = ap all_natural (parts_whole [] bs h) ∙ and_last (is_natural bs) where
  and_last : (b : Bool) → (b && true) ≡ b
  and_last true = refl
  and_last false = refl

pub number_stops : (bs part after : List ℕ) (f : JsonFault) → bs ≡ part ++ 46 ∷ after → HasNoPoint part → number_in part ≡ Err f → numbers_in (parts [] bs) ≡ Err f
number_stops bs part after f e h n = ap numbers_in (parts_at bs part after e h) ∙ rw n refl

push : (r : Result (List ℕ) JsonFault) (xs ys : List ℕ) (x : ℕ) → ys ≡ xs ++ x ∷ [] → ((r >>= λ zs. Ok (x ∷ zs)) >>= λ zs. Ok (xs ++ zs)) ≡ (r >>= λ zs. Ok (ys ++ zs))
push (Ok zs) xs ys x e = ap Ok (sym (append_assoc xs (x ∷ []) zs) ∙ ap (λ l. l ++ zs) (sym e))
push (Err f) xs ys x e = refl

pub number_goes_on : (bs part after xs ys : List ℕ) (x : ℕ) → bs ≡ part ++ 46 ∷ after → HasNoPoint part → number_in part ≡ Ok x → ys ≡ xs ++ x ∷ []
    → (numbers_in (parts [] bs) >>= λ zs. Ok (xs ++ zs)) ≡ (numbers_in (parts [] after) >>= λ zs. Ok (ys ++ zs))
number_goes_on bs part after xs ys x e h n k = ap (λ ws. numbers_in ws >>= λ zs. Ok (xs ++ zs)) (parts_at bs part after e h) ∙ rw n (push (numbers_in (parts [] after)) xs ys x k)

pub number_fails : (bs : List ℕ) (f : JsonFault) → HasNoPoint bs → number_in bs ≡ Err f → numbers_in (parts [] bs) ≡ Err f
number_fails bs f h n = ap numbers_in (parts_whole [] bs h) ∙ rw n refl

pub number_ends : (bs xs ys : List ℕ) (x : ℕ) → HasNoPoint bs → number_in bs ≡ Ok x → ys ≡ xs ++ x ∷ [] → (numbers_in (parts [] bs) >>= λ zs. Ok (xs ++ zs)) ≡ Ok ys
number_ends bs xs ys x h n k = ap (λ ws. numbers_in ws >>= λ zs. Ok (xs ++ zs)) (parts_whole [] bs h) ∙ rw n (ap Ok (sym k))

-- what follows a point is UTF-8
pub utf8_after : (bs part after : List ℕ) → bs ≡ part ++ 46 ∷ after → IsUtf8 bs → IsUtf8 after
utf8_after bs part after e u =
    let v = subst IsUtf8 e u in
    subst IsUtf8 (drop_past part after) (IsUtf8-drop (part ++ 46 ∷ after) (length part + 1) v (IsCharBoundary-after_ascii (part ++ 46 ∷ after) (length part) v (within part after) (ascii part after))) where
      drop_past : (xs ys : List ℕ) → drop (length xs + 1) (xs ++ 46 ∷ ys) ≡ ys
      drop_past [] ys = refl
      drop_past (x ∷ xs) ys = let s : length (x ∷ xs) + 1 ≡ suc (length xs + 1) = omega arith in ap (λ n. drop n ((x ∷ xs) ++ 46 ∷ ys)) s ∙ drop_past xs ys

      within : (xs ys : List ℕ) → length xs < length (xs ++ 46 ∷ ys)
      within [] ys = omega arith
      within (x ∷ xs) ys = let r = within xs ys in omega arith

      ascii : (xs ys : List ℕ) → get_or (xs ++ 46 ∷ ys) (length xs) 0 < 128
      ascii [] ys = omega arith
      ascii (x ∷ xs) ys = ascii xs ys

-- two parts or more, where there is a point
two : (bs part after : List ℕ) → bs ≡ part ++ 46 ∷ after → HasNoPoint part → 1 < length (parts [] bs)
two bs part after e h = subst (λ ws. 1 < length ws) (sym (parts_at bs part after e h)) (some_parts [] after) where
  some_by : (b : Bool) (found : List ℕ) (xs ys : List (List ℕ)) → 1 < suc (length ys) → 1 < suc (length (cond b (found ∷ xs) ys))
  some_by true found xs ys l = omega arith
  some_by false found xs ys l = l

  some_parts : (found w : List ℕ) → 1 < suc (length (parts found w))
  some_parts found [] = omega arith
  some_parts found (c ∷ cs) = some_by (c == 46) found (parts [] cs) (parts (found ++ c ∷ []) cs) (some_parts (found ++ c ∷ []) cs)

pub has_two : (bs part after : List ℕ) → bs ≡ part ++ 46 ∷ after → HasNoPoint part → nat_lt 1 (length (parts [] bs)) ≡ true
has_two bs part after e h = lt-ltb 1 (length (parts [] bs)) (two bs part after e h)

pub has_one : (bs : List ℕ) → HasNoPoint bs → nat_lt 1 (length (parts [] bs)) ≡ false
has_one bs h = ap (λ ws. nat_lt 1 (length ws)) (parts_whole [] bs h)

split_at_point : (bs : List ℕ) (r : Option (Bor (List ℕ) × Bor (List ℕ))) (x : Bor (List ℕ) × Bor (List ℕ)) → IsSplitOnceResult 46 bs r → r ≡ Some x → IsSplitOnceResult 46 bs (Some x)
split_at_point bs r x h e = subst (IsSplitOnceResult 46 bs) e h

pub split_some : (bs : List ℕ) (r : Option (Bor (List ℕ) × Bor (List ℕ))) (x : Bor (List ℕ) × Bor (List ℕ)) → IsSplitOnceResult 46 bs r → r ≡ Some x → (bs ≡ x.0.now ++ 46 ∷ x.1.now) × HasNoPoint x.0.now
split_some bs r x h e = split_parts 46 bs (Some x) (split_at_point bs r x h e) (omega arith)

pub two_of : (bs : List ℕ) (r : Option (Bor (List ℕ) × Bor (List ℕ))) (x : Bor (List ℕ) × Bor (List ℕ)) → IsSplitOnceResult 46 bs r → r ≡ Some x → nat_lt 1 (length (parts [] bs)) ≡ true
two_of bs r x h e = let p = split_some bs r x h e in has_two bs x.0.now x.1.now p.0 p.1
