-- A text and its names.
use Rattle.std.proofs.Common.{◌≡◌, ◌≢◌, ℕ, List, [], ◌∷◌, ◌++◌, map, false, eqb, refl, sym, ap, ◌∙◌, arith}
use Rattle.std.specs.Borrow.{Bor}
use Rattle.std.proofs.lemmas.Bool.Decides.{nat_tests}
use Rattle.oer_at.specs.Names.{names_in, text_behind}
use Rattle.oer_parts.proofs.Paths.{Falls, Lacks, later}

no_point : (x : ℕ) (xs : List ℕ) → Lacks (x ∷ xs) → eqb x 46 ≡ false
no_point x xs h = let ne : x ≢ 46 = h 0 (omega arith) in grind (arith, nat_tests)

-- a text without a point is one name
pub one_name : (xs : List ℕ) → Lacks xs → names_in xs ≡ xs ∷ []
one_name [] h = refl
one_name (x ∷ xs) h = rw (no_point x xs h, one_name xs (later x xs h)) refl

first_name : (front rest : List ℕ) → Lacks front → names_in (front ++ 46 ∷ rest) ≡ front ∷ names_in rest
first_name [] rest h = refl
first_name (x ∷ xs) rest h = rw (no_point x xs h, first_name xs rest (later x xs h)) refl

pub names_of : (xs front rest : List ℕ) → Falls xs front rest → names_in xs ≡ front ∷ names_in rest
names_of xs front rest h = ap names_in h.all ∙ first_name front rest h.lacks

-- one more name
pub goes_on : (text rest : List ℕ) (names : List (Bor (List ℕ))) (front more : Bor (List ℕ)) → names_in text ≡ map text_behind names ++ names_in rest
    → Falls rest front.now more.now → names_in text ≡ map text_behind (names ++ front ∷ []) ++ names_in more.now
goes_on text rest names front more inv falls =
    inv ∙ ap (λ (l : List (List ℕ)). map text_behind names ++ l) (names_of rest front.now more.now falls) ∙ sym (mapped names) where
      mapped : (ns : List (Bor (List ℕ))) → map text_behind (ns ++ front ∷ []) ++ names_in more.now ≡ map text_behind ns ++ (front.now ∷ names_in more.now)
      mapped [] = refl
      mapped (n ∷ ns) = ap (λ (l : List (List ℕ)). n.now ∷ l) (mapped ns)

-- the last one
pub ends : (text : List ℕ) (names : List (Bor (List ℕ))) (rest : Bor (List ℕ)) → names_in text ≡ map text_behind names ++ names_in rest.now
    → Lacks rest.now → map text_behind (names ++ rest ∷ []) ≡ names_in text
ends text names rest inv lacks =
    mapped names ∙ ap (λ (l : List (List ℕ)). map text_behind names ++ l) (sym (one_name rest.now lacks)) ∙ sym inv where
      mapped : (ns : List (Bor (List ℕ))) → map text_behind (ns ++ rest ∷ []) ≡ map text_behind ns ++ (rest.now ∷ [])
      mapped [] = refl
      mapped (n ∷ ns) = ap (λ (l : List (List ℕ)). n.now ∷ l) (mapped ns)
