-- Names, one by one.
use Rattle.std.proofs.Common.{◌≡◌, ◌≢◌, ◌<◌, ◌+◌, ℕ, zero, suc, List, [], ◌∷◌, ◌++◌, length, take, drop, map, get_or, Bool, true, false, Option, Some, None, refl, sym, ap, ap₂, ◌∙◌, subst, arith, append_assoc}
use Rattle.std.specs.Prelude.{codes}
use Rattle.std.specs.Borrow.{Bor}
use Rattle.std.specs.List.{flat_map, join_by}
use Rattle.clap.specs.Words.{Text}
use Rattle.oer_at.specs.declared.hop.Wanted.{Wanted}
use Rattle.oer_at_cmd.specs.Errors.{place_of, subject_of}
use Rattle.oer_words.specs.Scan.{text_behind}

flat : (sep : Text) (xs : List (Bor Text)) → flat_map (λ y. sep ++ text_behind y) xs ≡ flat_map (λ y. sep ++ y) (map text_behind xs)
flat sep [] = refl
flat sep (x ∷ xs) = ap (λ (l : Text). (sep ++ x.now) ++ l) (flat sep xs)

pub joined : (sep : Text) (xs : List (Bor Text)) → join_by text_behind sep xs ≡ join_by (λ n. n) sep (map text_behind xs)
joined sep [] = refl
joined sep (x ∷ xs) = ap (λ (l : Text). x.now ++ l) (flat sep xs)

pub placed : (xs : List (Bor Text)) → (length xs ≡ 0 → ⊥) → (t : Text) → t ≡ codes " at " ++ join_by text_behind (codes ".") xs
    → t ≡ place_of (map text_behind xs)
placed [] some t is = absurd (some refl)
placed (x ∷ xs) some t is = is ∙ ap (λ (l : Text). codes " at " ++ l) (joined (codes ".") (x ∷ xs))

pub get_mapped : (xs : List (Bor Text)) (i : ℕ) (o : Bor Text) → i < length xs → (get_or xs i o).now ≡ get_or (map text_behind xs) i []
get_mapped [] i o less = absurd (omega arith)
get_mapped (x ∷ xs) zero o less = refl
get_mapped (x ∷ xs) (suc i) o less = get_mapped xs i o (omega arith)

pub take_mapped : (i : ℕ) (xs : List (Bor Text)) → map text_behind (take i xs) ≡ take i (map text_behind xs)
take_mapped zero xs = refl
take_mapped (suc i) [] = refl
take_mapped (suc i) (x ∷ xs) = ap (λ (l : List Text). x.now ∷ l) (take_mapped i xs)

-- ---- the line of a name

pub lined : (S P U Q line : Text) → line ≡ codes "oer: at: no " ++ (S ++ (P ++ 10 ∷ [])) → S ≡ U → P ≡ Q → line ≡ codes "oer: " ++ ((codes "at: no " ++ (U ++ Q)) ++ 10 ∷ [])
lined S P U Q line is same place =
    is ∙ ap (λ (l : Text). codes "oer: at: no " ++ l) (ap₂ (λ (a b : Text). a ++ (b ++ 10 ∷ [])) same place ∙ sym (append_assoc U Q (10 ∷ [])))

pub subject_at : (w : Wanted) (names : List (Bor Text)) (i : ℕ) (o : Bor Text) → i < length names → subject_of w (get_or names i o).now ≡ subject_of w (get_or (map text_behind names) i [])
subject_at w names i o less = ap (subject_of w) (get_mapped names i o less)

pub place_at : (names : List (Bor Text)) (i : ℕ) → place_of (map text_behind (take i names)) ≡ place_of (take i (map text_behind names))
place_at names i = ap place_of (take_mapped i names)
