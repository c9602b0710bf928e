-- Keys, step by step.
use Rattle.std.proofs.Common.{◌≡◌, ℕ, List, [], ◌∷◌, map, Bool, true, false, ◌==◌, None, String, Global, refl, ap, string_bytes}
use Rattle.std.proofs.lemmas.Bool.{eqb-true}
use Rattle.serde_json.specs.View.{members_view}
use Rattle.serde_json.specs.declared.value.Value as json
use Rattle.oer_json.specs.Keys.{class_digits, keys_of, place_digits, tag_digits}

not_it : (c d : ℕ) (cs : List ℕ) → ((rest : List ℕ) → c ∷ cs ≡ d ∷ rest → ⊥) → (b : Bool) → c == d ≡ b → b ≡ false
not_it c d cs never true e = absurd (never cs (ap (λ x. x ∷ cs) (eqb-true c d e)))
not_it c d cs never false e = refl

pub no_place : (w : List ℕ) → ((rest : List ℕ) → w ≡ 35 ∷ rest → ⊥) → place_digits w ≡ None
no_place [] never = refl
no_place (c ∷ cs) never = rw (not_it c 35 cs never (c == 35) refl) refl

pub no_tag : (w : List ℕ) → ((rest : List ℕ) → w ≡ 35 ∷ rest → ⊥) → tag_digits w ≡ None
no_tag [] never = refl
no_tag (c ∷ cs) never = rw (not_it c 35 cs never (c == 35) refl) refl

pub no_class : (w : List ℕ) → ((rest : List ℕ) → w ≡ 117 ∷ rest → ⊥) → ((rest : List ℕ) → w ≡ 97 ∷ rest → ⊥) → ((rest : List ℕ) → w ≡ 99 ∷ rest → ⊥) → ((rest : List ℕ) → w ≡ 112 ∷ rest → ⊥) → class_digits w ≡ None
no_class [] a b c d = refl
no_class (x ∷ xs) a b c d = rw (not_it x 117 xs a (x == 117) refl, not_it x 97 xs b (x == 97) refl, not_it x 99 xs c (x == 99) refl, not_it x 112 xs d (x == 112) refl) refl

-- the keys of a map
pub keys_view : (es : List (String Global × json.Value)) → keys_of (members_view es) ≡ map string_bytes (map (λ e. e.0) es)
keys_view [] = refl
keys_view (e ∷ es) = ap (λ ks. string_bytes e.0 ∷ ks) (keys_view es)
