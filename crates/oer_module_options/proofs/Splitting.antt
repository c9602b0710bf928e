-- What stands before the first `=` of a word, and behind it.
use Rattle.std.proofs.Common.{◌≡◌, ℕ, zero, suc, ◌<◌, List, [], ◌∷◌, ◌++◌, length, get_or, Bool, true, false, ◌==◌, Option, Some, None, Bor, refl, subst, ap, arith}
use Rattle.std.proofs.lemmas.Bool.{eqb-true}
use Rattle.std.proofs.lemmas.Str.Pattern.{IsSplitOnceResult, split_parts}
use Rattle.oer_module_options.specs.Words.{name_in, value_in}

-- there is no `=` in the word
abbrev pub HasNone : List ℕ → Type 0
HasNone w = (i : ℕ) → i < length w → get_or w i 0 ≡ 61 → ⊥

none_first : (c : ℕ) (cs : List ℕ) → HasNone (c ∷ cs) → (b : Bool) → c == 61 ≡ b → c == 61 ≡ false
none_first c cs h true e = absurd (h zero (omega arith) (eqb-true c 61 e))
none_first c cs h false e = e

none_rest : (c : ℕ) (cs : List ℕ) → HasNone (c ∷ cs) → HasNone cs
none_rest c cs h i l = h (suc i) (omega arith)

pub name_before : (w r : List ℕ) → HasNone w → name_in (w ++ 61 ∷ r) ≡ w
name_before [] r h = refl
name_before (c ∷ cs) r h = rw (none_first c cs h (c == 61) refl) (ap (λ x. c ∷ x) (name_before cs r (none_rest c cs h)))

pub value_behind : (w r : List ℕ) → HasNone w → value_in (w ++ 61 ∷ r) ≡ Some r
value_behind [] r h = refl
value_behind (c ∷ cs) r h = rw (none_first c cs h (c == 61) refl) (value_behind cs r (none_rest c cs h))

pub name_alone : (w : List ℕ) → HasNone w → name_in w ≡ w
name_alone [] h = refl
name_alone (c ∷ cs) h = rw (none_first c cs h (c == 61) refl) (ap (λ x. c ∷ x) (name_alone cs (none_rest c cs h)))

pub value_alone : (w : List ℕ) → HasNone w → value_in w ≡ None
value_alone [] h = refl
value_alone (c ∷ cs) h = rw (none_first c cs h (c == 61) refl) (value_alone cs (none_rest c cs h))

pub cut : (bs : List ℕ) (r : Option (Bor (List ℕ) × Bor (List ℕ))) (x : Bor (List ℕ) × Bor (List ℕ)) → IsSplitOnceResult 61 bs r → r ≡ Some x
    → (bs ≡ x.0.now ++ 61 ∷ x.1.now) × HasNone x.0.now
cut bs r x h e = split_parts 61 bs (Some x) (subst (IsSplitOnceResult 61 bs) e h) (omega arith)
