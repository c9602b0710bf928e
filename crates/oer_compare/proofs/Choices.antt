-- What differs in lists of alternatives, as the code has them.
use Rattle.std.proofs.Common.{◌≡◌, Bool, true, false, List, [], ◌∷◌, Option, Some, None, Vec, Global, string_bytes, refl, sym, ◌∙◌, ap, ap₂}
use Rattle.oer_model.specs.AsnType.{AsnType}
use Rattle.oer_values.specs.ShapeView.{choice_with, known_later, later_of, root_of}
use Rattle.oer_values.specs.declared.shape.Alt.{Alt}
use Rattle.oer_compare.specs.Difference.{Difference, alternatives_differ, at_alternative, differ, inside, or_else, own_aspect}
use Rattle.oer_compare.specs.Views.{alts_differ, alts_differ_at}

assoc : {A : Type 0} (a b c : Option A) → or_else a (or_else b c) ≡ or_else (or_else a b) c
assoc None b c = refl
assoc (Some x) b c = refl

later_is : (ms ns : List Alt) → alternatives_differ (later_of ms) true (later_of ns) ≡ alts_differ true ms ns
later_is [] [] = refl
later_is [] (n ∷ ns) = later_is [] ns ∙ none ns
  where
    none : (ns : List Alt) → alts_differ true [] ns ≡ None
    none [] = refl
    none (n ∷ ns) = refl
later_is (m ∷ ms) [] = refl
later_is (m ∷ ms) (n ∷ ns) = ap (λ d. or_else (inside (at_alternative (string_bytes m.name)) (alts_differ_at m n)) d) (later_is ms ns)

root_is : (marker : Bool) (xs ms ys ns : List Alt) → alternatives_differ (root_of xs (later_of ms)) marker (root_of ys (later_of ns)) ≡ or_else (alts_differ false xs ys)
    (alternatives_differ (later_of ms) marker (later_of ns))
root_is marker [] ms [] ns = refl
root_is marker [] [] (y ∷ ys) ns = refl
root_is marker [] (m ∷ ms) (y ∷ ys) ns = refl
root_is marker (x ∷ xs) ms [] [] = refl
root_is marker (x ∷ xs) ms [] (n ∷ ns) = refl
root_is marker (x ∷ xs) ms (y ∷ ys) ns =
    let rest = alternatives_differ (later_of ms) marker (later_of ns) in
    let first = inside (at_alternative (string_bytes x.name)) (alts_differ_at x y) in
    ap (λ d. or_else first d) (root_is marker xs ms ys ns) ∙ assoc first (alts_differ false xs ys) rest

some_none : {A : Type 0} (x : A) → Some x ≡ None → ⊥
some_none x e = absurd (cc)

-- two types of CHOICE that agree on the marker
choices : (xs ys : List Alt) (more added : Option (Vec Alt Global)) → own_aspect (choice_with xs more) (choice_with ys added) ≡ None
    → differ (choice_with xs more) (choice_with ys added) ≡ or_else (alts_differ false xs ys) (alts_differ true (known_later more) (known_later added))
choices xs ys None None e = root_is false xs [] ys []
choices xs ys (Some more) (Some added) e = root_is true xs more.items ys added.items ∙ ap (λ d. or_else (alts_differ false xs ys) d) (later_is more.items added.items)
choices xs ys None (Some added) e = absurd (some_none _ e)
choices xs ys (Some more) None e = absurd (some_none _ e)

-- the same of types that are these
pub of_choices : (T U : AsnType) (xs ys : List Alt) (more added : Option (Vec Alt Global)) → T ≡ choice_with xs more → U ≡ choice_with ys added
    → own_aspect T U ≡ None → differ T U ≡ or_else (alts_differ false xs ys) (alts_differ true (known_later more) (known_later added))
of_choices T U xs ys more added t u e =
    ap₂ differ t u ∙ choices xs ys more added (sym (ap₂ own_aspect t u) ∙ e)

-- an answer that finds something is the whole one; one that finds nothing leaves it to the next
pub first_found : (d e a : Option Difference) (x : Difference) → d ≡ or_else a e → a ≡ Some x → Some x ≡ d
first_found d e a x is found = sym (is ∙ ap (λ b. or_else b e) found)

pub then_found : (d e a : Option Difference) → d ≡ or_else a e → a ≡ None → e ≡ d
then_found d e a is none = sym (is ∙ ap (λ b. or_else b e) none)
