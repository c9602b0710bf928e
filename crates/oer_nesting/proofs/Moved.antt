-- What S spells of values that have P, S' spells too: so it stays by all ways in which spellings are put together.
use Rattle.std.proofs.Common.{◌≡◌, ℕ, inl, inr, List, [], ◌∷◌, drop, max, Bool, true, false, sym, ap, ◌∙◌, subst}
use Rattle.oer_units.specs.Spelling.{IsCounted, IsJoined}
use Rattle.oer_units.specs.declared.tagging.Tag.{Tag}
use Rattle.oer_model.specs.AsnType.{Additions, Alternatives, Need, default, may, must}
use Rattle.oer_model.specs.AsnValue.{AsnValue, Places, Unknown}
use Rattle.oer_model.specs.Bits.{first_bit, later_bits}
use Rattle.oer_model.specs.Constraints.{addition_count, has_tag}
use Rattle.oer_model.specs.Encoding.{ByBit, ByNeed, ByTag, IsItself, IsPresent, SpellsChosen, SpellsExtension, SpellsUnknown}
use Rattle.oer_model.specs.Fits.{DefaultFits, FitsByTag, after_last, all_absent, listed}
use Rattle.oer_model.specs.Strict.{StrictChosen, StrictCounted, StrictExtension, StrictNeed}
use Rattle.oer_nesting.specs.Deeper.{OfChosen, OfPlaces, OfValues}

abbrev pub Moves : {A : Type 0} → (A → Type 0) → (A → List ℕ → Type 0) → (A → List ℕ → Type 0) → Type 0
Moves {A} P S S' = (x : A) (b : List ℕ) → P x → S x b → S' x b

-- P holds of each value of a list
abbrev pub OfEach : (AsnValue → Type 0) → List AsnValue → Type 0
OfEach P vs = OfValues P (listed vs)

pub counted_moves : (P : AsnValue → Type 0) (S S' : AsnValue → List ℕ → Type 0) → Moves P S S' → Moves P (IsCounted S) (IsCounted S')
counted_moves P S S' f x b n (l, c, e, len, s) = (l, c, e, len, f x c n s)

pub strict_counted_moves : (P : AsnValue → Type 0) (S S' : AsnValue → List ℕ → Type 0) → Moves P S S'
    → Moves P (StrictCounted S) (StrictCounted S')
strict_counted_moves P S S' f x b n (l, c, e, len, s) = (l, c, e, len, f x c n s)

pub every_moves : (P : AsnValue → Type 0) (S S' : AsnValue → List ℕ → Type 0) → Moves P S S'
    → Moves (OfEach P) (IsJoined S) (IsJoined S')
every_moves P S S' f [] b n e = e
every_moves P S S' f (v ∷ vs) b n (b1, b2, e, s, r) = (b1, b2, e, f v b1 n.0 s, every_moves P S S' f vs b2 n.1 r)

pub tag_moves : (same : Bool) (P O : AsnValue → Type 0) (S S' R R' : AsnValue → List ℕ → Type 0) → Moves P S S' → Moves O R R'
    → Moves (FitsByTag same P O) (ByTag same S R) (ByTag same S' R')
tag_moves true P O S S' R R' f g = f
tag_moves false P O S S' R R' f g = g

present_moves : (P : AsnValue → Type 0) (Q : Places → Type 0) (S S' : AsnValue → List ℕ → Type 0) (R R' : Places → List ℕ → Type 0)
    → Moves P S S' → Moves Q R R' → Moves (OfPlaces P Q) (IsPresent S R) (IsPresent S' R')
present_moves P Q S S' R R' f g ps b n (v, rest, b1, b2, is, e, s, r) =
    let m : P v × Q rest = subst (OfPlaces P Q) is n in
    (v, rest, b1, b2, is, e, f v b1 m.0 s, g rest b2 m.1 r)

pub bit_moves : (x : Bool) (P : AsnValue → Type 0) (Q : Places → Type 0) (S S' : AsnValue → List ℕ → Type 0)
    (R R' : Places → List ℕ → Type 0) → Moves P S S' → Moves Q R R' → Moves (OfPlaces P Q) (ByBit x S R) (ByBit x S' R')
bit_moves true P Q S S' R R' f g = present_moves P Q S S' R R' f g
bit_moves false P Q S S' R R' f g = λ ps b n (rest, is, r). (rest, is, g rest b (subst (OfPlaces P Q) is n) r)

pub need_moves : (need : Need) (P : AsnValue → Type 0) (Q : Places → Type 0) (S S' : AsnValue → List ℕ → Type 0)
    (R R' : List Bool → Places → List ℕ → Type 0) → Moves P S S' → ((s : List Bool) → Moves Q (R s) (R' s))
    → (s : List Bool) → Moves (OfPlaces P Q) (ByNeed need S R s) (ByNeed need S' R' s)
need_moves must P Q S S' R R' f g s = present_moves P Q S S' (R s) (R' s) f (g s)
need_moves may P Q S S' R R' f g s = bit_moves (first_bit s) P Q S S' (R (later_bits s)) (R' (later_bits s)) f (g (later_bits s))
need_moves (default d) P Q S S' R R' f g s =
    bit_moves (first_bit s) P Q S S' (R (later_bits s)) (R' (later_bits s)) f (g (later_bits s))

-- the fills h and h' of a component are the same where it has P, as its default has
pub strict_need_moves : (need : Need) (P : AsnValue → Type 0) (Q : Places → Type 0) (h h' : AsnValue → AsnValue)
    → ((v : AsnValue) → P v → h v ≡ h' v) → DefaultFits need P → (S S' : AsnValue → List ℕ → Type 0)
    (R R' : List Bool → Places → List ℕ → Type 0) → Moves P S S' → ((s : List Bool) → Moves Q (R s) (R' s))
    → (s : List Bool) → Moves (OfPlaces P Q) (StrictNeed need h S R s) (StrictNeed need h' S' R' s)
strict_need_moves must P Q h h' same has S S' R R' f g s = present_moves P Q S S' (R s) (R' s) f (g s)
strict_need_moves may P Q h h' same has S S' R R' f g s =
    bit_moves (first_bit s) P Q S S' (R (later_bits s)) (R' (later_bits s)) f (g (later_bits s))
strict_need_moves (default d) P Q h h' same has S S' R R' f g s =
    bit_moves (first_bit s) P Q (λ v c. S v c × (h v ≡ h d → ⊥)) (λ v c. S' v c × (h' v ≡ h' d → ⊥)) (R (later_bits s)) (R' (later_bits s))
    (λ v c n (spelt, other). (f v c n spelt, λ e. other (same v n ∙ e ∙ sym (same d has)))) (g (later_bits s))

pub extension_moves : (x : Bool) (more others : Additions) → all_absent more ≡ all_absent others
    → addition_count more ≡ addition_count others → (Q : Places → Type 0) (S S' : List Bool → Places → List ℕ → Type 0)
    → ((s : List Bool) → Moves Q (S s) (S' s)) → (ps : Places) (us : List Unknown) (b : List ℕ) → Q ps
    → SpellsExtension x more S ps us b → SpellsExtension x others S' ps us b
extension_moves false more others none count Q S S' f ps us b n (is, known, e) = (is ∙ none, known, e)
extension_moves true more others none count Q S S' f ps us b n (s, m, a, u, e, k, low, p, r) =
    (s, m, a, u, e, k, low, f s ps a n p, subst (λ i. SpellsUnknown (IsCounted IsItself) i (drop i s) us u) count r)

pub strict_extension_moves : (x : Bool) (more others : Additions) → all_absent more ≡ all_absent others
    → addition_count more ≡ addition_count others → (Q : Places → Type 0) (S S' : List Bool → Places → List ℕ → Type 0)
    → ((s : List Bool) → Moves Q (S s) (S' s)) → (ps : Places) (us : List Unknown) (b : List ℕ) → Q ps
    → StrictExtension x more S ps us b → StrictExtension x others S' ps us b
strict_extension_moves false more others none count Q S S' f ps us b n (is, known, e) = (is ∙ none, known, e)
strict_extension_moves true more others none count Q S S' f ps us b n (s, z, m, a, u, e, k, i, len, some, low, p, r) =
    (s, z, m, a, u, e, k, i ∙ count, len ∙ ap (λ j. max j (after_last us)) count, some, low, f s ps a n p, subst (λ j. SpellsUnknown (StrictCounted IsItself) j z us u) count r)

pub chosen_moves : (extensible : Bool) (more others : Alternatives) (t : Tag) → has_tag t more ≡ has_tag t others
    → (O : Tag → AsnValue → Type 0) (S S' : AsnValue → List ℕ → Type 0) → Moves (O t) S S' → (v : AsnValue) (c : List ℕ)
    → OfChosen O v → SpellsChosen extensible more S t v c → SpellsChosen extensible others S' t v c
chosen_moves extensible more others t tags O S S' f v c n (inl (x, is, s)) = inl (x, is, f x c (subst (OfChosen O) is n) s)
chosen_moves extensible more others t tags O S S' f v c n (inr (w, is, may_be, none, k)) = inr (w, is, may_be, sym tags ∙ none, k)

pub strict_chosen_moves : (extensible : Bool) (more others : Alternatives) (t : Tag) → has_tag t more ≡ has_tag t others
    → (O : Tag → AsnValue → Type 0) (S S' : AsnValue → List ℕ → Type 0) → Moves (O t) S S' → (v : AsnValue) (c : List ℕ)
    → OfChosen O v → StrictChosen extensible more S t v c → StrictChosen extensible others S' t v c
strict_chosen_moves extensible more others t tags O S S' f v c n (inl (x, is, s)) = inl (x, is, f x c (subst (OfChosen O) is n) s)
strict_chosen_moves extensible more others t tags O S S' f v c n (inr (w, is, may_be, none, k)) =
    inr (w, is, may_be, sym tags ∙ none, k)
