-- What names reach in an encoding is of the type that they mean.
use Rattle.std.proofs.Common.{◌≡◌, inl, inr, ◌<◌, ◌≤◌, ◌+◌, ℕ, zero, suc, List, [], ◌∷◌, ◌++◌, length, drop, Bool, true, false, ◌||◌, Option, Some, None, eqb, refl, sym, ap, ap₂, ◌∙◌, subst, arith, length-append}
use Rattle.std.specs.Prelude.{if◌then◌else◌}
use Rattle.std.proofs.lemmas.Bool.Decides.{nat_tests}
use Rattle.oer_units.specs.Reader.{at, got}
use Rattle.oer_units.specs.Reading.{tag}
use Rattle.oer_units.specs.Spelling.{IsCounted, IsTag}
use Rattle.oer_units.specs.declared.tagging.Tag.{Tag}
use Rattle.oer_units.proofs.TagReaders.{tag_lawful}
use Rattle.oer_model.specs.AsnType.{Additions, Alternatives, AsnType, Fields, Need, addition, alternative, choice, default, extensible_sequence, field, later, may, must, no_additions, no_alternatives, no_fields, sequence, sequence_of}
use Rattle.oer_model.specs.Bits.{first_bit, later_bits}
use Rattle.oer_model.specs.Constraints.{addition_count, has_tag, same_tag}
use Rattle.oer_model.specs.Encoding.{IsItself}
use Rattle.oer_model.specs.Parts.{AloneByTag, Answer, Holds, IsAlone, LeadsTo, Part, SplitsAdditions, SplitsAlternative, SplitsExtension, SplitsFields, SplitsItems, SplitsUnknown, StartsByBit, StartsByNeed, Step, found, lookup, no_such_step, part, same_step, to_addition, to_chosen, to_component, to_item}
use Rattle.oer_model.specs.WellFormed.{AnyOf, HasRepeatedTag, Repeats, Somewhere, alternative_tags}
use Rattle.oer_model.proofs.filling.Same.{same_tag-refl, same_tag-true}
use Rattle.oer_model.proofs.paths.Finding.{same_found}
use Rattle.oer_parts.specs.declared.step.Step.TheVariants as step
use Rattle.oer_at.specs.Meaning.{BeginsWith, HasAlternative, Hops, IsCalled, Means, Reaches, addition_at, component_at}
use Rattle.oer_at.specs.declared.hop.Hop.{Hop}
use Rattle.oer_at.specs.declared.hop.Hop.TheVariants as kind
use Rattle.oer_at.proofs.Calling.{at_top, both_named, inside}

-- ---- parts and steps

-- the step leads to nothing among the parts
abbrev Free : Step → List Part → Type 0
Free s parts = (o : Answer) → lookup o s parts ≡ o

-- what the step leads to among the parts is of the type V
abbrev Only : Step → AsnType → List Part → Type 0
Only s V parts = (X : Option AsnType) (c : List ℕ) → lookup no_such_step s parts ≡ found X c → X ≡ Some V

abbrev choose : Bool → Option AsnType → List ℕ → Answer → Answer
choose t V c a = if t then found V c else a

known_not : {A : Type 0} (x : Bool) → x ≡ true → x ≡ false → A
known_not x e f = let none : true ≡ false = sym e ∙ f in absurd (cc)

nothing_found : {A : Type 0} (X : Option AsnType) (c : List ℕ) → no_such_step ≡ found X c → A
nothing_found X c e = absurd (cc)

free_of_none : (s : Step) (parts : List Part) → parts ≡ [] → Free s parts
free_of_none s parts is o = ap (lookup o s) is

only_of_free : (s : Step) (V : AsnType) (parts : List Part) → Free s parts → Only s V parts
only_of_free s V parts free X c f = nothing_found X c (sym (free no_such_step) ∙ f)

skip : (other s : Step) (V : Option AsnType) (c : List ℕ) (rest parts : List Part) → parts ≡ part other V c ∷ rest → same_step other s ≡ false
    → (o : Answer) → lookup o s parts ≡ lookup o s rest
skip other s V c rest parts is differs o = ap (lookup o s) is ∙ ap (λ (t : Bool). choose t V c (lookup o s rest)) differs

bit_free : (x : Bool) (other s : Step) (V : Option AsnType) (S : List ℕ → List ℕ → Type 0) (R : List Part → List ℕ → Type 0) (parts : List Part) (b : List ℕ)
    → same_step other s ≡ false → ((ps : List Part) (d : List ℕ) → R ps d → Free s ps) → StartsByBit x other V S R parts b → Free s parts
bit_free true other s V S R parts b differs more (c, rest, b1, b2, is, e, held, r) o = skip other s V c rest parts is differs o ∙ more rest b2 r o
bit_free false other s V S R parts b differs more r o = more parts b r o

bit_only : (x : Bool) (other s : Step) (V : AsnType) (T : Option AsnType) (S : List ℕ → List ℕ → Type 0) (R : List Part → List ℕ → Type 0) (parts : List Part) (b : List ℕ)
    → same_step other s ≡ false → ((ps : List Part) (d : List ℕ) → R ps d → Only s V ps) → StartsByBit x other T S R parts b → Only s V parts
bit_only true other s V T S R parts b differs more (c, rest, b1, b2, is, e, held, r) X d f =
    more rest b2 r X d (sym (skip other s T c rest parts is differs no_such_step) ∙ f)
bit_only false other s V T S R parts b differs more r X d f = more parts b r X d f

bit_first : (x : Bool) (s : Step) (T : AsnType) (S : List ℕ → List ℕ → Type 0) (R : List Part → List ℕ → Type 0) (parts : List Part) (b : List ℕ)
    → same_step s s ≡ true → ((ps : List Part) (d : List ℕ) → R ps d → Free s ps) → StartsByBit x s (Some T) S R parts b → Only s T parts
bit_first true s T S R parts b same free (c, rest, b1, b2, is, e, held, r) X d f =
    let here : lookup no_such_step s parts ≡ found (Some T) c = ap (lookup no_such_step s) is ∙ ap (λ (t : Bool). choose t (Some T) c (lookup no_such_step s rest)) same in
    sym (same_found (Some T) X c d (sym here ∙ f)).0
bit_first false s T S R parts b same free r X d f = nothing_found X d (sym (free parts b r no_such_step) ∙ f)

by_need : (need : Need) (s : Step) (V : Option AsnType) (S : List ℕ → List ℕ → Type 0) (R : List Bool → List Part → List ℕ → Type 0) (bits : List Bool) (parts : List Part) (b : List ℕ)
    → StartsByNeed need s V S R bits parts b → (x : Bool) × (q : List Bool) × StartsByBit x s V S (R q) parts b
by_need must s V S R bits parts b r = (true, bits, r)
by_need may s V S R bits parts b r = (first_bit bits, later_bits bits, r)
by_need (default d) s V S R bits parts b r = (first_bit bits, later_bits bits, r)

over_join : (o : Answer) (s : Step) (xs ys : List Part) → lookup o s (xs ++ ys) ≡ lookup (lookup o s ys) s xs
over_join o s [] ys = refl
over_join o s (part other V c ∷ xs) ys = ap (λ (a : Answer). choose (same_step other s) V c a) (over_join o s xs ys)

free_join : (s : Step) (xs ys parts : List Part) → parts ≡ xs ++ ys → Free s xs → Free s ys → Free s parts
free_join s xs ys parts is left right o = ap (lookup o s) is ∙ over_join o s xs ys ∙ ap (λ (a : Answer). lookup a s xs) (right o) ∙ left o

left_only : (s : Step) (V : AsnType) (xs ys parts : List Part) → parts ≡ xs ++ ys → Only s V xs → Free s ys → Only s V parts
left_only s V xs ys parts is left right X c f =
    left X c (sym (ap (lookup no_such_step s) is ∙ over_join no_such_step s xs ys ∙ ap (λ (a : Answer). lookup a s xs) (right no_such_step)) ∙ f)

right_only : (s : Step) (V : AsnType) (xs ys parts : List Part) → parts ≡ xs ++ ys → Free s xs → Only s V ys → Only s V parts
right_only s V xs ys parts is left right X c f =
    right X c (sym (ap (lookup no_such_step s) is ∙ over_join no_such_step s xs ys ∙ left (lookup no_such_step s ys)) ∙ f)

apart : (i j : ℕ) → j < i → eqb i j ≡ false
apart i j less = grind (arith, nat_tests)

apart_up : (i j : ℕ) → i < j → eqb i j ≡ false
apart_up i j less = grind (arith, nat_tests)

itself : (i : ℕ) → eqb i i ≡ true
itself i = grind (arith, nat_tests)

-- ---- components

field_free : (fs : Fields) (k : ℕ) (s : Step) (bits : List Bool) (parts : List Part) (b : List ℕ) → ((i : ℕ) → k ≤ i → same_step (to_component i) s ≡ false)
    → SplitsFields fs k bits parts b → Free s parts
field_free no_fields k s bits parts b differs (is, e) = free_of_none s parts is
field_free (field name need T fs) k s bits parts b differs r =
    let (x, q, m) = by_need need (to_component k) (Some T) (Holds T) (SplitsFields fs (suc k)) bits parts b r in
    bit_free x (to_component k) s (Some T) (Holds T) (SplitsFields fs (suc k) q) parts b (differs k (omega arith))
    (λ ps d n. field_free fs (suc k) s q ps d (λ i le. differs i (omega (arith, le))) n) m

field_only : (fs : Fields) (k i j : ℕ) (bits : List Bool) (parts : List Part) (b : List ℕ) (name : List ℕ) (V : AsnType) → j ≡ k + i → component_at fs i ≡ Some (name, V)
    → SplitsFields fs k bits parts b → Only (to_component j) V parts
field_only no_fields k i j bits parts b name V is there r = absurd (cc)
field_only (field n need T fs) k zero j bits parts b name V is there r =
    let (x, q, m) = by_need need (to_component k) (Some T) (Holds T) (SplitsFields fs (suc k)) bits parts b r in
    let first : Only (to_component k) T parts = bit_first x (to_component k) T (Holds T) (SplitsFields fs (suc k) q) parts b (itself k)
    (λ ps d m. field_free fs (suc k) (to_component k) q ps d (λ i le. apart i k (omega (arith, le))) m) m in
    let here : k ≡ j = omega (arith, is) in
    subst (λ (o : ℕ). Only (to_component o) V parts) here (subst (λ (U : AsnType). Only (to_component k) U parts) (both_named n name T V there).1 first)
field_only (field n need T fs) k (suc i) j bits parts b name V is there r =
    let (x, q, m) = by_need need (to_component k) (Some T) (Holds T) (SplitsFields fs (suc k)) bits parts b r in
    bit_only x (to_component k) (to_component j) V (Some T) (Holds T) (SplitsFields fs (suc k) q) parts b (apart_up k j (omega (arith, is)))
    (λ ps d m. field_only fs (suc k) i j q ps d name V (omega (arith, is)) there m) m

-- ---- additions

addition_free : (more : Additions) (k : ℕ) (s : Step) (bits : List Bool) (parts : List Part) (b : List ℕ) → ((i : ℕ) → k ≤ i → same_step (to_addition i) s ≡ false)
    → SplitsAdditions more k bits parts b → Free s parts
addition_free no_additions k s bits parts b differs (is, e) = free_of_none s parts is
addition_free (addition name T more) k s bits parts b differs r =
    bit_free (first_bit bits) (to_addition k) s (Some T) (IsCounted (Holds T)) (SplitsAdditions more (suc k) (later_bits bits)) parts b (differs k (omega arith))
    (λ ps d n. addition_free more (suc k) s (later_bits bits) ps d (λ i le. differs i (omega (arith, le))) n) r

addition_only : (more : Additions) (k i j : ℕ) (bits : List Bool) (parts : List Part) (b : List ℕ) (name : List ℕ) (V : AsnType) → j ≡ k + i → addition_at more i ≡ Some (name, V)
    → SplitsAdditions more k bits parts b → Only (to_addition j) V parts
addition_only no_additions k i j bits parts b name V is there r = absurd (cc)
addition_only (addition n T more) k zero j bits parts b name V is there r =
    let q = later_bits bits in
    let first : Only (to_addition k) T parts = bit_first (first_bit bits) (to_addition k) T (IsCounted (Holds T)) (SplitsAdditions more (suc k) q) parts b (itself k)
    (λ ps d m. addition_free more (suc k) (to_addition k) q ps d (λ i le. apart i k (omega (arith, le))) m) r in
    let here : k ≡ j = omega (arith, is) in
    subst (λ (o : ℕ). Only (to_addition o) V parts) here (subst (λ (U : AsnType). Only (to_addition k) U parts) (both_named n name T V there).1 first)
addition_only (addition n T more) k (suc i) j bits parts b name V is there r =
    bit_only (first_bit bits) (to_addition k) (to_addition j) V (Some T) (IsCounted (Holds T)) (SplitsAdditions more (suc k) (later_bits bits)) parts b (apart_up k j (omega (arith, is)))
    (λ ps d m. addition_only more (suc k) i j (later_bits bits) ps d name V (omega (arith, is)) there m) r

unknown_free : (bits : List Bool) (k : ℕ) (s : Step) (parts : List Part) (b : List ℕ) → ((i : ℕ) → k ≤ i → same_step (to_addition i) s ≡ false)
    → SplitsUnknown k bits parts b → Free s parts
unknown_free [] k s parts b differs (is, e) = free_of_none s parts is
unknown_free (true ∷ bits) k s parts b differs r =
    bit_free true (to_addition k) s None (IsCounted IsItself) (SplitsUnknown (suc k) bits) parts b (differs k (omega arith))
    (λ ps d n. unknown_free bits (suc k) s ps d (λ i le. differs i (omega (arith, le))) n) r
unknown_free (false ∷ bits) k s parts b differs r = unknown_free bits (suc k) s parts b (λ i le. differs i (omega (arith, le))) r

counted : (more : Additions) (i : ℕ) (name : List ℕ) (V : AsnType) → addition_at more i ≡ Some (name, V) → i < addition_count more
counted no_additions i name V there = absurd (cc)
counted (addition n T more) zero name V there = omega arith
counted (addition n T more) (suc i) name V there = let less = counted more i name V there in omega (arith, less)

extension_free : (x : Bool) (more : Additions) (i : ℕ) (parts : List Part) (b : List ℕ) → SplitsExtension x more parts b → Free (to_component i) parts
extension_free false more i parts b (is, e) = free_of_none (to_component i) parts is
extension_free true more i parts b (bits, m, p, q, a, u, is, e, spelt, known, unknown) =
    free_join (to_component i) p q parts is (addition_free more 0 (to_component i) bits p a (λ j le. refl) known)
    (unknown_free (drop (addition_count more) bits) (addition_count more) (to_component i) q u (λ j le. refl) unknown)

extension_only : (x : Bool) (more : Additions) (i : ℕ) (parts : List Part) (b : List ℕ) (name : List ℕ) (V : AsnType) → addition_at more i ≡ Some (name, V)
    → SplitsExtension x more parts b → Only (to_addition i) V parts
extension_only false more i parts b name V there (is, e) = only_of_free (to_addition i) V parts (free_of_none (to_addition i) parts is)
extension_only true more i parts b name V there (bits, m, p, q, a, u, is, e, spelt, known, unknown) =
    let less = counted more i name V there in
    left_only (to_addition i) V p q parts is (addition_only more 0 i i bits p a name V (omega arith) there known)
    (unknown_free (drop (addition_count more) bits) (addition_count more) (to_addition i) q u (λ j le. apart j i (omega (arith, le, less))) unknown)

-- ---- elements

first_or : (t : Bool) (T : AsnType) (c : List ℕ) (a : Answer) (X : Option AsnType) (d : List ℕ) → choose t (Some T) c a ≡ found X d → (a ≡ found X d → X ≡ Some T) → X ≡ Some T
first_or true T c a X d f more = sym (same_found (Some T) X c d f).0
first_or false T c a X d f more = more f

item_only : (T : AsnType) (n k : ℕ) (s : Step) (parts : List Part) (b : List ℕ) → SplitsItems T k n parts b → Only s T parts
item_only T zero k s parts b (is, e) X d f = only_of_free s T parts (free_of_none s parts is) X d f
item_only T (suc n) k s parts b (c, rest, b1, b2, is, e, held, r) X d f =
    first_or (same_step (to_item k) s) T c (lookup no_such_step s rest) X d (sym (ap (lookup no_such_step s) is) ∙ f) (λ g. item_only T n (suc k) s rest b2 r X d g)

-- ---- alternatives

alone_only : (T : AsnType) (S : List ℕ → List ℕ → Type 0) (parts : List Part) (b : List ℕ) → IsAlone (Some T) S parts b → Only to_chosen T parts
alone_only T S parts b (c, is, held) X d f = sym (same_found (Some T) X c d (sym (ap (lookup no_such_step to_chosen) is) ∙ f)).0

among : (more : Alternatives) (name : List ℕ) (t : Tag) (W : AsnType) → HasAlternative more name t W → AnyOf (λ (y : Tag). t ≡ y) (alternative_tags more)
among no_alternatives name t W h = h
among (alternative n u T more) name t W (inl same) = inl (sym same.1)
among (alternative n u T more) name t W (inr h) = inr (among more name t W h)
among (later n u T more) name t W (inl same) = inl (sym same.1)
among (later n u T more) name t W (inr h) = inr (among more name t W h)

among_same : (u t : Tag) (xs : List Tag) → u ≡ t → AnyOf (λ (y : Tag). t ≡ y) xs → AnyOf (λ (y : Tag). u ≡ y) xs
among_same u t xs same h = subst (λ (v : Tag). AnyOf (λ (y : Tag). v ≡ y) xs) (sym same) h

-- the first alternative with the tag
tag_first : (x : Bool) (u t : Tag) (T W : AsnType) (S : List ℕ → List ℕ → Type 0) (R : List Part → List ℕ → Type 0) (parts : List Part) (b : List ℕ) → same_tag u t ≡ x → u ≡ t → T ≡ W
    → AloneByTag x (IsAlone (Some T) S) R parts b → Only to_chosen W parts
tag_first true u t T W S R parts b same is type r = subst (λ (V : AsnType). Only to_chosen V parts) type (alone_only T S parts b r)
tag_first false u t T W S R parts b same is type r =
    known_not (same_tag u t) (ap (same_tag u) (sym is) ∙ same_tag-refl u) same

-- one behind it
tag_next : (x : Bool) (u t : Tag) (W : AsnType) (S R : List Part → List ℕ → Type 0) (parts : List Part) (b : List ℕ) → same_tag u t ≡ x → (u ≡ t → ⊥)
    → (R parts b → Only to_chosen W parts) → AloneByTag x S R parts b → Only to_chosen W parts
tag_next true u t W S R parts b same differs more r = absurd (differs (same_tag-true u t same))
tag_next false u t W S R parts b same differs more r = more r

alternative_only : (more : Alternatives) (name : List ℕ) (t : Tag) (W : AsnType) (parts : List Part) (b : List ℕ) → (Repeats (alternative_tags more) → ⊥) → HasAlternative more name t W
    → SplitsAlternative more t parts b → Only to_chosen W parts
alternative_only no_alternatives name t W parts b none h r = absurd h
alternative_only (alternative n u T more) name t W parts b none (inl same) r =
    tag_first (same_tag u t) u t T W (Holds T) (SplitsAlternative more t) parts b refl same.1 same.2 r
alternative_only (alternative n u T more) name t W parts b none (inr h) r =
    tag_next (same_tag u t) u t W (IsAlone (Some T) (Holds T)) (SplitsAlternative more t) parts b refl
    (λ is. none (inl (among_same u t (alternative_tags more) is (among more name t W h))))
    (λ q. alternative_only more name t W parts b (λ e. none (inr e)) h q) r
alternative_only (later n u T more) name t W parts b none (inl same) r =
    tag_first (same_tag u t) u t T W (IsCounted (Holds T)) (SplitsAlternative more t) parts b refl same.1 same.2 r
alternative_only (later n u T more) name t W parts b none (inr h) r =
    tag_next (same_tag u t) u t W (IsAlone (Some T) (IsCounted (Holds T))) (SplitsAlternative more t) parts b refl
    (λ is. none (inl (among_same u t (alternative_tags more) is (among more name t W h))))
    (λ q. alternative_only more name t W parts b (λ e. none (inr e)) h q) r

or_right : (x y : Bool) → y ≡ true → (x || y) ≡ true
or_right true y h = refl
or_right false y h = h

is_known : (more : Alternatives) (name : List ℕ) (t : Tag) (W : AsnType) → HasAlternative more name t W → has_tag t more ≡ true
is_known no_alternatives name t W h = absurd h
is_known (alternative n u T more) name t W (inl same) = ap (λ (x : Bool). x || has_tag t more) (ap (same_tag u) (sym same.1) ∙ same_tag-refl u)
is_known (alternative n u T more) name t W (inr h) = or_right (same_tag u t) (has_tag t more) (is_known more name t W h)
is_known (later n u T more) name t W (inl same) = ap (λ (x : Bool). x || has_tag t more) (ap (same_tag u) (sym same.1) ∙ same_tag-refl u)
is_known (later n u T more) name t W (inr h) = or_right (same_tag u t) (has_tag t more) (is_known more name t W h)

tag_of : (b : List ℕ) (t : Tag) (p c : List ℕ) → b ≡ p ++ c → IsTag t p → tag (at b (length b)) ≡ got t (at c (length c))
tag_of b t p c is spelt =
    let size : length b ≡ length p + length c = ap length is ∙ length-append p c in
    ap₂ (λ (l : List ℕ) (n : ℕ). tag (at l n)) is size ∙ tag_lawful.complete t p c (length c) spelt

same_got : (t u : Tag) (c d : List ℕ) → got t (at c (length c)) ≡ got u (at d (length d)) → t ≡ u
same_got t u c d e = cc

-- octets begin with one tag
one_tag : (b : List ℕ) (t u : Tag) (p c : List ℕ) → b ≡ p ++ c → IsTag u p → BeginsWith t b → t ≡ u
one_tag b t u p c is spelt (v, q, d, same, split, other) =
    same_tag-true t v same ∙ same_got v u d c (sym (tag_of b v q d split other) ∙ tag_of b u p c is spelt)

choice_only : (extensible : Bool) (more : Alternatives) (name : List ℕ) (t : Tag) (W : AsnType) (b : List ℕ) (X : Option AsnType) (c : List ℕ) → (Repeats (alternative_tags more) → ⊥)
    → HasAlternative more name t W → BeginsWith t b → LeadsTo (choice extensible more) b to_chosen X c → X ≡ Some W
choice_only extensible more name t W b X c none h first (parts, (u, p, rest, is, spelt, inl known), f) =
    let same : t ≡ u = one_tag b t u p rest is spelt first in
    alternative_only more name u W parts rest none (subst (λ (v : Tag). HasAlternative more name v W) same h) known X c f
choice_only extensible more name t W b X c none h first (parts, (u, p, rest, is, spelt, inr (unknown, alone)), f) =
    let same : t ≡ u = one_tag b t u p rest is spelt first in
    known_not (has_tag u more) (is_known more name u W (subst (λ (v : Tag). HasAlternative more name v W) same h)) unknown

-- ---- one name, and names one after another

one_typed : (T : AsnType) (name : List ℕ) (hop : Hop) (W : AsnType) (b : List ℕ) (X : Option AsnType) (c : List ℕ) → (HasRepeatedTag T → ⊥) → IsCalled T name hop W → Hops T b hop X c → X ≡ Some W
one_typed (sequence fs) name (kind.Part (step.Component i)) W b X c none h (parts, (bits, p, r, is, len, pre, fields), f) =
    field_only fs 0 i i bits parts r name W (omega arith) h fields X c f
one_typed (extensible_sequence fs more) name (kind.Part (step.Component i)) W b X c none h (parts, (x, bits, p, r, e, root, added, all, is, len, pre, fields, extension), f) =
    left_only (to_component i) W root added parts all (field_only fs 0 i i bits root r name W (omega arith) h fields) (extension_free x more i added e extension) X c f
one_typed (extensible_sequence fs more) name (kind.Part (step.Addition i)) W b X c none h (parts, (x, bits, p, r, e, root, added, all, is, len, pre, fields, extension), f) =
    right_only (to_addition i) W root added parts all (field_free fs 0 (to_addition i) bits root r (λ j le. refl) fields) (extension_only x more i added e name W h extension) X c f
one_typed (sequence_of size T) name (kind.Part (step.Item i)) W b X c none h (parts, (n, q, es, is, count, fits, items), f) =
    item_only T n 0 (to_item i) parts es items X c f ∙ ap (λ (V : AsnType). Some V) h.2
one_typed (choice extensible more) name (kind.Alternative t) W b X c none h (first, leads) = choice_only extensible more name t W b X c none h first leads
one_typed _ name hop W b X c none h l = absurd h

pub typed : (names : List (List ℕ)) (hops : List Hop) (T V : AsnType) (b : List ℕ) (U : Option AsnType) (s : List ℕ) → (Somewhere HasRepeatedTag T → ⊥) → Means T names hops V
    → Reaches (Some T) b hops U s → U ≡ Some V
typed [] [] T V b U s none same r = r.0 ∙ ap (λ (W : AsnType). Some W) same
typed [] (hop ∷ hops) T V b U s none m r = absurd m
typed (name ∷ names) [] T V b U s none m r = absurd m
typed (name ∷ names) (hop ∷ hops) T V b U s none (W, h, m) (X, c, l, r) =
    let is : X ≡ Some W = one_typed T name hop W b X c (λ q. none (at_top HasRepeatedTag T q)) h l in
    let onward : Reaches (Some W) c hops U s = subst (λ (Y : Option AsnType). Reaches Y c hops U s) is r in
    typed names hops W V c U s (λ q. none (inside HasRepeatedTag T name hop W h q)) m onward
