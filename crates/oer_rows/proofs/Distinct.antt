-- A step leads to one part at most.
use Rattle.std.proofs.Common.{◌≡◌, inl, inr, ℕ, zero, suc, ◌+◌, ◌<◌, ◌≤◌, Bool, true, false, eqb, List, [], ◌∷◌, ◌++◌, length, drop, Option, Some, None, if◌then◌else◌, arith, refl, sym, ap, ◌∙◌, subst}
use Rattle.std.proofs.lemmas.Bool.{ne_eqb}
use Rattle.oer_units.specs.Spelling.{IsCounted}
use Rattle.oer_units.specs.declared.tagging.Tag.{Tag}
use Rattle.oer_model.specs.AsnType.{Additions, Alternatives, AsnType, Fields, addition, alternative, choice, default, extensible_sequence, field, later, leaf, may, must, no_additions, no_alternatives, no_fields, sequence, sequence_of}
use Rattle.oer_model.specs.Bits.{first_bit, later_bits}
use Rattle.oer_model.specs.Constraints.{addition_count, same_tag}
use Rattle.oer_model.specs.Encoding.{IsItself}
use Rattle.oer_model.specs.Parts.{AloneByTag, Answer, Holds, IsAlone, IsSplit, Part, SplitsAdditions, SplitsAlternative, SplitsExtension, SplitsFields, SplitsItems, SplitsUnknown, Starts, StartsByBit, Step, field_count, found, lookup, part, same_step, to_addition, to_component, to_item}
use Rattle.oer_rows.proofs.LinePaths.{Every, every_both}

abbrev pub step_of : Part → Step
step_of (part step V c) = step

-- no part of these is led to by the step
abbrev pub Fresh : Step → List Part → Type 0
Fresh step parts = Every (λ p. same_step (step_of p) step ≡ false) parts

abbrev pub Distinct : List Part → Type 0
Distinct [] = Unit {0}
Distinct (p ∷ parts) = Fresh (step_of p) parts × Distinct parts

pub fresh_lookup : (o : Answer) (step : Step) (parts : List Part) → Fresh step parts → lookup o step parts ≡ o
fresh_lookup o step [] h = refl
fresh_lookup o step (part other V c ∷ parts) h = ap (λ (b : Bool). if b then found V c else lookup o step parts) h.0 ∙ fresh_lookup o step parts h.1

-- the parts have steps by f of rising numbers, from i on, below k
abbrev Rising : (ℕ → Step) → ℕ → ℕ → List Part → Type 0
Rising f i k [] = i ≤ k
Rising f i k (part step V c ∷ parts) = (j : ℕ) × (step ≡ f j) × (i ≤ j) × Rising f (suc j) k parts

abbrev Numbers : (ℕ → Step) → Type 0
Numbers f = (i j : ℕ) → same_step (f i) (f j) ≡ eqb i j

later_start : (f : ℕ → Step) (i j k : ℕ) (parts : List Part) → i ≤ j → Rising f j k parts → Rising f i k parts
later_start f i j k [] le h = omega arith
later_start f i j k (part step V c ∷ parts) le (l, is, at, h) = (l, is, omega arith, h)

rising_both : (f : ℕ → Step) (i j k : ℕ) (p q : List Part) → Rising f i j p → Rising f j k q → Rising f i k (p ++ q)
rising_both f i j k [] q le h = later_start f i j k q le h
rising_both f i j k (part step V c ∷ p) q (l, is, at, h) g = (l, is, at, rising_both f (suc l) j k p q h g)

rising_fresh : (f : ℕ → Step) → Numbers f → (i j k : ℕ) (parts : List Part) → j < i → Rising f i k parts → Fresh (f j) parts
rising_fresh f n i j k [] less h = tt
rising_fresh f n i j k (part step V c ∷ parts) less (l, is, at, h) =
    (ap (λ (s : Step). same_step s (f j)) is ∙ n l j ∙ ne_eqb l j (λ (e : l ≡ j). omega arith), rising_fresh f n (suc l) j k parts (omega arith) h)

rising_distinct : (f : ℕ → Step) → Numbers f → (i k : ℕ) (parts : List Part) → Rising f i k parts → Distinct parts
rising_distinct f n i k [] h = tt
rising_distinct f n i k (part step V c ∷ parts) (l, is, at, h) = (subst (λ (s : Step). Fresh s parts) (sym is) (rising_fresh f n (suc l) l k parts (omega arith) h), rising_distinct f n (suc l) k parts h)

-- those of components, and those of additions
never_both : (j i k : ℕ) (parts : List Part) → Rising to_addition i k parts → Fresh (to_component j) parts
never_both j i k [] h = tt
never_both j i k (part step V c ∷ parts) (l, is, at, h) = (ap (λ (s : Step). same_step s (to_component j)) is, never_both j (suc l) k parts h)

two_kinds : (i k l m : ℕ) (p q : List Part) → Rising to_component i k p → Rising to_addition l m q → Distinct (p ++ q)
two_kinds i k l m [] q h g = rising_distinct to_addition (λ x y. refl) l m q g
two_kinds i k l m (part step V c ∷ p) q (j, is, at, h) g = (
  every_both (λ x. same_step (step_of x) step ≡ false) p q
      (subst (λ (s : Step). Fresh s p) (sym is) (rising_fresh to_component (λ x y. refl) (suc j) j k p (omega arith) h))
      (subst (λ (s : Step). Fresh s q) (sym is) (never_both j l m q g)),
  two_kinds (suc j) k l m p q h g,
)

-- ---- the splits

rising_first : (f : ℕ → Step) (i k : ℕ) (V : Option AsnType) (S : List ℕ → List ℕ → Type 0) (R : List Part → List ℕ → Type 0) → ((parts : List Part) (b : List ℕ) → R parts b → Rising f (suc i) k parts)
    → (parts : List Part) (b : List ℕ) → Starts (f i) V S R parts b → Rising f i k parts
rising_first f i k V S R h parts b (c, rest, b1, b2, is, e, s, r) = subst (Rising f i k) (sym is) (i, refl, omega arith, h rest b2 r)

rising_bit : (x : Bool) (f : ℕ → Step) (i k : ℕ) (V : Option AsnType) (S : List ℕ → List ℕ → Type 0) (R : List Part → List ℕ → Type 0) → ((parts : List Part) (b : List ℕ) → R parts b → Rising f (suc i) k parts)
    → (parts : List Part) (b : List ℕ) → StartsByBit x (f i) V S R parts b → Rising f i k parts
rising_bit true f i k V S R h parts b s = rising_first f i k V S R h parts b s
rising_bit false f i k V S R h parts b s = later_start f i (suc i) k parts (omega arith) (h parts b s)

fields_rising : (fs : Fields) (i k : ℕ) → i + field_count fs ≤ k → (s : List Bool) (parts : List Part) (b : List ℕ) → SplitsFields fs i s parts b → Rising to_component i k parts
fields_rising no_fields i k le s parts b (is, e) = subst (Rising to_component i k) (sym is) (omega arith)
fields_rising (field name must T fs) i k le s parts b x = rising_first to_component i k (Some T) (Holds T) (SplitsFields fs (suc i) s) (fields_rising fs (suc i) k (omega arith) s) parts b x
fields_rising (field name may T fs) i k le s parts b x = rising_bit (first_bit s) to_component i k (Some T) (Holds T) (SplitsFields fs (suc i) (later_bits s)) (fields_rising fs (suc i) k (omega arith) (later_bits s)) parts b x
fields_rising (field name (default d) T fs) i k le s parts b x = rising_bit (first_bit s) to_component i k (Some T) (Holds T) (SplitsFields fs (suc i) (later_bits s)) (fields_rising fs (suc i) k (omega arith) (later_bits s)) parts b x

additions_rising : (more : Additions) (i k : ℕ) → i + addition_count more ≤ k → (s : List Bool) (parts : List Part) (b : List ℕ) → SplitsAdditions more i s parts b → Rising to_addition i k parts
additions_rising no_additions i k le s parts b (is, e) = subst (Rising to_addition i k) (sym is) (omega arith)
additions_rising (addition name T more) i k le s parts b x = rising_bit (first_bit s) to_addition i k (Some T) (IsCounted (Holds T)) (SplitsAdditions more (suc i) (later_bits s)) (additions_rising more (suc i) k (omega arith) (later_bits s)) parts b x

unknown_rising : (s : List Bool) (i k : ℕ) → i + length s ≤ k → (parts : List Part) (b : List ℕ) → SplitsUnknown i s parts b → Rising to_addition i k parts
unknown_rising [] i k le parts b (is, e) = subst (Rising to_addition i k) (sym is) (omega arith)
unknown_rising (true ∷ s) i k le parts b x = rising_first to_addition i k None (IsCounted IsItself) (SplitsUnknown (suc i) s) (unknown_rising s (suc i) k (omega arith)) parts b x
unknown_rising (false ∷ s) i k le parts b x = later_start to_addition i (suc i) k parts (omega arith) (unknown_rising s (suc i) k (omega arith) parts b x)

extension_rising : (x : Bool) (more : Additions) (parts : List Part) (e : List ℕ) → SplitsExtension x more parts e → (k : ℕ) × Rising to_addition 0 k parts
extension_rising false more parts e (is, none) = (0, subst (Rising to_addition 0 0) (sym is) (omega arith))
extension_rising true more parts e (s, m, p, q, a, u, is, f, map, x, y) =
    let n : ℕ = addition_count more in
    let k : ℕ = n + length (drop n s) in
    (k, subst (Rising to_addition 0 k) (sym is) (rising_both to_addition 0 n k p q (additions_rising more 0 n (omega arith) s p a x) (unknown_rising (drop n s) n k (omega arith) q u y)))

items_rising : (T : AsnType) (n i k : ℕ) → i + n ≤ k → (parts : List Part) (b : List ℕ) → SplitsItems T i n parts b → Rising to_item i k parts
items_rising T zero i k le parts b (is, e) = subst (Rising to_item i k) (sym is) (omega arith)
items_rising T (suc n) i k le parts b x = rising_first to_item i k (Some T) (Holds T) (SplitsItems T (suc i) n) (items_rising T n (suc i) k (omega arith)) parts b x

alone_distinct : (V : Option AsnType) (S : List ℕ → List ℕ → Type 0) (parts : List Part) (b : List ℕ) → IsAlone V S parts b → Distinct parts
alone_distinct V S parts b (c, is, s) = subst Distinct (sym is) (tt, tt)

tag_distinct : (same : Bool) (S R : List Part → List ℕ → Type 0) (parts : List Part) (b : List ℕ) → (S parts b → Distinct parts) → (R parts b → Distinct parts) → AloneByTag same S R parts b → Distinct parts
tag_distinct true S R parts b f g x = f x
tag_distinct false S R parts b f g x = g x

alternative_distinct : (more : Alternatives) (t : Tag) (parts : List Part) (b : List ℕ) → SplitsAlternative more t parts b → Distinct parts
alternative_distinct no_alternatives t parts b x = absurd x
alternative_distinct (alternative name u T more) t parts b x = tag_distinct (same_tag u t) (IsAlone (Some T) (Holds T)) (SplitsAlternative more t) parts b (alone_distinct (Some T) (Holds T) parts b) (alternative_distinct more t parts b) x
alternative_distinct (later name u T more) t parts b x = tag_distinct (same_tag u t) (IsAlone (Some T) (IsCounted (Holds T))) (SplitsAlternative more t) parts b (alone_distinct (Some T) (IsCounted (Holds T)) parts b) (alternative_distinct more t parts b) x

leaf_distinct : (parts : List Part) → parts ≡ [] → Distinct parts
leaf_distinct parts e = subst Distinct (sym e) tt

pub split_distinct : (T : AsnType) (parts : List Part) (b : List ℕ) → IsSplit T parts b → Distinct parts
split_distinct (sequence fs) parts b (s, p, r, e, n, pre, x) = rising_distinct to_component (λ i j. refl) 0 (0 + field_count fs) parts (fields_rising fs 0 (0 + field_count fs) (omega arith) s parts r x)
split_distinct (extensible_sequence fs more) parts b (x, s, p, r, a, root, added, is, e, n, pre, f, g) =
    let h = extension_rising x more added a g in
    subst Distinct (sym is) (two_kinds 0 (0 + field_count fs) 0 h.0 root added (fields_rising fs 0 (0 + field_count fs) (omega arith) s root r f) h.1)
split_distinct (sequence_of size T) parts b (n, q, es, e, counted, fits, x) = rising_distinct to_item (λ i j. refl) 0 (0 + n) parts (items_rising T n 0 (0 + n) (omega arith) parts es x)
split_distinct (choice extensible more) parts b (t, p, c, e, tagged, inl x) = alternative_distinct more t parts c x
split_distinct (choice extensible more) parts b (t, p, c, e, tagged, inr x) = alone_distinct None (IsCounted IsItself) parts c x.1
split_distinct (leaf kind) parts b e = leaf_distinct parts e
