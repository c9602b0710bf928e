-- The parts of an encoding are read.
use Rattle.std.proofs.Common.{◌≡◌, ◌⊎◌, inl, inr, ⊎_elim, ◌||◌, ltb, ◌^◌, ℕ, zero, suc, ◌+◌, ◌≤◌, List, [], ◌∷◌, ◌++◌, length, drop, Bool, true, false, Option, Some, None, refl, ap, ap₂, sym, ◌∙◌, append-nil, arith}
use Rattle.oer_units.specs.Lawful.{Excludes, Lawful}
use Rattle.oer_units.specs.Numbers.{unsigned}
use Rattle.oer_units.specs.Reader.{Outcome, Place, Reader, at, bind, choose, give, got, refused}
use Rattle.oer_units.specs.Reading.{counted_octets, open_type, tag}
use Rattle.oer_units.specs.Spelling.{IsCounted, IsTag}
use Rattle.oer_units.specs.declared.fault.Why.{Why}
use Rattle.oer_units.specs.declared.fault.Why.TheVariants.{End, UnknownAlternative}
use Rattle.oer_units.specs.declared.tagging.Tag.{Tag}
use Rattle.oer_units.proofs.Closure.{bind_lawful, give_lawful, got_place, got_value, refuse_lawful, same_refusal, same_spellings}
use Rattle.oer_units.proofs.Counted.{counted_octets_lawful}
use Rattle.oer_units.proofs.TagReaders.{tag_lawful}
use Rattle.oer_units.proofs.Units.{choose_lawful, mapped_lawful}
use Rattle.oer_model.proofs.checking.Checked.{Checked, between, between_is, flag}
use Rattle.oer_model.proofs.checking.CheckedParts.{value_checked}
use Rattle.oer_model.proofs.reading.Main.{open_is_lawful, value_lawful}
use Rattle.oer_model.proofs.reading.Parts.{bitmap_lawful, preamble_lawful, quantity_lawful, size_small}
use Rattle.oer_model.specs.AsnType.{Additions, Alternatives, AsnType, Fields, Need, addition, alternative, choice, default, extensible_sequence, field, later, leaf, may, must, no_additions, no_alternatives, no_fields, sequence, sequence_of}
use Rattle.oer_model.specs.Bits.{IsPreamble, first_bit, later_bits}
use Rattle.oer_model.specs.Checking.{check_value}
use Rattle.oer_model.specs.Constraints.{KeepsLimits, FieldsKeepLimits, AdditionsKeepLimits, AlternativesKeepLimits, addition_count, has_tag, optional, same_tag}
use Rattle.oer_model.specs.Encoding.{IsItself, IsSpelling, SpellsBitmap}
use Rattle.oer_model.specs.Fits.{DefaultsFit, FieldDefaultsFit, AdditionDefaultsFit, AlternativeDefaultsFit}
use Rattle.oer_model.specs.Parts.{AloneByTag, Holds, IsAlone, IsSplit, Part, SplitsAdditions, SplitsAlternative, SplitsExtension, SplitsFields, SplitsItems, SplitsUnknown, Starts, StartsByBit, StartsByNeed, Step, addition_parts, alone_by_tag, alternative_parts, extension_parts, field_parts, first_by_bit, first_by_need, item_parts, join_parts, octets_of, part, parts_in, read_alone, read_first, read_parts, taken_from, to_addition, to_chosen, to_component, to_item, unknown_parts}
use Rattle.oer_model.specs.Reading.{bitmap, preamble, quantity, read_value}

-- the octets that a checker takes are those that its reader takes
module _ {A D : Type 0} (g : A → Bool → D) (r : Reader A) (c : Reader D) (S S' : A → List ℕ → Type 0) (l : Lawful r S) (k : Checked g r c S') where
  abbrev Taken : List ℕ → List ℕ → Type 0
  Taken x b = (x ≡ b) × ((v : A) × S v b)

  taken_sound : (p : Place) (x : List ℕ) (q : Place) (o : Outcome A) → r p ≡ o → taken_from p (c p) ≡ got x q → (b : List ℕ) × Taken x b × (p.input ≡ b ++ q.input) × (p.left ≡ length b + q.left)
  unfolding between
  taken_sound p x q (refused why rest) e f = let same : taken_from p (c p) ≡ refused why rest = ap (taken_from p) (k.refuses p why rest e) in absurd (cc)
  taken_sound p x q (got v s) e f =
      let t = k.tells p v s e in
      let same : got (between p s) s ≡ got x q = sym (ap (taken_from p) t.1) ∙ f in
      let place : s ≡ q = got_place (between p s) x s q same in
      let word : between p s ≡ x = got_value (between p s) x s q same in
      let a = l.sound p v s e in
      let split : p.input ≡ a.0 ++ q.input = a.2 ∙ ap (λ (s : Place). a.0 ++ s.input) place in
      (a.0, (sym word ∙ between_is p s a.0 a.2, (v, a.1)), split, a.3 ∙ ap (λ (s : Place). length a.0 + s.left) place)

  taken_refusal : (p : Place) (why : Why) (rest : List ℕ) (o : Outcome A) → r p ≡ o → taken_from p (c p) ≡ refused why rest → (t : List ℕ) × (p.input ≡ t ++ rest) × (length t ≤ p.left) × Excludes Taken why p.left t × (why ≡ End → rest ≡ [])
  unfolding between
  taken_refusal p why rest (got v s) e f = let same : taken_from p (c p) ≡ got (between p s) s = ap (taken_from p) (k.tells p v s e).1 in absurd (cc)
  taken_refusal p why rest (refused w r1) e f =
      let same : refused w r1 ≡ refused why rest = sym (ap (taken_from p) (k.refuses p w r1 e)) ∙ f in
      let a = l.refusal p why rest (e ∙ same_refusal w why r1 rest same) in
      (a.0, a.1, a.2, (λ x b u v s f spoken. a.3 s.1.0 b u v s.1.1 f spoken), a.4)

  pub taken_lawful : Lawful (octets_of c) Taken
  unfolding octets_of between
  taken_lawful = record {
    sound = λ p x q e. taken_sound p x q (r p) refl e;
    complete = λ x b rest m (is, (v, s)). (
        let p : Place = at (b ++ rest) (length b + m) in
        let t = k.tells p v (at rest m) (l.complete v b rest m s) in
        ap (taken_from p) t.1 ∙ ap (λ w. got w (at rest m)) (between_is p (at rest m) b refl ∙ sym is));
    refusal = λ p why rest e. taken_refusal p why rest (r p) refl e;
  }

first_lawful : (step : Step) (V : Option AsnType) (r : Reader (List ℕ)) (S : List ℕ → List ℕ → Type 0) → Lawful r S → (q : Reader (List Part)) (Rest : List Part → List ℕ → Type 0) → Lawful q Rest → Lawful (read_first step V r q) (Starts step V S Rest)
unfolding read_first
first_lawful step V r S l q Rest m = same_spellings
    (bind_lawful r (λ c. bind q (λ parts. give (part step V c ∷ parts))) S (λ c parts b. (rest : List Part) × (parts ≡ part step V c ∷ rest) × Rest rest b) l (λ c. mapped_lawful (λ parts. part step V c ∷ parts) q Rest m))
    (λ parts b (c, b1, b2, s, (rest, is, t), e). (c, rest, b1, b2, is, e, s, t))
    (λ parts b (c, rest, b1, b2, is, e, s, t). (c, b1, b2, s, (rest, is, t), e))

bit_lawful : (x : Bool) (step : Step) (V : Option AsnType) (r : Reader (List ℕ)) (S : List ℕ → List ℕ → Type 0) → Lawful r S → (q : Reader (List Part)) (Rest : List Part → List ℕ → Type 0) → Lawful q Rest → Lawful (first_by_bit x step V r q) (StartsByBit x step V S Rest)
bit_lawful true step V r S l q Rest m = first_lawful step V r S l q Rest m
bit_lawful false step V r S l q Rest m = m

need_lawful : (need : Need) (step : Step) (V : Option AsnType) (r : Reader (List ℕ)) (S : List ℕ → List ℕ → Type 0) → Lawful r S → (q : List Bool → Reader (List Part)) (Rest : List Bool → List Part → List ℕ → Type 0) → ((s : List Bool) → Lawful (q s) (Rest s))
    → (s : List Bool) → Lawful (first_by_need need step V r q s) (StartsByNeed need step V S Rest s)
need_lawful must step V r S l q Rest m s = first_lawful step V r S l (q s) (Rest s) (m s)
need_lawful may step V r S l q Rest m s = bit_lawful (first_bit s) step V r S l (q (later_bits s)) (Rest (later_bits s)) (m (later_bits s))
need_lawful (default d) step V r S l q Rest m s = bit_lawful (first_bit s) step V r S l (q (later_bits s)) (Rest (later_bits s)) (m (later_bits s))

holds_lawful : (T : AsnType) → KeepsLimits T → DefaultsFit T → Lawful (octets_of (check_value T)) (Holds T)
holds_lawful T wf d = taken_lawful flag (read_value T) (check_value T) (IsSpelling T) _ (value_lawful T wf) (value_checked T wf d)

opened_lawful : (T : AsnType) → KeepsLimits T → DefaultsFit T → Lawful (open_type (octets_of (check_value T))) (IsCounted (Holds T))
opened_lawful T wf d = open_is_lawful (octets_of (check_value T)) (Holds T) (holds_lawful T wf d)

fields_split : (fs : Fields) → FieldsKeepLimits fs → FieldDefaultsFit fs → (i : ℕ) (s : List Bool) → Lawful (field_parts fs i s) (SplitsFields fs i s)
fields_split no_fields wf d i s = give_lawful []
fields_split (field name need T fs) wf d i s = need_lawful need (to_component i) (Some T) (octets_of (check_value T)) (Holds T) (holds_lawful T wf.0 d.0) (field_parts fs (suc i)) (SplitsFields fs (suc i)) (fields_split fs wf.1 d.2 (suc i)) s

additions_split : (more : Additions) → AdditionsKeepLimits more → AdditionDefaultsFit more → (i : ℕ) (s : List Bool) → Lawful (addition_parts more i s) (SplitsAdditions more i s)
additions_split no_additions wf d i s = give_lawful []
additions_split (addition name T more) wf d i s = bit_lawful (first_bit s) (to_addition i) (Some T) (open_type (octets_of (check_value T))) (IsCounted (Holds T)) (opened_lawful T wf.0 d.0) (addition_parts more (suc i) (later_bits s)) (SplitsAdditions more (suc i) (later_bits s)) (additions_split more wf.1 d.1 (suc i) (later_bits s))

unknown_split : (i : ℕ) (s : List Bool) → Lawful (unknown_parts i s) (SplitsUnknown i s)
unknown_split i [] = give_lawful []
unknown_split i (true ∷ s) = first_lawful (to_addition i) None counted_octets (IsCounted IsItself) counted_octets_lawful (unknown_parts (suc i) s) (SplitsUnknown (suc i) s) (unknown_split (suc i) s)
unknown_split i (false ∷ s) = unknown_split (suc i) s

-- parts of r, and then those of q
Joined : (List Part → List ℕ → Type 0) → (List Part → List ℕ → Type 0) → List Part → List ℕ → Type 0
Joined S R parts b = (p : List Part) × (q : List Part) × (b1 : List ℕ) × (b2 : List ℕ) × (parts ≡ p ++ q) × (b ≡ b1 ++ b2) × S p b1 × R q b2

join_lawful : (r q : Reader (List Part)) (S R : List Part → List ℕ → Type 0) → Lawful r S → Lawful q R → Lawful (join_parts r q) (Joined S R)
unfolding join_parts Joined
join_lawful r q S R l m = same_spellings
    (bind_lawful r (λ p. bind q (λ parts. give (p ++ parts))) S (λ p parts b. (rest : List Part) × (parts ≡ p ++ rest) × R rest b) l (λ p. mapped_lawful (λ parts. p ++ parts) q R m))
    (λ parts b (p, b1, b2, s, (rest, is, t), e). (p, rest, b1, b2, is, e, s, t))
    (λ parts b (p, rest, b1, b2, is, e, s, t). (p, b1, b2, s, (rest, is, t), e))

extension_split : (x : Bool) (more : Additions) → AdditionsKeepLimits more → AdditionDefaultsFit more → Lawful (extension_parts x more) (SplitsExtension x more)
unfolding Joined
extension_split false more wf d = give_lawful []
extension_split true more wf d = same_spellings
    (bind_lawful bitmap (λ s. join_parts (addition_parts more 0 s) (unknown_parts (addition_count more) (drop (addition_count more) s))) SpellsBitmap (λ s. Joined (SplitsAdditions more 0 s) (SplitsUnknown (addition_count more) (drop (addition_count more) s))) bitmap_lawful
    (λ s. join_lawful (addition_parts more 0 s) (unknown_parts (addition_count more) (drop (addition_count more) s)) (SplitsAdditions more 0 s) (SplitsUnknown (addition_count more) (drop (addition_count more) s)) (additions_split more wf d 0 s) (unknown_split (addition_count more) (drop (addition_count more) s))))
    (λ parts e (s, m, rest, k, (p, q, a, u, is, f, x, y), g). (s, m, p, q, a, u, is, g ∙ ap (λ w. m ++ w) f, k, x, y))
    (λ parts e (s, m, p, q, a, u, is, g, k, x, y). (s, m, a ++ u, k, (p, q, a, u, is, refl, x, y), g))

items_split : (T : AsnType) → KeepsLimits T → DefaultsFit T → (n i : ℕ) → Lawful (item_parts T i n) (SplitsItems T i n)
items_split T wf d zero i = give_lawful []
items_split T wf d (suc n) i = first_lawful (to_item i) (Some T) (octets_of (check_value T)) (Holds T) (holds_lawful T wf d) (item_parts T (suc i) n) (SplitsItems T (suc i) n) (items_split T wf d n (suc i))

alone_lawful : (V : Option AsnType) (r : Reader (List ℕ)) (S : List ℕ → List ℕ → Type 0) → Lawful r S → Lawful (read_alone V r) (IsAlone V S)
unfolding read_alone
alone_lawful V r S l = mapped_lawful (λ c. part to_chosen V c ∷ []) r S l

tag_split : (same : Bool) (r q : Reader (List Part)) (S R : List Part → List ℕ → Type 0) → Lawful r S → Lawful q R → Lawful (alone_by_tag same r q) (AloneByTag same S R)
tag_split true r q S R l m = l
tag_split false r q S R l m = m

alternatives_split : (more : Alternatives) → AlternativesKeepLimits more → AlternativeDefaultsFit more → (t : Tag) → Lawful (alternative_parts more t) (SplitsAlternative more t)
alternatives_split no_alternatives wf d t = refuse_lawful UnknownAlternative (λ parts b. ⊥) goes_on (λ parts b s. s)
  where
    goes_on : UnknownAlternative ≡ End → ⊥
    goes_on e = cc
alternatives_split (alternative name u T more) wf d t = tag_split (same_tag u t) (read_alone (Some T) (octets_of (check_value T))) (alternative_parts more t) (IsAlone (Some T) (Holds T)) (SplitsAlternative more t) (alone_lawful (Some T) (octets_of (check_value T)) (Holds T) (holds_lawful T wf.0 d.0)) (alternatives_split more wf.1 d.1 t)
alternatives_split (later name u T more) wf d t = tag_split (same_tag u t) (read_alone (Some T) (open_type (octets_of (check_value T)))) (alternative_parts more t) (IsAlone (Some T) (IsCounted (Holds T))) (SplitsAlternative more t) (alone_lawful (Some T) (open_type (octets_of (check_value T))) (IsCounted (Holds T)) (opened_lawful T wf.0 d.0)) (alternatives_split more wf.1 d.1 t)

tag_is : (same other : Bool) (S R : List Part → List ℕ → Type 0) (parts : List Part) (b : List ℕ) → (R parts b → other ≡ true) → AloneByTag same S R parts b → (same || other) ≡ true
tag_is true other S R parts b f s = refl
tag_is false other S R parts b f s = f s

-- what is split at a tag is that of an alternative with the tag
pub split_known : (more : Alternatives) (t : Tag) (parts : List Part) (b : List ℕ) → SplitsAlternative more t parts b → has_tag t more ≡ true
split_known no_alternatives t parts b s = absurd s
split_known (alternative name u T more) t parts b s = tag_is (same_tag u t) (has_tag t more) (IsAlone (Some T) (Holds T)) (SplitsAlternative more t) parts b (split_known more t parts b) s
split_known (later name u T more) t parts b s = tag_is (same_tag u t) (has_tag t more) (IsAlone (Some T) (IsCounted (Holds T))) (SplitsAlternative more t) parts b (split_known more t parts b) s

Chosen : Alternatives → Tag → List Part → List ℕ → Type 0
Chosen more t parts c = SplitsAlternative more t parts c ⊎ ((has_tag t more ≡ false) × IsAlone None (IsCounted IsItself) parts c)

chosen_split : (more : Alternatives) → AlternativesKeepLimits more → AlternativeDefaultsFit more → (t : Tag) → Lawful (choose (has_tag t more) (alternative_parts more t) (read_alone None counted_octets)) (Chosen more t)
unfolding Chosen
chosen_split more wf d t = choose_lawful (has_tag t more) (alternative_parts more t) (read_alone None counted_octets) (Chosen more t)
    (λ here. same_spellings (alternatives_split more wf d t) (λ parts c s. inl s) (λ parts c s. ⊎_elim (λ s. s) (λ s. (let none = s.0 in absurd (cc))) s))
    (λ none. same_spellings (alone_lawful None counted_octets (IsCounted IsItself) counted_octets_lawful) (λ parts c s. inr (none, s)) (λ parts c s. ⊎_elim (λ s. (let here = split_known more t parts c s in absurd (cc))) (λ s. s.1) s))

-- what is read of the whole list b
whole_read : (r : Reader (List Part)) (S : List Part → List ℕ → Type 0) → Lawful r S → (parts : List Part) (b : List ℕ) → S parts b → parts_in (r (at b (length b))) ≡ parts
whole_read r S l parts b s = ap parts_in (ap₂ (λ c k. r (at c k)) (sym (append-nil b)) (let e : length b ≡ length b + 0 = omega arith in e) ∙ l.complete parts b [] 0 s)

pub split_read : (T : AsnType) → KeepsLimits T → DefaultsFit T → (parts : List Part) (b : List ℕ) → IsSplit T parts b → parts_in (read_parts T (at b (length b))) ≡ parts
unfolding Joined Chosen give
split_read (sequence fs) wf d parts b (s, p, r, e, n, pre, x) = whole_read (read_parts (sequence fs)) _
    (bind_lawful (preamble (optional fs)) (field_parts fs 0) (λ s p. (length s ≡ optional fs) × IsPreamble s p) (λ s. SplitsFields fs 0 s) (preamble_lawful (optional fs)) (fields_split fs wf d 0))
    parts b (s, p, r, (n, pre), x, e)
split_read (extensible_sequence fs more) wf d parts b (x, s, p, r, a, root, added, is, e, n, pre, f, g) = whole_read (read_parts (extensible_sequence fs more)) _
    (bind_lawful (preamble (suc (optional fs))) (λ s. join_parts (field_parts fs 0 (later_bits s)) (extension_parts (first_bit s) more)) (λ s p. (length s ≡ suc (optional fs)) × IsPreamble s p) (λ s. Joined (SplitsFields fs 0 (later_bits s)) (SplitsExtension (first_bit s) more)) (preamble_lawful (suc (optional fs)))
    (λ s. join_lawful (field_parts fs 0 (later_bits s)) (extension_parts (first_bit s) more) (SplitsFields fs 0 (later_bits s)) (SplitsExtension (first_bit s) more) (fields_split fs wf.0 d.0 0 (later_bits s)) (extension_split (first_bit s) more wf.1 d.1)))
    parts b (x ∷ s, p, r ++ a, (omega arith, pre), (root, added, r, a, is, refl, f, g), e)
split_read (sequence_of size T) wf d parts b (n, q, es, e, (l, c, f, len, (some, number)), fits, x) = whole_read (read_parts (sequence_of size T)) _
    (bind_lawful quantity (item_parts T 0) (IsCounted (λ n w. (1 ≤ length w) × (unsigned w ≡ n) × (ltb n (2 ^ 127) ≡ true))) (λ n. SplitsItems T 0 n) quantity_lawful (λ n. items_split T wf.1 d n 0))
    parts b (n, q, es, (l, c, f, len, (some, number, size_small size n fits)), x, e)
split_read (choice extensible more) wf d parts b (t, p, c, e, tagged, x) = whole_read (read_parts (choice extensible more)) _
    (bind_lawful tag (λ t. choose (has_tag t more) (alternative_parts more t) (read_alone None counted_octets)) IsTag (Chosen more) tag_lawful (chosen_split more wf d))
    parts b (t, p, c, tagged, x, e)
split_read (leaf kind) wf d parts b s = sym s
