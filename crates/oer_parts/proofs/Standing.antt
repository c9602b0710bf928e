-- Where a part stands: what is before it is spelt by what the program checked on its way.
use Rattle.std.proofs.Common.{◌≡◌, arith, ℕ, zero, suc, ◌+◌, ◌<◌, ◌≤◌, Bool, true, false, ◌||◌, List, [], ◌∷◌, ◌++◌, length, take, drop, get_or, Option, Some, None, refl, sym, ap, ap₂, ◌∙◌, subst, append_assoc, string_bytes}
use Rattle.oer_units.specs.Lawful.{Lawful}
use Rattle.oer_units.specs.Reader.{Outcome, Place, at, got, group, refused}
use Rattle.oer_units.specs.Reading.{counted_octets, open_type, tag}
use Rattle.oer_units.specs.Spelling.{IsCounted, IsJoined, IsLength}
use Rattle.oer_units.specs.declared.tagging.Tag.{Tag}
use Rattle.oer_units.proofs.Counted.{counted_octets_lawful}
use Rattle.oer_units.proofs.TagReaders.{tag_lawful}
use Rattle.oer_units.proofs.Units.{group_lawful}
use Rattle.oer_model.specs.AsnType.{Additions, Alternatives, AsnType, Fields, Need, addition, choice, default, extensible_sequence, field, may, must, no_additions, no_alternatives, sequence, sequence_of}
use Rattle.oer_model.specs.AsnValue.{AsnValue, Places, absent, no_places, present, unknown}
use Rattle.oer_model.specs.Bits.{IsPreamble, first_bit, later_bits}
use Rattle.oer_model.specs.Checking.{check_additions, check_fields, check_open, check_times, check_unknown, check_value}
use Rattle.oer_model.specs.Constraints.{AdditionsKeepLimits, FieldsKeepLimits, KeepsLimits, addition_count, has_tag, optional, same_tag}
use Rattle.oer_model.specs.Encoding.{ByBit, ByNeed, IsItself, IsSpelling, SpellsAdditions, SpellsFields, SpellsUnknown}
use Rattle.oer_model.specs.Fits.{AdditionDefaultsFit, DefaultsFit, FieldDefaultsFit}
use Rattle.oer_model.specs.Parts.{Holds, octets_of, to_addition, to_chosen, to_component, to_item}
use Rattle.oer_model.specs.Reading.{preamble, read_value}
use Rattle.oer_model.specs.SharedSteps.{bits_left, is_there}
use Rattle.oer_values.specs.ShapeView.{additions_of, fields_of, later_of, need_of, root_of, type_of}
use Rattle.oer_values.specs.declared.shape.Addition.{Addition}
use Rattle.oer_values.specs.declared.shape.Alt.{Alt}
use Rattle.oer_values.specs.declared.shape.Field.{Field}
use Rattle.oer_model.specs.declared.size.Size.{Size}
use Rattle.oer_model.proofs.checking.Checked.{flag}
use Rattle.oer_model.proofs.checking.CheckedParts.{value_checked}
use Rattle.oer_model.proofs.reading.Main.{open_is_lawful, value_lawful}
use Rattle.oer_model.proofs.reading.Parts.{preamble_lawful}
use Rattle.oer_model.proofs.paths.Splitting.{taken_lawful}
use Rattle.oer_parts.specs.Offsets.{AreAdditions, AreFields, AreUnknown, IsBefore, IsByTag, IsOpening, additions_to, fields_to}
use Rattle.oer_checker.specs.Steps.{addition_map, got_both, sized_length, sized_quantity}
use Rattle.oer_parts.specs.Walk.{IsAfter, IsGot, Stands, read_in}
use Rattle.oer_parts.specs.declared.walk.Piece.{Piece}
use Rattle.oer_checker.proofs.BitLists.{drop_none}
use Rattle.oer_parts.proofs.Entries.{Entry, Passes, Passes_by}
use Rattle.oer_checker.proofs.FieldSteps.{count_is}
use Rattle.oer_parts.proofs.Finds.{addition_defaults_front, additions_front, field_defaults_front, fields_front}
use Rattle.oer_parts.proofs.Pairs.{open_octets}
use Rattle.oer_parts.proofs.UnitFronts.{length_sound, map_sound, quantity_sound}
use Rattle.oer_parts.proofs.Walks.{addition_entries, addition_entry, additions_pass, field_entries, field_entry, fields_pass, item_entries, items_pass, unknown_entries, unknown_pass}

-- ---- what was read

holds : (T : AsnType) → KeepsLimits T → DefaultsFit T → Lawful (octets_of (check_value T)) (Holds T)
holds T w d = taken_lawful flag (read_value T) (check_value T) (IsSpelling T) _ (value_lawful T w) (value_checked T w d)

opens : (T : AsnType) → KeepsLimits T → DefaultsFit T → Lawful (open_type (octets_of (check_value T))) (IsCounted (Holds T))
opens T w d = open_is_lawful (octets_of (check_value T)) (Holds T) (holds T w d)

-- the octets of a value stand where they are read
pub value_front : (T : AsnType) → KeepsLimits T → DefaultsFit T → (p : Place) (c : List ℕ) → Some c ≡ read_in (octets_of (check_value T) p) → (d : List ℕ) × (p.input ≡ c ++ d)
value_front T w d p c e0 = cases (octets_of (check_value T) p) refl e0 where
  cases : (o : Outcome (List ℕ)) → octets_of (check_value T) p ≡ o → Some c ≡ read_in o → (d : List ℕ) × (p.input ≡ c ++ d)
  cases (got x q) is e =
      let words : c ≡ x = cc in
      let a = (holds T w d).sound p x q is in
      (q.input, a.2 ∙ ap (λ (l : List ℕ). l ++ q.input) (sym a.1.0 ∙ sym words))
  cases (refused why rest) is e = absurd (cc)

-- what is read spells some x by S
abbrev Spells_some : {A : Type 0} → (A → List ℕ → Type 0) → Place → List ℕ → Type 0
Spells_some {A} S p end = (x : A) × (b : List ℕ) × S x b × (p.input ≡ b ++ end)

value_spelt : (T : AsnType) → KeepsLimits T → DefaultsFit T → (c : List ℕ) (p q : Place) → got c q ≡ octets_of (check_value T) p → Spells_some (IsSpelling T) p q.input
value_spelt T w d c p q e = let a = (holds T w d).sound p c q (sym e) in (a.1.1.0, a.0, a.1.1.1, a.2)

open_spelt : (T : AsnType) → KeepsLimits T → DefaultsFit T → (c : List ℕ) (p q : Place) → got c q ≡ open_type (octets_of (check_value T)) p → Spells_some (IsCounted (IsSpelling T)) p q.input
open_spelt T w d c p q e =
    let a = (opens T w d).sound p c q (sym e) in
    let (l, s, split, long, (words, (v, spelt))) = a.1 in
    (v, a.0, (l, s, split, long, spelt), a.2)

-- ---- parts that follow one another

by_bit_spelt : (x : Bool) (S : AsnValue → List ℕ → Type 0) (Rest : Places → List ℕ → Type 0) (e : Entry) (More : Place → Type 0) (p : Place) (end : List ℕ)
    → ((c : List ℕ) (p q : Place) → got c q ≡ e.octets p → Spells_some S p q.input) → ((q : Place) → More q → Spells_some Rest q end) → Passes_by x e More p → Spells_some (ByBit x S Rest) p end
by_bit_spelt true S Rest e More p end one more (c, q, ends, is, w) =
    let f = one c p q is in
    let m = more q w in
    (present f.0 m.0, f.1 ++ m.1, (f.0, m.0, f.1, m.1, refl, refl, f.2, m.2), f.3 ∙ ap (λ (l : List ℕ). f.1 ++ l) m.3 ∙ sym (append_assoc f.1 m.1 end))
by_bit_spelt false S Rest e More p end one more w = let m = more p w in (absent m.0, m.1, (m.0, refl, m.2), m.3)

by_need_spelt : (need : Need) (S : AsnValue → List ℕ → Type 0) (Rest : List Bool → Places → List ℕ → Type 0) (s : List Bool) (ps : Places) (b : List ℕ) → ByBit (is_there need s) S (Rest (bits_left need s)) ps b → ByNeed need S Rest s ps b
by_need_spelt must S Rest s ps b x = x
by_need_spelt may S Rest s ps b x = x
by_need_spelt (default d) S Rest s ps b x = x

fields_spelt : (xs : List Field) → FieldsKeepLimits (fields_of xs) → FieldDefaultsFit (fields_of xs) → (k : ℕ) (s : List Bool) (p q : Place) → Passes (field_entries xs k s) p q → Spells_some (SpellsFields (fields_of xs) s) p q.input
fields_spelt [] w d k s p q e = (no_places, [], (refl, refl), ap (λ (r : Place). r.input) e)
fields_spelt (x ∷ xs) w d k s p q e =
    let T = type_of x.shape in
    let need = need_of x.need in
    let t = bits_left need s in
    let o = by_bit_spelt (is_there need s) (IsSpelling T) (SpellsFields (fields_of xs) t) (field_entry x k s) (λ r. Passes (field_entries xs (suc k) t) r q) p q.input (value_spelt T w.0 d.0) (λ r h. fields_spelt xs w.1 d.2 (suc k) t r q h) e in
    (o.0, o.1, by_need_spelt need (IsSpelling T) (SpellsFields (fields_of xs)) s o.0 o.1 o.2, o.3)

additions_spelt : (xs : List Addition) → AdditionsKeepLimits (additions_of xs) → AdditionDefaultsFit (additions_of xs) → (k : ℕ) (s : List Bool) (p q : Place) → Passes (addition_entries xs k s) p q → Spells_some (SpellsAdditions (additions_of xs) s) p q.input
additions_spelt [] w d k s p q e = (no_places, [], (refl, refl), ap (λ (r : Place). r.input) e)
additions_spelt (x ∷ xs) w d k s p q e =
    let T = type_of x.shape in
    let t = later_bits s in
    by_bit_spelt (first_bit s) (IsCounted (IsSpelling T)) (SpellsAdditions (additions_of xs) t) (addition_entry x k (first_bit s)) (λ r. Passes (addition_entries xs (suc k) t) r q) p q.input (open_spelt T w.0 d.0) (λ r h. additions_spelt xs w.1 d.1 (suc k) t r q h) e

unknown_spelt : (s : List Bool) (k : ℕ) (p q : Place) → Passes (unknown_entries s k) p q → Spells_some (SpellsUnknown (IsCounted IsItself) k s) p q.input
unknown_spelt [] k p q e = ([], [], (refl, refl), ap (λ (r : Place). r.input) e)
unknown_spelt (true ∷ s) k p q (c, r, ends, is, w) =
    let a = counted_octets_lawful.sound p c r (sym is) in
    let m = unknown_spelt s (suc k) r q w in
    (unknown k c ∷ m.0, a.0 ++ m.1, (c, m.0, a.0, m.1, refl, refl, a.1, m.2), a.2 ∙ ap (λ (l : List ℕ). a.0 ++ l) m.3 ∙ sym (append_assoc a.0 m.1 q.input))
unknown_spelt (false ∷ s) k p q w = unknown_spelt s (suc k) p q w

Elements : AsnType → ℕ → List AsnValue → List ℕ → Type 0
Elements T n vs b = (length vs ≡ n) × IsJoined (IsSpelling T) vs b

items_spelt : (T : AsnType) → KeepsLimits T → DefaultsFit T → (n k : ℕ) (p q : Place) → Passes (item_entries T k n) p q → Spells_some (Elements T n) p q.input
unfolding Elements
items_spelt T w d zero k p q e = ([], [], (refl, refl), ap (λ (r : Place). r.input) e)
items_spelt T w d (suc n) k p q (c, r, ends, is, h) =
    let f = value_spelt T w d c p r is in
    let m = items_spelt T w d n (suc k) r q h in
    (f.0 ∷ m.0, f.1 ++ m.1, (ap suc m.2.0, (f.1, m.1, refl, f.2, m.2.1)), f.3 ∙ ap (λ (l : List ℕ). f.1 ++ l) m.3 ∙ sym (append_assoc f.1 m.1 q.input))

-- ---- those before one of them

fields_first : (xs : List Field) (i : ℕ) → fields_of (take i xs) ≡ fields_to i (fields_of xs)
fields_first xs zero = refl
fields_first [] (suc i) = refl
fields_first (x ∷ xs) (suc i) = ap (λ (fs : Fields). field (string_bytes x.name) (need_of x.need) (type_of x.shape) fs) (fields_first xs i)

additions_first : (xs : List Addition) (i : ℕ) → additions_of (take i xs) ≡ additions_to i (additions_of xs)
additions_first xs zero = refl
additions_first [] (suc i) = refl
additions_first (x ∷ xs) (suc i) = ap (λ (more : Additions). addition (string_bytes x.name) (type_of x.shape) more) (additions_first xs i)

additions_all : (more : Additions) (i : ℕ) → addition_count more ≤ i → more ≡ additions_to i more
additions_all no_additions zero le = refl
additions_all no_additions (suc i) le = refl
additions_all (addition name T more) zero le = absurd (omega arith)
additions_all (addition name T more) (suc i) le = ap (λ (rest : Additions). addition name T rest) (additions_all more i (omega arith))

drop_short : {A : Type 0} (n i : ℕ) (s : List A) → i ≤ n → drop n (take i s) ≡ []
drop_short {A} n zero s le = drop_none A n
drop_short {A} n (suc i) [] le = drop_none A n
drop_short zero (suc i) (x ∷ s) le = absurd (omega arith)
drop_short (suc n) (suc i) (x ∷ s) le = drop_short n i s (omega arith)

-- ---- where a part stands

-- s stands at q, after some octets at p
pub further : (F G : ℕ → List ℕ → Type 0) (a : List ℕ) (p q : Place) (s : List ℕ) (rest : ℕ) → p.input ≡ a ++ q.input → ((n : ℕ) (b : List ℕ) → F n b → G n (a ++ b)) → IsAfter F q s rest → IsAfter G p s rest
further F G a p q s rest e more (b, d, h, n, f) = (a ++ b, d, e ∙ ap (λ (l : List ℕ). a ++ l) h ∙ sym (append_assoc a b (s ++ d)), n, more (length s) b f)

stands_further : (F G : ℕ → List ℕ → Type 0) (a : List ℕ) (p q : Place) (x : Option Piece) → p.input ≡ a ++ q.input → ((n : ℕ) (b : List ℕ) → F n b → G n (a ++ b)) → Stands F q x → Stands G p x
stands_further F G a p q None e more h = tt
stands_further F G a p q (Some x) e more h = further F G a p q x.octets.now x.rest e more h

abbrev AtOnce : ℕ → List ℕ → Type 0
AtOnce n a = a ≡ []

-- what is read first stands after nothing
here : (q : Place) (c d : List ℕ) (rest : ℕ) → q.input ≡ c ++ d → rest ≡ length q.input → IsAfter AtOnce q c rest
here q c d rest e n = ([], d, e, n ∙ ap (λ (l : List ℕ). length l) e, refl)

-- a value
pub value_stands : (T : AsnType) → KeepsLimits T → DefaultsFit T → (F : ℕ → List ℕ → Type 0) (a : List ℕ) (p q : Place) (c : List ℕ) (rest : ℕ) → p.input ≡ a ++ q.input → ((n : ℕ) → F n a) → Some c ≡ read_in (octets_of (check_value T) q) → rest ≡ length q.input → IsAfter F p c rest
value_stands T w d F a p q c rest e f read n =
    let o = value_front T w d q c read in
    (a, o.0, e ∙ ap (λ (l : List ℕ). a ++ l) o.1, n ∙ ap (λ (l : List ℕ). length l) o.1, f (length c))

-- octets that a length counts
pub counted_stands : (p q r : Place) (n : ℕ) (f : Bool) (c : List ℕ) (rest : ℕ) → got_both n f q ≡ sized_length p → got c r ≡ group n q → rest ≡ length q.input → IsAfter (λ n l. IsLength n l) p c rest
counted_stands p q r n f c rest long e many =
    let l = length_sound p (n, f) q (sym long) in
    let v = (group_lawful n).sound q c r (sym e) in
    let split : q.input ≡ c ++ r.input = v.2 ∙ ap (λ (b : List ℕ). b ++ r.input) (sym v.1.0) in
    let all : n ≡ length c = sym (ap length v.1.0 ∙ v.1.1) in
    (l.0, r.input, l.2 ∙ ap (λ (b : List ℕ). l.0 ++ b) split, many ∙ ap (λ (b : List ℕ). length b) split, subst (λ (k : ℕ). IsLength k l.0) all l.1.0)

-- a content that was checked is what its length counts
pub content_counted : (T : AsnType) → KeepsLimits T → DefaultsFit T → (p : Place) → IsGot (check_open (check_value T) p) → read_in (counted_octets p) ≡ read_in (open_type (octets_of (check_value T)) p)
content_counted T w d p (f, q, e) =
    let o = open_octets (check_value T) p q f e in
    let a = (opens T w d).sound p o.0 q (sym o.1) in
    let (l, s, split, long, (words, held)) = a.1 in
    let counted = counted_octets_lawful.complete o.0 a.0 q.input q.left (l, s, split, long, sym words) in
    let place : p ≡ at (a.0 ++ q.input) (length a.0 + q.left) = ap₂ at a.2 a.3 in
    ap (λ (t : Place). read_in (counted_octets t)) place ∙ ap read_in counted ∙ ap read_in o.1

-- ---- components

-- those before it
pub fields_stand : (xs : List Field) (i : ℕ) (s : List Bool) (p q : Place) (f : Bool) → FieldsKeepLimits (fields_of xs) → FieldDefaultsFit (fields_of xs) → got f q ≡ check_fields (fields_of (take i xs)) s p → (b : List ℕ) × AreFields (fields_of xs) i s b × (p.input ≡ b ++ q.input)
fields_stand xs i s p q f w d e =
    let o = fields_spelt (take i xs) (fields_front xs i w) (field_defaults_front xs i d) 0 s p q (fields_pass (take i xs) 0 s p q f e) in
    (o.1, (o.0, subst (λ (fs : Fields). SpellsFields fs s o.0 o.1) (fields_first xs i) o.2), o.3)

pub closed_stands : (T : AsnType) (fs : Fields) (is : T ≡ sequence fs) (i : ℕ) (p q : Place) (s : List Bool) (x : Option Piece) → got s q ≡ preamble (optional fs) p → Stands (λ n a. AreFields fs i s a) q x → Stands (IsBefore T (to_component i)) p x
closed_stands T fs is i p q s x e h =
    let o = (preamble_lawful (optional fs)).sound p s q (sym e) in
    subst (λ (U : AsnType). Stands (IsBefore U (to_component i)) p x) (sym is) (stands_further (λ n a. AreFields fs i s a) (IsBefore (sequence fs) (to_component i)) o.0 p q x o.2 (λ n b f. (s, o.0, b, refl, o.1.0, o.1.1, f)) h)

-- the bits of a preamble that begins with an extension bit
extension_bit : (s : List Bool) (n : ℕ) → length s ≡ suc n → (s ≡ first_bit s ∷ later_bits s) × (length (later_bits s) ≡ n)
extension_bit [] n e = absurd (omega (arith, e))
extension_bit (x ∷ s) n e = (refl, omega (arith, e))

pub root_stands : (T : AsnType) (fs : Fields) (more : Additions) (is : T ≡ extensible_sequence fs more) (i k : ℕ) (p q : Place) (s bits : List Bool) (x : Option Piece) → k ≡ suc (optional fs) → got s q ≡ preamble k p → bits ≡ later_bits s
    → Stands (λ n a. AreFields fs i bits a) q x → Stands (IsBefore T (to_component i)) p x
root_stands T fs more is i k p q s bits x many e b h =
    let o = (preamble_lawful k).sound p s q (sym e) in
    let t = extension_bit s (optional fs) (o.1.0 ∙ many) in
    let pre = subst (λ (l : List Bool). IsPreamble l o.0) (t.0 ∙ ap (λ (l : List Bool). first_bit s ∷ l) (sym b)) o.1.1 in
    subst (λ (U : AsnType). Stands (IsBefore U (to_component i)) p x) (sym is) (stands_further (λ n a. AreFields fs i bits a) (IsBefore (extensible_sequence fs more) (to_component i)) o.0 p q x o.2 (λ n c f. (first_bit s, bits, o.0, c, refl, ap length b ∙ t.1, pre, f)) h)

-- ---- additions

pub addition_stands : (xs : List Addition) (i : ℕ) (s : List Bool) (p q : Place) (f : Bool) (x : Option Piece) → AdditionsKeepLimits (additions_of xs) → AdditionDefaultsFit (additions_of xs) → i < length xs → got f q ≡ check_additions (additions_of (take i xs)) s p
    → Stands (λ n l. IsLength n l) q x → Stands (AreAdditions (additions_of xs) i s) p x
addition_stands xs i s p q f x w d less e h =
    let o = additions_spelt (take i xs) (additions_front xs i w) (addition_defaults_front xs i d) 0 s p q (additions_pass (take i xs) 0 s p q f e) in
    let count : i ≤ addition_count (additions_of xs) = omega (arith, count_is xs) in
    let none = drop_short (addition_count (additions_of xs)) i s count in
    let known = subst (λ (more : Additions). SpellsAdditions more s o.0 o.1) (additions_first xs i) o.2 in
    let no_more : SpellsUnknown (IsCounted IsItself) (addition_count (additions_of xs)) (drop (addition_count (additions_of xs)) (take i s)) [] [] = subst (λ (l : List Bool). SpellsUnknown (IsCounted IsItself) (addition_count (additions_of xs)) l [] []) (sym none) (refl, refl) in
    stands_further (λ n l. IsLength n l) (AreAdditions (additions_of xs) i s) o.1 p q x o.3 (λ n l f. (o.0, o.1, l, refl, known, ([], [], l, refl, no_more, f))) h

pub beyond_stands : (xs : List Addition) (i : ℕ) (s : List Bool) (p q : Place) (f : Bool) (x : Option Piece) → AdditionsKeepLimits (additions_of xs) → AdditionDefaultsFit (additions_of xs) → length xs ≤ i → got f q ≡ check_additions (additions_of xs) s p
    → Stands (AreUnknown (length xs) i s) q x → Stands (AreAdditions (additions_of xs) i s) p x
beyond_stands xs i s p q f x w d le e h =
    let o = additions_spelt xs w d 0 s p q (additions_pass xs 0 s p q f e) in
    let known = subst (λ (more : Additions). SpellsAdditions more s o.0 o.1) (additions_all (additions_of xs) i (omega (arith, count_is xs))) o.2 in
    stands_further (AreUnknown (length xs) i s) (AreAdditions (additions_of xs) i s) o.1 p q x o.3 (λ n l f. (o.0, o.1, l, refl, known, subst (λ (k : ℕ). AreUnknown k i s n l) (sym (count_is xs)) f)) h

pub unknown_stands : (known i : ℕ) (s : List Bool) (p q : Place) (f : Bool) (x : Option Piece) → got f q ≡ check_unknown (drop known (take i s)) p → Stands (λ n l. IsLength n l) q x → Stands (AreUnknown known i s) p x
unknown_stands known i s p q f x e h =
    let o = unknown_spelt (drop known (take i s)) known p q (unknown_pass (drop known (take i s)) known p q f e) in
    stands_further (λ n l. IsLength n l) (AreUnknown known i s) o.1 p q x o.3 (λ n l f. (o.0, o.1, l, refl, o.2, f)) h

pub added_stands : (T : AsnType) (xs : List Field) (ys : List Addition) (is : T ≡ extensible_sequence (fields_of xs) (additions_of ys)) (i k n : ℕ) (p q r t : Place) (s bits marks : List Bool) (f g : Bool) (x : Option Piece) → FieldsKeepLimits (fields_of xs) → FieldDefaultsFit (fields_of xs)
    → k ≡ suc (optional (fields_of xs)) → got s q ≡ preamble k p → first_bit s ≡ true → bits ≡ later_bits s → got f r ≡ check_fields (fields_of xs) bits q → got_both marks g t ≡ addition_map n r
    → Stands (AreAdditions (additions_of ys) i marks) t x → Stands (IsBefore T (to_addition i)) p x
added_stands T xs ys is i k n p q r t s bits marks f g x w d many e set b root map h =
    let o = (preamble_lawful k).sound p s q (sym e) in
    let y = extension_bit s (optional (fields_of xs)) (o.1.0 ∙ many) in
    let pre = subst (λ (l : List Bool). IsPreamble l o.0) (y.0 ∙ ap₂ (λ (z : Bool) (l : List Bool). z ∷ l) set (sym b)) o.1.1 in
    let u = fields_spelt xs w d 0 bits q r (fields_pass xs 0 bits q r f root) in
    let m = map_sound n r (marks, g) t (sym map) in
    let front = o.0 ++ (u.1 ++ m.0) in
    let split : p.input ≡ front ++ t.input = o.2 ∙ ap (λ (l : List ℕ). o.0 ++ l) (u.3 ∙ ap (λ (l : List ℕ). u.1 ++ l) m.2 ∙ sym (append_assoc u.1 m.0 t.input)) ∙ sym (append_assoc o.0 (u.1 ++ m.0) t.input) in
    let joined : (c : List ℕ) → front ++ c ≡ o.0 ++ (u.1 ++ (m.0 ++ c)) = λ c. append_assoc o.0 (u.1 ++ m.0) c ∙ ap (λ (l : List ℕ). o.0 ++ l) (append_assoc u.1 m.0 c) in
    subst (λ (U : AsnType). Stands (IsBefore U (to_addition i)) p x) (sym is) (stands_further (AreAdditions (additions_of ys) i marks) (IsBefore (extensible_sequence (fields_of xs) (additions_of ys)) (to_addition i)) front p t x split
    (λ n c f. (bits, marks, u.0, o.0, u.1, m.0, c, joined c, ap length b ∙ y.1, pre, u.2, m.1.0, f)) h)

-- ---- elements

pub item_stands : (U : AsnType) (size : Size) (T : AsnType) (is : U ≡ sequence_of size T) → KeepsLimits T → DefaultsFit T → (i n : ℕ) (p q r : Place) (f g : Bool) (c : List ℕ) (rest : ℕ) → got_both n f q ≡ sized_quantity size p → got g r ≡ check_times i (check_value T) q
    → Some c ≡ read_in (octets_of (check_value T) r) → rest ≡ length r.input → IsAfter (IsBefore U (to_item i)) p c rest
unfolding Elements
item_stands U size T is w d i n p q r f g c rest e h read many =
    let o = quantity_sound size p (n, f) q (sym e) in
    let (l, y, split, long, number) = o.1.0 in
    let m = items_spelt T w d i 0 q r (items_pass T 0 i q r g h) in
    let front : p.input ≡ (o.0 ++ m.1) ++ r.input = o.2 ∙ ap (λ (b : List ℕ). o.0 ++ b) m.3 ∙ sym (append_assoc o.0 m.1 r.input) in
    let before : (k : ℕ) → IsBefore (sequence_of size T) (to_item i) k (o.0 ++ m.1) = λ k. (n, m.0, o.0, m.1, refl, (l, y, split, long, (number.0, number.1)), m.2.0, m.2.1) in
    subst (λ (V : AsnType). IsAfter (IsBefore V (to_item i)) p c rest) (sym is) (value_stands T w d (IsBefore (sequence_of size T) (to_item i)) (o.0 ++ m.1) p r c rest front before read many)

-- ---- the alternative

by_tag : (b : Bool) (P Q : Type 0) → P → Q → IsByTag b P Q
by_tag true P Q p q = p
by_tag false P Q p q = q

by_none : (b x : Bool) (P Q : Type 0) → (b || x) ≡ false → (x ≡ false → Q) → IsByTag b P Q
by_none true x P Q e q = absurd (cc)
by_none false x P Q e q = q e

by_same : (b : Bool) (P Q : Type 0) → b ≡ true → P → IsByTag b P Q
by_same true P Q e p = p
by_same false P Q e p = absurd (cc)

-- one of the root
root_opening : (xs : List Alt) (after : Alternatives) (t : Tag) (i : ℕ) (a : Alt) (n : ℕ) → i < length xs → a ≡ get_or xs i a → same_tag a.tag t ≡ true → has_tag t (root_of (take i xs) no_alternatives) ≡ false → IsOpening (root_of xs after) t n []
root_opening [] after t i a n less is same before = absurd (omega arith)
root_opening (x ∷ xs) after t zero a n less is same before = by_same (same_tag x.tag t) _ _ (ap (λ (y : Alt). same_tag y.tag t) (sym is) ∙ same) refl
root_opening (x ∷ xs) after t (suc i) a n less is same before = by_none (same_tag x.tag t) (has_tag t (root_of (take i xs) no_alternatives)) _ _ before (root_opening xs after t i a n (omega arith) is same)

-- one after it
later_opening : (ys : List Alt) (t : Tag) (n : ℕ) (l : List ℕ) → IsLength n l → IsOpening (later_of ys) t n l
later_opening [] t n l long = long
later_opening (y ∷ ys) t n l long = by_tag (same_tag y.tag t) _ _ long (later_opening ys t n l long)

beyond_opening : (xs : List Alt) (after : Alternatives) (t : Tag) (n : ℕ) (l : List ℕ) → has_tag t (root_of xs no_alternatives) ≡ false → IsOpening after t n l → IsOpening (root_of xs after) t n l
beyond_opening [] after t n l none h = h
beyond_opening (x ∷ xs) after t n l none h = by_none (same_tag x.tag t) (has_tag t (root_of xs no_alternatives)) _ _ none (λ e. beyond_opening xs after t n l e h)

pub root_alternative_stands : (T : AsnType) (extensible : Bool) (xs : List Alt) (after : Alternatives) (is : T ≡ choice extensible (root_of xs after)) (p q : Place) (t : Tag) (a : Alt) (c : List ℕ) (rest i : ℕ) → KeepsLimits (type_of a.shape) → DefaultsFit (type_of a.shape) → got t q ≡ tag p
    → i < length xs → a ≡ get_or xs i a → same_tag a.tag t ≡ true → has_tag t (root_of (take i xs) no_alternatives) ≡ false → Some c ≡ read_in (octets_of (check_value (type_of a.shape)) q) → rest ≡ length q.input → IsAfter (IsBefore T to_chosen) p c rest
root_alternative_stands T extensible xs after is p q t a c rest i w d e less at same before read many =
    let o = tag_lawful.sound p t q (sym e) in
    let v = value_front (type_of a.shape) w d q c read in
    subst (λ (U : AsnType). IsAfter (IsBefore U to_chosen) p c rest) (sym is) (further AtOnce (IsBefore (choice extensible (root_of xs after)) to_chosen) o.0 p q c rest o.2
    (λ n l none. (t, o.0, l, refl, o.1, subst (λ (b : List ℕ). IsOpening (root_of xs after) t n b) (sym none) (root_opening xs after t i a n less at same before))) (here q c v.0 rest v.1 many))

pub open_alternative_stands : (T : AsnType) (xs ys : List Alt) (is : T ≡ choice true (root_of xs (later_of ys))) (p q : Place) (t : Tag) (x : Option Piece) → got t q ≡ tag p → has_tag t (root_of xs no_alternatives) ≡ false → Stands (λ n l. IsLength n l) q x → Stands (IsBefore T to_chosen) p x
open_alternative_stands T xs ys is p q t x e none h =
    let o = tag_lawful.sound p t q (sym e) in
    subst (λ (U : AsnType). Stands (IsBefore U to_chosen) p x) (sym is) (stands_further (λ n l. IsLength n l) (IsBefore (choice true (root_of xs (later_of ys))) to_chosen) o.0 p q x o.2
    (λ n l long. (t, o.0, l, refl, o.1, beyond_opening xs (later_of ys) t n l none (later_opening ys t n l long))) h)
