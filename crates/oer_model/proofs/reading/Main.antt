-- What the reader of a type reads are its encodings.
use Rattle.std.proofs.Common.{◌≡◌, ℕ, zero, suc, ◌≤◌, inl, inr, ◌&&◌, ◌||◌, not, List, [], ◌∷◌, ◌++◌, length, Bool, true, false, eqb, if◌then◌else◌, refl, ap, sym, ◌∙◌, subst, append-nil, arith, length-append, ℤ, Option, Some, None}
use Rattle.oer_units.specs.Lawful.{Lawful}
use Rattle.oer_units.specs.Numbers.{unsigned, signed, natural}
use Rattle.oer_units.specs.Reader.{Reader, give, guard}
use Rattle.oer_units.specs.Reading.{octet, is_int64, open_type}
use Rattle.oer_units.specs.Spelling.{IsCounted, StandsFor, IsEnumerated, IsTag}
use Rattle.oer_units.specs.declared.fault.Why.TheVariants.{End, UnknownAlternative, UnknownEnum}
use Rattle.oer_units.specs.declared.tagging.Tag.{Tag}
use Rattle.oer_units.proofs.Closure.{give_lawful, refuse_lawful, bind_lawful, same_spellings}
use Rattle.oer_units.proofs.EnumeratedNumbers.{enumeration_lawful}
use Rattle.oer_units.proofs.Lengths.{octet_lawful, open_type_lawful}
use Rattle.oer_units.proofs.Units.{mapped_lawful, tested_lawful}
use Rattle.oer_model.proofs.reading.Parts.{form_lawful, len_some, by_bit_lawful, by_need_lawful, by_tag_lawful, extension_lawful, sequence_lawful, extensible_lawful, items_lawful, choice_lawful, bits_lawful}
use Rattle.oer_model.proofs.fitting.Contents.{content_fixed, content_lawful, may_be_nothing}
use Rattle.oer_model.specs.LeafType as kind
use Rattle.oer_model.specs.LeafType.{LeafType}
use Rattle.oer_model.specs.AsnType.{Additions, Alternatives, AsnType, Fields, addition, alternative, choice, default, extensible_sequence, field, later, leaf, may, must, no_additions, no_alternatives, no_fields, sequence, sequence_of}
use Rattle.oer_model.specs.AsnValue.{AsnValue, bool, nothing, int, enum, bit_list, leaf_value, Places, no_places}
use Rattle.oer_model.specs.Bits.{first_bit, later_bits, octets_for, IsPreamble, IsBits}
use Rattle.oer_model.specs.Constraints.{AdditionsKeepLimits, AlternativesKeepLimits, FieldsKeepLimits, Form, KeepsLimits, fixed, form_of, has_number, has_tag, in_range, is_zero, leaf_may_be_empty, may_all_be_empty, may_be_empty, optional, same_tag, signed_counted, signed_fixed, size_fits, unsigned_counted, unsigned_fixed}
use Rattle.oer_model.specs.ContentType.{ContentType}
use Rattle.oer_model.specs.Contents.{IsContent, Sized, SpellsContent, content_value, fixed_content, read_content}
use Rattle.oer_model.specs.Encoding.{ByTag, IsLeafSpelling, IsSpelling, SpellsAdditions, SpellsAlternative, SpellsBits, SpellsExtension, SpellsFields, SpellsInteger}
use Rattle.oer_model.specs.Reading.{read_additions, read_alternative, read_bits, read_extension, read_fields, read_integer, read_leaf, read_value}
use Rattle.oer_model.specs.declared.size.Size.{Size}
use Rattle.oer_units.specs.Reading as unit

unknown_goes_on : UnknownEnum ≡ End → ⊥
unknown_goes_on e = cc

alternative_goes_on : UnknownAlternative ≡ End → ⊥
alternative_goes_on e = cc

pub tag_or_later : (same other : Bool) (S Rest : AsnValue → List ℕ → Type 0) (v : AsnValue) (b : List ℕ) → (Rest v b → other ≡ true) → ByTag same S Rest v b → (same || other) ≡ true
tag_or_later true other S Rest v b f s = refl
tag_or_later false other S Rest v b f s = f s

-- what is spelt at a tag is that of an alternative with the tag
pub tag_known : (more : Alternatives) (t : Tag) (v : AsnValue) (b : List ℕ) → SpellsAlternative more t v b → has_tag t more ≡ true
tag_known no_alternatives t v b s = absurd s
tag_known (alternative name u T more) t v b s = tag_or_later (same_tag u t) (has_tag t more) (IsSpelling T) (SpellsAlternative more t) v b (tag_known more t v b) s
tag_known (later name u T more) t v b s = tag_or_later (same_tag u t) (has_tag t more) (IsCounted (IsSpelling T)) (SpellsAlternative more t) v b (tag_known more t v b) s

pub open_is_lawful : {A : Type 0} (r : Reader A) (S : A → List ℕ → Type 0) → Lawful r S → Lawful (open_type r) (IsCounted S)
unfolding open_type
open_is_lawful r S l = open_type_lawful r S l

pub counted_some : {A : Type 0} (S : A → List ℕ → Type 0) (x : A) (b : List ℕ) → IsCounted S x b → 1 ≤ length b
counted_some S x b (l, c, e, len, s) = omega (arith, ap length e, length-append l c, len_some (length c) l len)

-- a form whose fixed width is not 0
abbrev IsWide : Form → Type 0
IsWide (unsigned_fixed n) = 1 ≤ n
IsWide (signed_fixed n) = 1 ≤ n
IsWide unsigned_counted = Unit {0}
IsWide signed_counted = Unit {0}

record Wide (f : Form) : Type 0 where
  is_wide : IsWide f

either_wide : (c : Bool) (f g : Form) → Wide f → Wide g → Wide (if c then f else g)
either_wide true f g l m = l
either_wide false f g l m = m

one : Wide (unsigned_fixed 1)
one = record { is_wide = omega arith }

two : Wide (unsigned_fixed 2)
two = record { is_wide = omega arith }

four : Wide (unsigned_fixed 4)
four = record { is_wide = omega arith }

eight : Wide (unsigned_fixed 8)
eight = record { is_wide = omega arith }

any : Wide unsigned_counted
any = record { is_wide = tt }

signed_one : Wide (signed_fixed 1)
signed_one = record { is_wide = omega arith }

signed_two : Wide (signed_fixed 2)
signed_two = record { is_wide = omega arith }

signed_four : Wide (signed_fixed 4)
signed_four = record { is_wide = omega arith }

signed_eight : Wide (signed_fixed 8)
signed_eight = record { is_wide = omega arith }

signed_any : Wide signed_counted
signed_any = record { is_wide = tt }

form_wide : (low high : Option ℤ) → Wide (form_of low high)
unfolding form_of
form_wide low high =
    either_wide _ _ _ (either_wide _ _ _ one (either_wide _ _ _ two (either_wide _ _ _ four (either_wide _ _ _ eight any))))
    (either_wide _ _ _ signed_one (either_wide _ _ _ signed_two (either_wide _ _ _ signed_four (either_wide _ _ _ signed_eight signed_any))))

form_some : (f : Form) (z : ℤ) (b : List ℕ) → IsWide f → SpellsInteger f z b → 1 ≤ length b
form_some (unsigned_fixed n) z b w (e, f) = omega arith
form_some (signed_fixed n) z b w (e, f) = omega arith
form_some unsigned_counted z b w s = counted_some (StandsFor natural) z b s
form_some signed_counted z b w s = counted_some (StandsFor signed) z b s

pub preamble_some : (s : List Bool) (p : List ℕ) → 1 ≤ length s → IsPreamble s p → 1 ≤ length p
unfolding octets_for
preamble_some s p l (padding, e, f, g) = omega arith

enum_some : (z : ℤ) (b : List ℕ) → IsEnumerated z b → 1 ≤ length b
enum_some z b (inl (x, e, s, t)) = omega (arith, ap length e)
enum_some z b (inr (k, w, e, low, high, many, is)) = omega (arith, ap length e)

bits_some : (fix : Option ℕ) (s : Size) (w : List Bool) (b : List ℕ) → is_zero fix ≡ false → SpellsBits fix s w b → 1 ≤ length b
unfolding octets_for
bits_some None s w b e t = counted_some (λ s' c. IsBits s' c × (size_fits s (length s') ≡ true)) w b t
bits_some (Some zero) s w b e t = absurd (cc)
bits_some (Some (suc n)) s w b e (f, g) = omega arith

pub tag_some : (t : Tag) (p : List ℕ) → IsTag t p → 1 ≤ length p
tag_some t p (inl s) = omega (arith, ap length s.0)
tag_some t p (inr (w, e, low, high, digits)) = omega (arith, ap length e)

sequence_some : (k : ℕ) (all : Bool) → (eqb k 0 && all) ≡ false → (s : List Bool) (p r b : List ℕ) → b ≡ p ++ r → length s ≡ k → IsPreamble s p → (all ≡ false → k ≡ 0 → 1 ≤ length r) → 1 ≤ length b
sequence_some zero all e s p r b g n pre f = omega (arith, ap length g, length-append p r, f e refl)
sequence_some (suc k) all e s p r b g n pre f = omega (arith, ap length g, length-append p r, preamble_some s p (omega arith) pre)

either_some : (one others : Bool) → (one && others) ≡ false → (b b1 b2 : List ℕ) → b ≡ b1 ++ b2 → (one ≡ false → 1 ≤ length b1) → (others ≡ false → 1 ≤ length b2) → 1 ≤ length b
either_some false others e b b1 b2 g f h = omega (arith, ap length g, length-append b1 b2, f refl)
either_some true others e b b1 b2 g f h = omega (arith, ap length g, length-append b1 b2, h e)

sized_some : (fix : Option ℕ) (kind : ContentType) (w b : List ℕ) → fixed_content kind ≡ fix → is_zero fix ≡ false → Sized fix (IsContent kind) w b → 1 ≤ length b
sized_some None kind w b e t s = counted_some (IsContent kind) w b s
sized_some (Some zero) kind w b e t s = absurd (cc)
sized_some (Some (suc n)) kind w b e t s = omega (arith, content_fixed kind (suc n) w b e s)

leaf_takes_some : (kind : LeafType) → leaf_may_be_empty kind ≡ false → (v : AsnValue) (b : List ℕ) → IsLeafSpelling kind v b → 1 ≤ length b
leaf_takes_some kind.boolean e v b (x, f, g) = omega (arith, ap length f)
leaf_takes_some kind.null e v b s = absurd (cc)
leaf_takes_some (kind.integer low high) e v b (z, f, g, s) = form_some (form_of low high) z b (form_wide low high).is_wide s
leaf_takes_some (kind.enumerated numbers extensible) e v b (z, f, g, h, s) = enum_some z b s
leaf_takes_some (kind.bit_string s) e v b (w, f, g) = bits_some (fixed s) s w b e g
leaf_takes_some (kind.content inner) e v b (w, is, s) = sized_some (fixed_content inner) inner w b refl (may_be_nothing inner e) s

mutual
  pub takes_some : (T : AsnType) → may_be_empty T ≡ false → (v : AsnValue) (b : List ℕ) → IsSpelling T v b → 1 ≤ length b
  takes_some (leaf kind) e v b s = leaf_takes_some kind e v b s
  takes_some (sequence fs) e v b (root, s, p, r, f, g, n, pre, t) = sequence_some (optional fs) (may_all_be_empty fs) e s p r b g n pre (λ all none. all_take_some fs all none s root r t)
  takes_some (extensible_sequence fs more) e v b (root, added, us, x, s, p, r, a, f, g, n, pre, t, u) = omega (arith, ap length g, length-append p (r ++ a), preamble_some (x ∷ s) p (omega arith) pre)
  takes_some (sequence_of s T) e v b (vs, q, es, f, g, t, fits, every) = omega (arith, ap length g, length-append q es, counted_some (λ n w. (1 ≤ length w) × (unsigned w ≡ n)) (length vs) q t)
  takes_some (choice extensible more) e v b (t, p, c, g, s, u) = omega (arith, ap length g, length-append p c, tag_some t p s)

  all_take_some : (fs : Fields) → may_all_be_empty fs ≡ false → optional fs ≡ 0 → (s : List Bool) (ps : Places) (b : List ℕ) → SpellsFields fs s ps b → 1 ≤ length b
  all_take_some no_fields e none s ps b t = absurd (cc)
  all_take_some (field name must T fs) e none s ps b (v, rest, b1, b2, f, g, t, r) = either_some (may_be_empty T) (may_all_be_empty fs) e b b1 b2 g (λ no_one. takes_some T no_one v b1 t) (λ others. all_take_some fs others none s rest b2 r)
  all_take_some (field name may T fs) e none s ps b t = absurd (omega arith)
  all_take_some (field name (default d) T fs) e none s ps b t = absurd (omega arith)

leaf_lawful : (kind : LeafType) → KeepsLimits (leaf kind) → Lawful (read_leaf kind) (IsLeafSpelling kind)
leaf_lawful kind.boolean wf = same_spellings (mapped_lawful (λ x. bool (not (eqb x 0))) octet (λ x b. b ≡ x ∷ []) octet_lawful)
    (λ v b (x, e, f). (x, f, e)) (λ v b (x, f, e). (x, e, f))
leaf_lawful kind.null wf = give_lawful nothing
leaf_lawful (kind.integer low high) wf = same_spellings (mapped_lawful int (read_integer (form_of low high) (in_range low high)) (λ z b. (in_range low high z ≡ true) × SpellsInteger (form_of low high) z b) (form_lawful (form_of low high) (in_range low high)))
    (λ v b (z, e, (f, g)). (z, e, f, g)) (λ v b (z, e, f, g). (z, e, (f, g)))
leaf_lawful (kind.enumerated numbers extensible) wf = same_spellings
    (bind_lawful unit.enumerated (λ z. guard (extensible || has_number numbers z) UnknownEnum (give (enum z))) (λ z b. (is_int64 z ≡ true) × IsEnumerated z b) (λ z v b. ((extensible || has_number numbers z) ≡ true) × ((v ≡ enum z) × (b ≡ []))) enumeration_lawful
    (λ z. tested_lawful (extensible || has_number numbers z) UnknownEnum (give (enum z)) (λ v b. (v ≡ enum z) × (b ≡ [])) unknown_goes_on (give_lawful (enum z))))
    (λ v b (z, b1, b2, (f, g), (t, (is, none)), e). (z, is, f, t, subst (λ w. IsEnumerated z w) (sym (e ∙ ap (λ w. b1 ++ w) none ∙ append-nil b1)) g))
    (λ v b (z, is, f, t, g). (z, b, [], (f, g), (t, (is, refl)), sym (append-nil b)))
leaf_lawful (kind.bit_string s) wf = mapped_lawful bit_list (read_bits (fixed s) s) (SpellsBits (fixed s) s) (bits_lawful (fixed s) s)
leaf_lawful (kind.content inner) wf = mapped_lawful (λ w. leaf_value (content_value inner w)) (read_content inner) (SpellsContent inner) (content_lawful inner wf)

mutual
  pub value_lawful : (T : AsnType) → KeepsLimits T → Lawful (read_value T) (IsSpelling T)
  value_lawful (leaf kind) w = leaf_lawful kind w
  value_lawful (sequence fs) w = sequence_lawful (optional fs) (read_fields fs) (SpellsFields fs) (fields_lawful fs w)
  value_lawful (extensible_sequence fs more) w = extensible_lawful (optional fs) (read_fields fs) (SpellsFields fs) (fields_lawful fs w.0)
      (λ x. read_extension x more (read_additions more)) (λ x. SpellsExtension x more (SpellsAdditions more)) (λ x. extension_lawful x more (read_additions more) (SpellsAdditions more) (adds_lawful more w.1))
  value_lawful (sequence_of s T) w = items_lawful s (read_value T) (IsSpelling T) (value_lawful T w.1) (takes_some T w.0)
  value_lawful (choice extensible more) w = choice_lawful extensible more (read_alternative more) (SpellsAlternative more) (alts_lawful more w) (tag_known more)

  pub fields_lawful : (fs : Fields) → FieldsKeepLimits fs → (s : List Bool) → Lawful (read_fields fs s) (SpellsFields fs s)
  fields_lawful no_fields w s = give_lawful no_places
  fields_lawful (field name need T fs) w s = by_need_lawful (read_value T) (IsSpelling T) (value_lawful T w.0) need (read_fields fs) (SpellsFields fs) (fields_lawful fs w.1) s

  pub adds_lawful : (more : Additions) → AdditionsKeepLimits more → (s : List Bool) → Lawful (read_additions more s) (SpellsAdditions more s)
  adds_lawful no_additions w s = give_lawful no_places
  adds_lawful (addition name T more) w s = by_bit_lawful (open_type (read_value T)) (IsCounted (IsSpelling T)) (open_is_lawful (read_value T) (IsSpelling T) (value_lawful T w.0)) (read_additions more (later_bits s)) (SpellsAdditions more (later_bits s)) (adds_lawful more w.1 (later_bits s)) (first_bit s)

  pub alts_lawful : (more : Alternatives) → AlternativesKeepLimits more → (t : Tag) → Lawful (read_alternative more t) (SpellsAlternative more t)
  alts_lawful no_alternatives w t = refuse_lawful UnknownAlternative (λ v b. ⊥) alternative_goes_on (λ v b s. s)
  alts_lawful (alternative name u T more) w t = by_tag_lawful (read_value T) (IsSpelling T) (value_lawful T w.0) (same_tag u t) (read_alternative more t) (SpellsAlternative more t) (alts_lawful more w.1 t)
  alts_lawful (later name u T more) w t = by_tag_lawful (open_type (read_value T)) (IsCounted (IsSpelling T)) (open_is_lawful (read_value T) (IsSpelling T) (value_lawful T w.0)) (same_tag u t) (read_alternative more t) (SpellsAlternative more t) (alts_lawful more w.1 t)
