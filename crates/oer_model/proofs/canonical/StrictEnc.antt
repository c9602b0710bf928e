-- Canonical encodings are encodings, so canonical octets tell a value but for its absent defaults.
use Rattle.std.proofs.Common.{◌≡◌, ℕ, suc, inl, inr, subst, ◌++◌, drop_at, ◌-◌, List, [], ◌∷◌, length, take, drop, Bool, true, false, refl, ap, sym, ◌∙◌, arith, length-append, take_at, Option, Some, None}
use Rattle.oer_units.specs.Spelling.{IsCounted, IsJoined}
use Rattle.oer_units.specs.declared.tagging.Tag.{Tag}
use Rattle.oer_units.proofs.Closure.{is_one}
use Rattle.oer_model.proofs.reading.Main.{value_lawful}
use Rattle.oer_model.specs.LeafType as kind
use Rattle.oer_model.specs.LeafType.{LeafType}
use Rattle.oer_model.specs.AsnType.{Additions, Alternatives, AsnType, Fields, Need, addition, alternative, boolean, choice, default, extensible_sequence, field, later, leaf, may, must, no_additions, no_alternatives, no_fields, sequence, sequence_of}
use Rattle.oer_model.specs.AsnValue.{Unknown, AsnValue, Places}
use Rattle.oer_model.specs.Bits.{bits_of, first_bit, later_bits, octets_for, IsBits}
use Rattle.oer_model.specs.Constraints.{same_tag, fixed, addition_count, KeepsLimits, any_size}
use Rattle.oer_model.specs.Encoding.{ByBit, ByNeed, ByTag, IsItself, IsLeafSpelling, IsPresent, IsSpelling, SpellsAdditions, SpellsAlternative, SpellsBits, SpellsExtension, SpellsFields, SpellsUnknown}
use Rattle.oer_model.specs.Filling.{filled}
use Rattle.oer_model.specs.Strict.{IsStrictLeafSpelling, IsStrictSpelling, SpellsAdditionsStrictly, SpellsAlternativeStrictly, SpellsFieldsStrictly, StrictBitString, StrictBits, StrictCounted, StrictExtension, StrictNeed}
use Rattle.oer_model.specs.declared.size.Size.{Size}

-- what is spelt by the one is spelt by the other
abbrev Within : {A : Type 0} → (A → List ℕ → Type 0) → (A → List ℕ → Type 0) → Type 0
Within {A} S S' = (x : A) (b : List ℕ) → S x b → S' x b

pub counted_within : {A : Type 0} (S S' : A → List ℕ → Type 0) → Within S S' → Within (StrictCounted S) (IsCounted S')
counted_within S S' f x b (l, c, e, (o, len, short), s) = (l, c, e, len, f x c s)

present_within : (S S' : AsnValue → List ℕ → Type 0) (R R' : Places → List ℕ → Type 0) → Within S S' → Within R R' → Within (IsPresent S R) (IsPresent S' R')
present_within S S' R R' f g ps b (v, rest, b1, b2, is, e, s, r) = (v, rest, b1, b2, is, e, f v b1 s, g rest b2 r)

pub bit_within : (x : Bool) (S S' : AsnValue → List ℕ → Type 0) (R R' : Places → List ℕ → Type 0) → Within S S' → Within R R' → Within (ByBit x S R) (ByBit x S' R')
bit_within true S S' R R' f g = present_within S S' R R' f g
bit_within false S S' R R' f g = λ ps b (rest, is, r). (rest, is, g rest b r)

need_within : (need : Need) (h : AsnValue → AsnValue) (S S' : AsnValue → List ℕ → Type 0) (R R' : List Bool → Places → List ℕ → Type 0) → Within S S' → ((s : List Bool) → Within (R s) (R' s)) → (s : List Bool) → Within (StrictNeed need h S R s) (ByNeed need S' R' s)
need_within must h S S' R R' f g s = present_within S S' (R s) (R' s) f (g s)
need_within may h S S' R R' f g s = bit_within (first_bit s) S S' (R (later_bits s)) (R' (later_bits s)) f (g (later_bits s))
need_within (default d) h S S' R R' f g s = bit_within (first_bit s) (λ v c. S v c × (h v ≡ h d → ⊥)) S' (R (later_bits s)) (R' (later_bits s)) (λ v b p. f v b p.0) (g (later_bits s))

tag_within : (same : Bool) (S S' R R' : AsnValue → List ℕ → Type 0) → Within S S' → Within R R' → Within (ByTag same S R) (ByTag same S' R')
tag_within true S S' R R' f g = f
tag_within false S S' R R' f g = g

every_within : {A : Type 0} (S S' : A → List ℕ → Type 0) → Within S S' → Within (IsJoined S) (IsJoined S')
every_within S S' f [] b e = e
every_within S S' f (x ∷ xs) b (b1, b2, e, s, r) = (b1, b2, e, f x b1 s, every_within S S' f xs b2 r)

pub bits_within : Within StrictBits IsBits
bits_within s c (o, (u, d, padding, e, low, none, n, zeros, is)) =
    (u, d, e, low, none, sym (ap (take (length (bits_of d) - u)) is ∙ take_at s padding (length (bits_of d) - u) (omega (arith, ap length is, length-append s padding))))

pub bit_string_within : (fix : Option ℕ) (size : Size) → Within (StrictBitString fix size) (SpellsBits fix size)
bit_string_within (Some n) size s b (i, (o, (padding, k, is, zeros))) = (k ∙ ap octets_for i, sym (ap (take n) is ∙ take_at s padding n i))
bit_string_within None size s b (fits, (l, c, e, (o, len, short), x)) = (l, c, e, len, (bits_within s c x, fits))

pub itself_within : Within IsItself IsItself
itself_within w c e = e

pub unknown_within : (n : ℕ) (s : List Bool) → Within (SpellsUnknown (StrictCounted IsItself) n s) (SpellsUnknown (IsCounted IsItself) n s)
unknown_within n [] us b p = p
unknown_within n (true ∷ s) us b (w, rest, b1, b2, is, e, k, r) = (w, rest, b1, b2, is, e, counted_within IsItself IsItself itself_within w b1 k, unknown_within (suc n) s rest b2 r)
unknown_within n (false ∷ s) us b p = unknown_within (suc n) s us b p

-- of the bits only the first count, one for each known addition
pub longer_bitmap : (more : Additions) (s z : List Bool) → length s ≡ addition_count more → Within (SpellsAdditions more s) (SpellsAdditions more (s ++ z))
longer_bitmap no_additions s z i ps b p = p
longer_bitmap (addition name T more) [] z i ps b p = absurd (omega arith)
longer_bitmap (addition name T more) (x ∷ s) z i ps b p = bit_within x (IsCounted (IsSpelling T)) (IsCounted (IsSpelling T)) (SpellsAdditions more s) (SpellsAdditions more (s ++ z)) (λ v b p. p) (longer_bitmap more s z (omega arith)) ps b p

pub extension_within : (x : Bool) (more : Additions) (S : List Bool → Places → List ℕ → Type 0) → ((s : List Bool) → Within (S s) (SpellsAdditions more s)) → (ps : Places) (us : List Unknown) (b : List ℕ) → StrictExtension x more S ps us b → SpellsExtension x more (SpellsAdditions more) ps us b
extension_within false more S f ps us b p = p
extension_within true more S f ps us b (s, z, m, a, u, e, k, i, len, some, low, x, r) =
    (s ++ z, m, a, u, e, bit_string_within None any_size (s ++ z) m k, low, longer_bitmap more s z i ps a (f s ps a x), unknown_within (addition_count more) (drop (addition_count more) (s ++ z)) us u (subst (λ z. SpellsUnknown (StrictCounted IsItself) (addition_count more) z us u) (sym (drop_at s z (addition_count more) i)) r))

boolean_within : Within (IsStrictSpelling boolean) (IsSpelling boolean)
boolean_within v b (true, is, e) = (255, e, is)
boolean_within v b (false, is, e) = (0, e, is)

leaf_within : (kind : LeafType) → Within (IsStrictLeafSpelling kind) (IsLeafSpelling kind)
leaf_within kind.boolean v b s = boolean_within v b s
leaf_within kind.null v b s = s
leaf_within (kind.bit_string size) v b (s, is, x) = (s, is, bit_string_within (fixed size) size s b x)
leaf_within kind v b s = s.1

mutual
  pub strict_within : (T : AsnType) → Within (IsStrictSpelling T) (IsSpelling T)
  strict_within (leaf kind) v b s = leaf_within kind v b s
  strict_within (sequence fs) v b (root, s, p, r, is, e, i, (o, pre), x) = (root, s, p, r, is, e, i, pre, fields_within fs s root r x)
  strict_within (extensible_sequence fs more) v b (root, added, us, x, s, p, r, a, is, e, i, (o, pre), f, ext) =
      (root, added, us, x, s, p, r, a, is, e, i, pre, fields_within fs s root r f, extension_within x more (SpellsAdditionsStrictly more) (adds_within more) added us a ext)
  strict_within (sequence_of size T) v b (vs, q, es, is, e, (o, k, short), fits, x) = (vs, q, es, is, e, k, fits, every_within (IsStrictSpelling T) (IsSpelling T) (strict_within T) vs es x)
  strict_within (choice extensible more) v b (t, p, c, e, tag, inl (x, is, k)) = (t, p, c, e, tag, inl (x, is, alts_within more t x c k))
  strict_within (choice extensible more) v b (t, p, c, e, tag, inr (w, is, o, none, k)) = (t, p, c, e, tag, inr (w, is, o, none, counted_within IsItself IsItself itself_within w c k))

  pub fields_within : (fs : Fields) (s : List Bool) → Within (SpellsFieldsStrictly fs s) (SpellsFields fs s)
  fields_within no_fields s ps b x = x
  fields_within (field name need T fs) s ps b x = need_within need (filled T) (IsStrictSpelling T) (IsSpelling T) (SpellsFieldsStrictly fs) (SpellsFields fs) (strict_within T) (fields_within fs) s ps b x

  pub adds_within : (more : Additions) (s : List Bool) → Within (SpellsAdditionsStrictly more s) (SpellsAdditions more s)
  adds_within no_additions s ps b x = x
  adds_within (addition name T more) s ps b x = bit_within (first_bit s) (StrictCounted (IsStrictSpelling T)) (IsCounted (IsSpelling T)) (SpellsAdditionsStrictly more (later_bits s)) (SpellsAdditions more (later_bits s)) (counted_within (IsStrictSpelling T) (IsSpelling T) (strict_within T)) (adds_within more (later_bits s)) ps b x

  pub alts_within : (more : Alternatives) (t : Tag) → Within (SpellsAlternativeStrictly more t) (SpellsAlternative more t)
  alts_within no_alternatives t v b x = x
  alts_within (alternative name u T more) t v b x = tag_within (same_tag u t) (IsStrictSpelling T) (IsSpelling T) (SpellsAlternativeStrictly more t) (SpellsAlternative more t) (strict_within T) (alts_within more t) v b x
  alts_within (later name u T more) t v b x = tag_within (same_tag u t) (StrictCounted (IsStrictSpelling T)) (IsCounted (IsSpelling T)) (SpellsAlternativeStrictly more t) (SpellsAlternative more t) (counted_within (IsStrictSpelling T) (IsSpelling T) (strict_within T)) (alts_within more t) v b x

-- a value with the same fill as v has the strict spelling b
abbrev pub HasCanonicalForm : AsnType → AsnValue → List ℕ → Type 0
HasCanonicalForm T v b = (w : AsnValue) × (filled T w ≡ filled T v) × IsStrictSpelling T w b

-- Canonical octets are those of just the values with the same fill.
pub canon_tells : (T : AsnType) → KeepsLimits T → (v w : AsnValue) (b : List ℕ) → HasCanonicalForm T v b → HasCanonicalForm T w b → filled T v ≡ filled T w
canon_tells T wf v w b (x, e, s) (y, f, t) =
    let one = is_one (value_lawful T wf) x y b b [] [] (strict_within T x b s) (strict_within T y b t) refl in
    sym e ∙ ap (filled T) one.0 ∙ f

pub canon_shared : (T : AsnType) (v w : AsnValue) (b : List ℕ) → filled T v ≡ filled T w → HasCanonicalForm T v b → HasCanonicalForm T w b
canon_shared T v w b e (x, f, s) = (x, f ∙ e, s)

pub canon_encodes : (T : AsnType) (v : AsnValue) (b : List ℕ) → HasCanonicalForm T v b → (w : AsnValue) × IsSpelling T w b × HasCanonicalForm T w b × (filled T w ≡ filled T v)
canon_encodes T v b (w, e, s) = (w, strict_within T w b s, (w, refl, s), e)
