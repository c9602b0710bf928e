-- What has an encoding fits its type.
use Rattle.std.proofs.Common.{◌≡◌, ℕ, zero, suc, ◌+◌, ◌-◌, ◌≤◌, drop, inl, inr, List, [], ◌∷◌, ◌++◌, length, Bool, true, false, Option, Some, None, refl, ap, sym, ◌∙◌, subst, arith, length-take-le}
use Rattle.std.proofs.lemmas.List.{drop-drop}
use Rattle.oer_units.specs.Octets.{IsOctets}
use Rattle.oer_units.specs.Spelling.{IsCounted, IsJoined, IsTag}
use Rattle.oer_units.specs.declared.tagging.Tag.{Tag}
use Rattle.oer_units.proofs.OneSpelling.{octets_split}
use Rattle.oer_model.proofs.reading.Parts.{fixed_fits, length-bits_of}
use Rattle.oer_model.proofs.fitting.Contents.{sized_fit}
use Rattle.oer_model.specs.LeafType as kind
use Rattle.oer_model.specs.LeafType.{LeafType}
use Rattle.oer_model.specs.AsnType.{Additions, Alternatives, AsnType, Fields, Need, addition, alternative, choice, default, extensible_sequence, field, later, leaf, may, must, no_additions, no_alternatives, no_fields, sequence, sequence_of}
use Rattle.oer_model.specs.AsnValue.{Unknown, unknown, AsnValue, Places}
use Rattle.oer_model.specs.Bits.{bits_of, octets_for, first_bit, later_bits, all_false}
use Rattle.oer_units.specs.Laws.{HasTagNumber}
use Rattle.oer_model.specs.Constraints.{addition_count, same_tag, HasSizeLimit, size_fits, fixed, KeepsLimits, FieldsKeepLimits, AdditionsKeepLimits, AlternativesKeepLimits}
use Rattle.oer_model.specs.Contents.{fixed_content}
use Rattle.oer_model.specs.Encoding.{ByBit, ByNeed, ByTag, IsItself, IsLeafSpelling, IsPresent, IsSpelling, SpellsAdditions, SpellsAlternative, SpellsBits, SpellsExtension, SpellsFields, SpellsUnknown}
use Rattle.oer_model.specs.Fits.{AllFit, Fits, FitsAdditions, FitsAlternative, FitsByTag, FitsFields, FitsLeaf, FitsPlace, FitsUnknown, IsThere, all_absent}
use Rattle.oer_model.specs.declared.size.Size.{Size}

bits_fit : (fix : Option ℕ) (size : Size) (s : List Bool) (b : List ℕ) → fixed size ≡ fix → HasSizeLimit size → SpellsBits fix size s b → size_fits size (length s) ≡ true
unfolding octets_for
bits_fit (Some n) size s b e small (f, g) =
    let many : length s ≡ n = ap length g ∙ length-take-le n (bits_of b) (omega (arith, length-bits_of b)) in
    fixed_fits size.low size.high (length s) (e ∙ ap (λ n. Some n) (sym many)) small
bits_fit None size s b e small (l, c, f, len, (is, ok)) = ok

-- what S spells in octets has P
abbrev AlwaysFits : {A : Type 0} → (A → List ℕ → Type 0) → (A → Type 0) → Type 0
AlwaysFits {A} S P = (x : A) (b : List ℕ) → IsOctets b → S x b → P x

counted_fits : (S : AsnValue → List ℕ → Type 0) (P : AsnValue → Type 0) → AlwaysFits S P → AlwaysFits (IsCounted S) P
counted_fits S P f v b o (l, c, e, len, s) = f v c (octets_split l c (subst IsOctets e o)).1 s

there_fits : (S : AsnValue → List ℕ → Type 0) (P : AsnValue → Type 0) (R : Places → List ℕ → Type 0) (Q : Places → Type 0) → AlwaysFits S P → AlwaysFits R Q → AlwaysFits (IsPresent S R) (IsThere P Q)
there_fits S P R Q f g ps b o (v, rest, b1, b2, is, e, s, r) =
    let parts = octets_split b1 b2 (subst IsOctets e o) in
    (v, rest, is, f v b1 parts.0 s, g rest b2 parts.1 r)

bit_fits : (x : Bool) (S : AsnValue → List ℕ → Type 0) (P : AsnValue → Type 0) (R : Places → List ℕ → Type 0) (Q : Places → Type 0) → AlwaysFits S P → AlwaysFits R Q → AlwaysFits (ByBit x S R) (FitsPlace may P Q)
bit_fits true S P R Q f g ps b o s = inl (there_fits S P R Q f g ps b o s)
bit_fits false S P R Q f g ps b o (rest, is, r) = inr (rest, is, g rest b o r)

need_fits : (need : Need) (S : AsnValue → List ℕ → Type 0) (P : AsnValue → Type 0) (R : List Bool → Places → List ℕ → Type 0) (Q : Places → Type 0) → AlwaysFits S P → ((s : List Bool) → AlwaysFits (R s) Q) → (s : List Bool) → AlwaysFits (ByNeed need S R s) (FitsPlace need P Q)
need_fits must S P R Q f g s = there_fits S P (R s) Q f (g s)
need_fits may S P R Q f g s = bit_fits (first_bit s) S P (R (later_bits s)) Q f (g (later_bits s))
need_fits (default d) S P R Q f g s = bit_fits (first_bit s) S P (R (later_bits s)) Q f (g (later_bits s))

tag_fits : (same : Bool) (S R : AsnValue → List ℕ → Type 0) (P Q : AsnValue → Type 0) → AlwaysFits S P → AlwaysFits R Q → AlwaysFits (ByTag same S R) (FitsByTag same P Q)
tag_fits true S R P Q f g = f
tag_fits false S R P Q f g = g

every_fits : (S : AsnValue → List ℕ → Type 0) (P : AsnValue → Type 0) → AlwaysFits S P → AlwaysFits (IsJoined S) (AllFit P)
every_fits S P f [] b o e = tt
every_fits S P f (v ∷ vs) b o (b1, b2, e, s, r) =
    let parts = octets_split b1 b2 (subst IsOctets e o) in
    (f v b1 parts.0 s, every_fits S P f vs b2 parts.1 r)

absent_fit : (more : Additions) → FitsAdditions more (all_absent more)
absent_fit no_additions = refl
absent_fit (addition name T more) = inr (all_absent more, refl, absent_fit more)

itself_fits : (w c : List ℕ) → IsOctets c → IsCounted IsItself w c → IsOctets w
itself_fits w c o (l, d, e, len, is) = subst IsOctets is (octets_split l d (subst IsOctets e o)).1

-- a set bit has a place below m, where all from there on are 0
place_below : (m : ℕ) (s : List Bool) → all_false (drop m (true ∷ s)) ≡ true → 1 ≤ m
place_below zero s e = absurd (cc)
place_below (suc m) s e = omega arith

lower : (n : ℕ) (us : List Unknown) → FitsUnknown (suc n) us → FitsUnknown n us
lower n [] f = tt
lower n (unknown p w ∷ us) (a, b, c, d) = (omega arith, b, c, d)

none_fits : (n : ℕ) (s : List Bool) → all_false s ≡ true → (us : List Unknown) (b : List ℕ) → SpellsUnknown (IsCounted IsItself) n s us b → FitsUnknown n us
none_fits n [] zeros us b (is, e) = subst (FitsUnknown n) (sym is) tt
none_fits n (true ∷ s) zeros us b p = absurd (cc)
none_fits n (false ∷ s) zeros us b p = lower n us (none_fits (suc n) s zeros us b p)

unknown_fits : (n m : ℕ) (s : List Bool) → n + m ≡ 65536 → all_false (drop m s) ≡ true → AlwaysFits (SpellsUnknown (IsCounted IsItself) n s) (FitsUnknown n)
unknown_fits n m [] k zeros us b o (is, e) = subst (FitsUnknown n) (sym is) tt
unknown_fits n zero (true ∷ s) k zeros us b o p = absurd (cc)
unknown_fits n (suc m) (true ∷ s) k zeros us b o (w, rest, b1, b2, is, e, x, r) =
    let parts = octets_split b1 b2 (subst IsOctets e o) in
    subst (FitsUnknown n) (sym is) (omega arith, omega arith, itself_fits w b1 parts.0 x, unknown_fits (suc n) m s (omega arith) zeros rest b2 parts.1 r)
unknown_fits n zero (false ∷ s) k zeros us b o p = lower n us (none_fits (suc n) s zeros us b p)
unknown_fits n (suc m) (false ∷ s) k zeros us b o p = lower n us (unknown_fits (suc n) m s (omega arith) zeros us b o p)

pub tag_is : (t : Tag) (p : List ℕ) → IsTag t p → HasTagNumber t
tag_is t p (inl (e, small)) = omega arith
tag_is t p (inr (w, e, big, small, digits)) = small

extension_fits : (x : Bool) (more : Additions) → addition_count more ≤ 65536 → ((s : List Bool) → AlwaysFits (SpellsAdditions more s) (FitsAdditions more)) → (ps : Places) (us : List Unknown) (b : List ℕ) → IsOctets b → SpellsExtension x more (SpellsAdditions more) ps us b → FitsAdditions more ps × FitsUnknown (addition_count more) us
extension_fits false more few f ps us b o (is, none, e) = (subst (FitsAdditions more) (sym is) (absent_fit more), subst (FitsUnknown (addition_count more)) (sym none) tt)
extension_fits true more few f ps us b o (s, m, a, u, e, k, zeros, x, r) =
    let parts = octets_split a u (octets_split m (a ++ u) (subst IsOctets e o)).1 in
    (f s ps a parts.0 x, unknown_fits (addition_count more) (65536 - addition_count more) (drop (addition_count more) s) (omega arith) (ap all_false (drop-drop (65536 - addition_count more) (addition_count more) s) ∙ ap (λ n. all_false (drop n s)) (let whole : addition_count more + (65536 - addition_count more) ≡ 65536 = omega arith in whole) ∙ zeros) us u parts.1 r)

leaf_fits : (kind : LeafType) → KeepsLimits (leaf kind) → AlwaysFits (IsLeafSpelling kind) (FitsLeaf kind)
leaf_fits kind.boolean wf v b o (x, e, is) = (_, is)
leaf_fits kind.null wf v b o (is, e) = is
leaf_fits (kind.integer low high) wf v b o (z, is, ok, s) = (z, is, ok)
leaf_fits (kind.enumerated numbers extensible) wf v b o (z, is, ok, known, s) = (z, is, ok, known)
leaf_fits (kind.bit_string size) wf v b o (s, is, x) = (s, is, bits_fit (fixed size) size s b refl wf x)
leaf_fits (kind.content inner) wf v b o (w, is, s) = (w, is, sized_fit (fixed_content inner) inner w b o s)

mutual
  pub enc_fits : (T : AsnType) → KeepsLimits T → AlwaysFits (IsSpelling T) (Fits T)
  enc_fits (leaf kind) wf v b o s = leaf_fits kind wf v b o s
  enc_fits (sequence fs) wf v b o (root, s, p, r, is, e, i, pre, x) = (root, is, fields_fit fs wf s root r (octets_split p r (subst IsOctets e o)).1 x)
  enc_fits (extensible_sequence fs more) wf v b o (root, added, us, x, s, p, r, a, is, e, i, pre, f, ext) =
      let parts = octets_split r a (octets_split p (r ++ a) (subst IsOctets e o)).1 in
      let both = extension_fits x more wf.2 (adds_fit more wf.1) added us a parts.1 ext in
      (root, added, us, is, fields_fit fs wf.0 s root r parts.0 f, both.0, both.1)
  enc_fits (sequence_of size T) wf v b o (vs, q, es, is, e, k, fits, x) = (vs, is, fits, every_fits (IsSpelling T) (Fits T) (enc_fits T wf.1) vs es (octets_split q es (subst IsOctets e o)).1 x)
  enc_fits (choice extensible more) wf v b o (t, p, c, e, tag, inl (x, is, k)) = inl (t, x, is, alts_fit more wf t x c (octets_split p c (subst IsOctets e o)).1 k)
  enc_fits (choice extensible more) wf v b o (t, p, c, e, tag, inr (w, is, may_be, none, k)) = inr (t, w, is, may_be, none, tag_is t p tag, itself_fits w c (octets_split p c (subst IsOctets e o)).1 k)

  fields_fit : (fs : Fields) → FieldsKeepLimits fs → (s : List Bool) → AlwaysFits (SpellsFields fs s) (FitsFields fs)
  fields_fit no_fields wf s ps b o (is, e) = is
  fields_fit (field name need T fs) wf s ps b o x = need_fits need (IsSpelling T) (Fits T) (SpellsFields fs) (FitsFields fs) (enc_fits T wf.0) (fields_fit fs wf.1) s ps b o x

  adds_fit : (more : Additions) → AdditionsKeepLimits more → (s : List Bool) → AlwaysFits (SpellsAdditions more s) (FitsAdditions more)
  adds_fit no_additions wf s ps b o (is, e) = is
  adds_fit (addition name T more) wf s ps b o x = bit_fits (first_bit s) (IsCounted (IsSpelling T)) (Fits T) (SpellsAdditions more (later_bits s)) (FitsAdditions more) (counted_fits (IsSpelling T) (Fits T) (enc_fits T wf.0)) (adds_fit more wf.1 (later_bits s)) ps b o x

  alts_fit : (more : Alternatives) → AlternativesKeepLimits more → (t : Tag) → AlwaysFits (SpellsAlternative more t) (FitsAlternative more t)
  alts_fit no_alternatives wf t v b o x = x
  alts_fit (alternative name u T more) wf t v b o x = tag_fits (same_tag u t) (IsSpelling T) (SpellsAlternative more t) (Fits T) (FitsAlternative more t) (enc_fits T wf.0) (alts_fit more wf.1 t) v b o x
  alts_fit (later name u T more) wf t v b o x = tag_fits (same_tag u t) (IsCounted (IsSpelling T)) (SpellsAlternative more t) (Fits T) (FitsAlternative more t) (counted_fits (IsSpelling T) (Fits T) (enc_fits T wf.0)) (alts_fit more wf.1 t) v b o x
