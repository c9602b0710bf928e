-- A value has no more octets than its encoding.
use Rattle.std.proofs.Common.{◌≡◌, ℕ, inl, inr, ◌+◌, ◌-◌, ◌≤◌, List, [], ◌∷◌, ◌++◌, length, drop, Bool, true, false, Option, Some, None, refl, ap, ◌∙◌, arith, length-append, length-take-le}
use Rattle.oer_units.specs.Spelling.{IsCounted, IsJoined}
use Rattle.oer_units.specs.declared.tagging.Tag.{Tag}
use Rattle.oer_model.proofs.fitting.Contents.{content_long, content_payload}
use Rattle.oer_model.proofs.reading.Parts.{length-bits_of}
use Rattle.oer_model.proofs.reading.Sizes.{unknown_long, counted_octets_long}
use Rattle.oer_model.specs.LeafType as kind
use Rattle.oer_model.specs.LeafType.{LeafType}
use Rattle.oer_model.specs.AsnType.{Additions, Alternatives, AsnType, Fields, Need, addition, alternative, choice, default, extensible_sequence, field, later, leaf, may, must, no_additions, no_alternatives, no_fields, sequence, sequence_of}
use Rattle.oer_model.specs.AsnValue.{Unknown, AsnValue, Places}
use Rattle.oer_model.specs.Bits.{bits_of, octets_for, first_bit, later_bits}
use Rattle.oer_model.specs.Constraints.{same_tag, fixed, addition_count}
use Rattle.oer_model.specs.Encoding.{ByBit, ByNeed, ByTag, IsLeafSpelling, IsPresent, IsSpelling, SpellsAdditions, SpellsAlternative, SpellsBits, SpellsExtension, SpellsFields}
use Rattle.oer_model.specs.Fits.{listed, all_absent}
use Rattle.oer_model.specs.Nodes.{contents, payload, values_payload, places_payload}
use Rattle.oer_model.specs.declared.size.Size.{Size}

-- what f counts is no more than the octets
abbrev Paid : {A : Type 0} → (A → ℕ) → (A → List ℕ → Type 0) → Type 0
Paid {A} f S = (v : A) (b : List ℕ) → S v b → f v ≤ length b

counted_paid : {A : Type 0} (f : A → ℕ) (S : A → List ℕ → Type 0) → Paid f S → Paid f (IsCounted S)
counted_paid f S p v b (l, c, e, len, s) = omega (arith, ap length e, length-append l c, p v c s)

present_paid : (S : AsnValue → List ℕ → Type 0) (Rest : Places → List ℕ → Type 0) → Paid payload S → Paid places_payload Rest → Paid places_payload (IsPresent S Rest)
present_paid S Rest f g ps b (v, rest, b1, b2, is, e, s, r) = omega (arith, ap places_payload is, ap length e, length-append b1 b2, f v b1 s, g rest b2 r)

bit_paid : (x : Bool) (S : AsnValue → List ℕ → Type 0) (Rest : Places → List ℕ → Type 0) → Paid payload S → Paid places_payload Rest → Paid places_payload (ByBit x S Rest)
bit_paid true S Rest f g ps b s = present_paid S Rest f g ps b s
bit_paid false S Rest f g ps b (rest, is, r) = omega (arith, ap places_payload is, g rest b r)

need_paid : (need : Need) (S : AsnValue → List ℕ → Type 0) (Rest : List Bool → Places → List ℕ → Type 0) → Paid payload S → ((s : List Bool) → Paid places_payload (Rest s)) → (s : List Bool) → Paid places_payload (ByNeed need S Rest s)
need_paid must S Rest f g s = present_paid S (Rest s) f (g s)
need_paid may S Rest f g s = bit_paid (first_bit s) S (Rest (later_bits s)) f (g (later_bits s))
need_paid (default d) S Rest f g s = bit_paid (first_bit s) S (Rest (later_bits s)) f (g (later_bits s))

tag_paid : (same : Bool) (S Rest : AsnValue → List ℕ → Type 0) → Paid payload S → Paid payload Rest → Paid payload (ByTag same S Rest)
tag_paid true S Rest f g = f
tag_paid false S Rest f g = g

every_paid : (S : AsnValue → List ℕ → Type 0) → Paid payload S → (vs : List AsnValue) (b : List ℕ) → IsJoined S vs b → values_payload (listed vs) ≤ length b
every_paid S f [] b e = omega arith
every_paid S f (v ∷ vs) b (b1, b2, e, s, r) = omega (arith, ap length e, length-append b1 b2, f v b1 s, every_paid S f vs b2 r)

abbrev bits_payload : List Bool → ℕ
bits_payload s = octets_for (length s)

bits_paid : (fix : Option ℕ) (size : Size) → Paid bits_payload (SpellsBits fix size)
unfolding octets_for
bits_paid (Some n) size s b (e, is) =
    let many : length s ≡ n = ap length is ∙ length-take-le n (bits_of b) (omega (arith, length-bits_of b)) in
    omega (arith, e)
bits_paid None size s b (l, c, e, len, ((u, d, f, low, none, is), ok)) =
    let many : length s ≡ length (bits_of d) - u = ap length is ∙ length-take-le (length (bits_of d) - u) (bits_of d) (omega arith) in
    omega (arith, length-bits_of d, ap length e, length-append l c, ap length f)

absent_paid : (more : Additions) → places_payload (all_absent more) ≡ 0
absent_paid no_additions = refl
absent_paid (addition name T more) = absent_paid more

extension_paid : (x : Bool) (more : Additions) (S : List Bool → Places → List ℕ → Type 0) → ((s : List Bool) → Paid places_payload (S s)) → (ps : Places) (us : List Unknown) (b : List ℕ) → SpellsExtension x more S ps us b → places_payload ps + contents us ≤ length b
extension_paid false more S f ps us b (is, none, e) = omega (arith, ap places_payload is, ap contents none, absent_paid more)
extension_paid true more S f ps us b (s, k, a, u, e, j, zeros, x, r) =
    let whole : length b ≡ length k + (length a + length u) = omega (arith, ap length e, length-append k (a ++ u), length-append a u) in
    omega (arith, f s ps a x, unknown_long (addition_count more) (drop (addition_count more) s) us u r)

leaf_paid : (kind : LeafType) → Paid payload (IsLeafSpelling kind)
leaf_paid kind.boolean v b (x, e, is) = omega (arith, ap payload is)
leaf_paid kind.null v b (is, e) = omega (arith, ap payload is)
leaf_paid (kind.integer low high) v b (z, is, ok, s) = omega (arith, ap payload is)
leaf_paid (kind.enumerated numbers extensible) v b (z, is, ok, l, s) = omega (arith, ap payload is)
leaf_paid (kind.bit_string size) v b (s, is, x) = omega (arith, ap payload is, bits_paid (fixed size) size s b x)
leaf_paid (kind.content inner) v b (w, is, x) = omega (arith, ap payload is, content_payload inner w, content_long inner w b x)

mutual
  pub value_paid : (T : AsnType) → Paid payload (IsSpelling T)
  value_paid (leaf kind) v b s = leaf_paid kind v b s
  value_paid (sequence fs) v b (root, s, p, r, is, e, i, pre, x) = omega (arith, ap payload is, ap length e, length-append p r, fields_paid fs s root r x)
  value_paid (extensible_sequence fs more) v b (root, added, us, x, s, p, r, a, is, e, i, pre, f, ext) =
      omega (arith, ap payload is, ap length e, length-append p (r ++ a), length-append r a, fields_paid fs s root r f, extension_paid x more (SpellsAdditions more) (adds_paid more) added us a ext)
  value_paid (sequence_of size T) v b (vs, q, es, is, e, k, ok, x) = omega (arith, ap payload is, ap length e, length-append q es, every_paid (IsSpelling T) (value_paid T) vs es x)
  value_paid (choice extensible more) v b (t, p, c, e, tag, inl (x, is, k)) = omega (arith, ap payload is, ap length e, length-append p c, alts_paid more t x c k)
  value_paid (choice extensible more) v b (t, p, c, e, tag, inr (x, is, o, none, k)) = omega (arith, ap payload is, ap length e, length-append p c, counted_octets_long x c k)

  fields_paid : (fs : Fields) (s : List Bool) → Paid places_payload (SpellsFields fs s)
  fields_paid no_fields s ps b (is, e) = omega (arith, ap places_payload is)
  fields_paid (field name need T fs) s ps b x = need_paid need (IsSpelling T) (SpellsFields fs) (value_paid T) (fields_paid fs) s ps b x

  adds_paid : (more : Additions) (s : List Bool) → Paid places_payload (SpellsAdditions more s)
  adds_paid no_additions s ps b (is, e) = omega (arith, ap places_payload is)
  adds_paid (addition name T more) s ps b x = bit_paid (first_bit s) (IsCounted (IsSpelling T)) (SpellsAdditions more (later_bits s)) (counted_paid payload (IsSpelling T) (value_paid T)) (adds_paid more (later_bits s)) ps b x

  alts_paid : (more : Alternatives) (t : Tag) → Paid payload (SpellsAlternative more t)
  alts_paid no_alternatives t v b x = absurd x
  alts_paid (alternative name u T more) t v b x = tag_paid (same_tag u t) (IsSpelling T) (SpellsAlternative more t) (value_paid T) (alts_paid more t) v b x
  alts_paid (later name u T more) t v b x = tag_paid (same_tag u t) (IsCounted (IsSpelling T)) (SpellsAlternative more t) (counted_paid payload (IsSpelling T) (value_paid T)) (alts_paid more t) v b x
