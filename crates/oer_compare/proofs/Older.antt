-- What a type encodes that only adds to another is an encoding of that other: what this doesn't know it keeps as octets.
use Rattle.std.proofs.Common.{◌≡◌, ℕ, suc, ◌+◌, ◌⊎◌, inl, inr, ◌||◌, List, [], ◌∷◌, ◌++◌, drop, length, Bool, true, false, refl, ap, sym, ◌∙◌, subst, arith, append_assoc}
use Rattle.oer_units.specs.Numbers.{unsigned}
use Rattle.oer_units.specs.Spelling.{IsCounted, IsJoined, StandsFor}
use Rattle.oer_units.specs.declared.tagging.Tag.{Tag}
use Rattle.oer_model.proofs.canonical.CanonicalForms.{encodes_from}
use Rattle.oer_model.proofs.relaying.Older.{drop_after}
use Rattle.oer_model.specs.LeafType.{LeafType, bit_string, boolean, content, enumerated, integer, null}
use Rattle.oer_model.specs.AsnType.{Additions, Alternatives, AsnType, Fields, Need, addition, alternative, choice, default, extensible_sequence, field, later, leaf, may, must, no_additions, no_alternatives, no_fields, sequence, sequence_of}
use Rattle.oer_model.specs.AsnValue.{AsnValue, Places, Unknown, absent, chosen, foreign, items, no_places, present, seq, unknown}
use Rattle.oer_model.specs.Bits.{first_bit, later_bits}
use Rattle.oer_model.specs.Constraints.{addition_count, has_tag, optional, optional_with, same_tag, size_fits}
use Rattle.oer_model.specs.Encoding.{ByBit, ByNeed, ByTag, IsItself, IsLeafSpelling, IsPresent, IsSpelling, SpellsAdditions, SpellsAlternative, SpellsChosen, SpellsExtension, SpellsFields, SpellsUnknown}
use Rattle.oer_model.specs.Fits.{all_absent, listed}
use Rattle.oer_model.specs.Widths.{AreLater}
use Rattle.oer_model.specs.declared.size.Size.{Size}
use Rattle.oer_compare.specs.Extends.{AdditionsExtend, AlternativesExtend, Extends, ExtendsLeaf, FieldsExtend}
use Rattle.oer_compare.specs.Laws.{ExtendedIsRead}

-- What S spells, S' spells too, of a value of its own.
abbrev pub Becomes : {A B : Type 0} → (A → List ℕ → Type 0) → (B → List ℕ → Type 0) → Type 0
Becomes {A} {B} S S' = (x : A) (b : List ℕ) → S x b → (y : B) × S' y b

abbrev Spelling : Type 1
Spelling = AsnValue → List ℕ → Type 0

abbrev SpellsPlaces : Type 1
SpellsPlaces = Places → List ℕ → Type 0

-- octets that are counted, whatever they spell
abbrev pub Kept : List ℕ → List ℕ → Type 0
Kept w b = IsCounted IsItself w b

pub kept : (S : Spelling) → Becomes S S → Becomes (IsCounted S) Kept
kept S f x b (l, c, e, len, s) = (c, (l, c, e, len, refl))

counted_becomes : (S S' : Spelling) → Becomes S S' → Becomes (IsCounted S) (IsCounted S')
counted_becomes S S' f x b (l, c, e, len, s) = let o = f x c s in (o.0, (l, c, e, len, o.1))

joined_becomes : (S S' : Spelling) → Becomes S S' → (vs : List AsnValue) (b : List ℕ) → IsJoined S vs b
    → (ws : List AsnValue) × (length ws ≡ length vs) × IsJoined S' ws b
joined_becomes S S' f [] b e = ([], refl, e)
joined_becomes S S' f (v ∷ vs) b (b1, b2, e, s, r) =
    let x = f v b1 s in
    let o = joined_becomes S S' f vs b2 r in
    (x.0 ∷ o.0, ap suc o.1, (b1, b2, e, x.1, o.2))

present_becomes : (S S' : Spelling) (R R' : SpellsPlaces) → Becomes S S' → Becomes R R' → Becomes (IsPresent S R) (IsPresent S' R')
present_becomes S S' R R' f g ps b (v, rest, b1, b2, is, e, s, r) =
    let x = f v b1 s in
    let y = g rest b2 r in
    (present x.0 y.0, (x.0, y.0, b1, b2, refl, e, x.1, y.1))

bit_becomes : (bit : Bool) (S S' : Spelling) (R R' : SpellsPlaces) → Becomes S S' → Becomes R R' → Becomes (ByBit bit S R) (ByBit bit S' R')
bit_becomes true S S' R R' f g = present_becomes S S' R R' f g
bit_becomes false S S' R R' f g = λ ps b (rest, is, r). let y = g rest b r in (absent y.0, (y.0, refl, y.1))

need_becomes : (need : Need) (S S' : Spelling) (R R' : List Bool → SpellsPlaces) → Becomes S S'
    → ((s : List Bool) → Becomes (R s) (R' s)) → (s : List Bool) → Becomes (ByNeed need S R s) (ByNeed need S' R' s)
need_becomes must S S' R R' f g s = present_becomes S S' (R s) (R' s) f (g s)
need_becomes may S S' R R' f g s = bit_becomes (first_bit s) S S' (R (later_bits s)) (R' (later_bits s)) f (g (later_bits s))
need_becomes (default d) S S' R R' f g s = bit_becomes (first_bit s) S S' (R (later_bits s)) (R' (later_bits s)) f (g (later_bits s))

leaf_becomes : (k l : LeafType) → ExtendsLeaf k l → Becomes (IsLeafSpelling l) (IsLeafSpelling k)
leaf_becomes (enumerated xs true) l (further, is) v b s = numbered (subst (λ kind. IsLeafSpelling kind v b) is s)
  where
    numbered : IsLeafSpelling (enumerated (xs ++ further) true) v b → (w : AsnValue) × IsLeafSpelling (enumerated xs true) w b
    numbered (z, is, wide, listed, e) = (v, (z, is, wide, refl, e))
leaf_becomes (enumerated xs false) l is v b s = (v, subst (λ kind. IsLeafSpelling kind v b) is s)
leaf_becomes boolean l is v b s = (v, subst (λ kind. IsLeafSpelling kind v b) is s)
leaf_becomes null l is v b s = (v, subst (λ kind. IsLeafSpelling kind v b) is s)
leaf_becomes (integer low high) l is v b s = (v, subst (λ kind. IsLeafSpelling kind v b) is s)
leaf_becomes (bit_string size) l is v b s = (v, subst (λ kind. IsLeafSpelling kind v b) is s)
leaf_becomes (content kind) l is v b s = (v, subst (λ kind. IsLeafSpelling kind v b) is s)

-- ---- additions

abbrev pub Unknowns : ℕ → List Bool → List Unknown → List ℕ → Type 0
Unknowns n z us u = SpellsUnknown Kept n z us u

pub no_bits : (extra : Additions) (m k : ℕ) (us : List Unknown) (u : List ℕ) → Unknowns m [] us u → Unknowns k (drop (addition_count extra) []) us u
no_bits no_additions m k us u p = p
no_bits (addition name T extra) m k us u p = p

pub moved : (n m : ℕ) (z y : List Bool) (us : List Unknown) (u : List ℕ) → n ≡ m → z ≡ y → Unknowns n z us u → Unknowns m y us u
moved n m z y us u p q r = subst (λ x. Unknowns x y us u) p (subst (λ x. Unknowns n x us u) q r)

-- Further additions are unknown to the older type, as those are that both don't know.
further_unknown : (extra : Additions) (n : ℕ) (z : List Bool) (ps : Places) (us : List Unknown) (a u : List ℕ) → SpellsAdditions extra z ps a
    → Unknowns (n + addition_count extra) (drop (addition_count extra) z) us u → (vs : List Unknown) × Unknowns n z vs (a ++ u)
further_unknown no_additions n z ps us a u (is, e) p =
    let same : n + 0 ≡ n = omega arith in
    (us, subst (λ w. Unknowns n z us (w ++ u)) (sym e) (moved (n + 0) n z z us u same refl p))
further_unknown (addition name T extra) n [] ps us a u (rest, is, r) p =
    further_unknown extra (suc n) [] rest us a u r (no_bits extra (n + suc (addition_count extra)) (suc n + addition_count extra) us u p)
further_unknown (addition name T extra) n (true ∷ z) ps us a u (v, rest, b1, b2, is, e, k, r) p =
    let more : n + suc (addition_count extra) ≡ suc n + addition_count extra = omega arith in
    let o = further_unknown extra (suc n) z rest us b2 u r (moved _ _ (drop (addition_count extra) z) _ us u more refl p) in
    let c = kept (IsSpelling T) (λ x b s. (x, s)) v b1 k in
    (unknown n c.0 ∷ o.0, (c.0, o.0, b1, b2 ++ u, refl, ap (λ w. w ++ u) e ∙ append_assoc b1 b2 u, c.1, o.1))
further_unknown (addition name T extra) n (false ∷ z) ps us a u (rest, is, r) p =
    let more : n + suc (addition_count extra) ≡ suc n + addition_count extra = omega arith in
    further_unknown extra (suc n) z rest us a u r (moved _ _ (drop (addition_count extra) z) _ us u more refl p)

-- the octets a of known additions and u of unknown ones, as S has the known ones, so many, from a place on
abbrev Parted : (List Bool → SpellsPlaces) → ℕ → ℕ → List Bool → List ℕ → Type 0
Parted S place count s e = (qs : Places) × (vs : List Unknown) × (b : List ℕ) × (c : List ℕ) × (e ≡ b ++ c) × S s qs b
    × Unknowns (place + count) (drop count s) vs c

bit_parted : (bit : Bool) (C C' : Spelling) (R : SpellsPlaces) (S : List Bool → SpellsPlaces) → Becomes C C' → (place count : ℕ) (s : List Bool) (u : List ℕ)
    → ((ps : Places) (a : List ℕ) → R ps a → Parted S (suc place) count (later_bits s) (a ++ u)) → (ps : Places) (a : List ℕ)
    → ByBit bit C R ps a → (qs : Places) × (vs : List Unknown) × (b : List ℕ) × (c : List ℕ) × (a ++ u ≡ b ++ c) × ByBit bit C' (S (later_bits s)) qs b
    × Unknowns (place + suc count) (drop (suc count) s) vs c
bit_parted true C C' R S f place count s u g ps a (v, rest, b1, b2, is, e, k, r) =
    let x = f v b1 k in
    let o = g rest b2 r in
    let more : suc place + count ≡ place + suc count = omega arith in (
      present x.0 o.0,
      o.1,
      b1 ++ o.2,
      o.3,
      ap (λ w. w ++ u) e ∙ append_assoc b1 b2 u ∙ ap (λ w. b1 ++ w) o.4 ∙ sym (append_assoc b1 o.2 o.3),
      (x.0, o.0, b1, o.2, refl, refl, x.1, o.5),
      moved _ _ _ _ o.1 o.3 more (drop_after count s) o.6,
    )
bit_parted false C C' R S f place count s u g ps a (rest, is, r) =
    let o = g rest a r in
    let more : suc place + count ≡ place + suc count = omega arith in
    (absent o.0, o.1, o.2, o.3, o.4, (o.0, refl, o.5), moved _ _ _ _ o.1 o.3 more (drop_after count s) o.6)

-- what others spells are additions that more knows, and unknown ones
abbrev PartsAdditions : ℕ → Additions → Additions → Type 0
PartsAdditions place more others = (s : List Bool) (ps : Places) (us : List Unknown) (a u : List ℕ) → SpellsAdditions others s ps a
    → Unknowns (place + addition_count others) (drop (addition_count others) s) us u → Parted (SpellsAdditions more) place (addition_count more) s (a ++ u)

extension_becomes : (x : Bool) (more others : Additions) → PartsAdditions 0 more others → (ps : Places) (us : List Unknown) (b : List ℕ) → SpellsExtension x others
    (SpellsAdditions others) ps us b
    → (qs : Places) × (vs : List Unknown) × SpellsExtension x more (SpellsAdditions more) qs vs b
extension_becomes false more others f ps us b (is, none, e) = (all_absent more, [], (refl, refl, e))
extension_becomes true more others f ps us b (s, m, a, u, e, k, low, p, r) =
    let from : addition_count others ≡ 0 + addition_count others = omega arith in
    let back : 0 + addition_count more ≡ addition_count more = omega arith in
    let o = f s ps us a u p (moved _ _ (drop (addition_count others) s) _ us u from refl r) in
    (o.0, o.1, (s, m, o.2, o.3, e ∙ ap (λ w. m ++ w) o.4, k, low, o.5, moved _ _ (drop (addition_count more) s) _ o.1 o.3 back refl o.6))

-- ---- alternatives

-- the alternative is one of the older type, or its octets are counted, and that has a marker
abbrev Older : Bool → Alternatives → Tag → List ℕ → Type 0
Older marker more t c = ((x : AsnValue) × SpellsAlternative more t x c) ⊎ ((marker ≡ true) × (has_tag t more ≡ false) × ((w : List ℕ) × Kept w c))

pub further_kept : (others : Alternatives) → AreLater others → (t : Tag) → Becomes (SpellsAlternative others t) Kept
further_kept no_alternatives l t x c p = absurd p
further_kept (alternative name u T others) l t x c p = absurd l
further_kept (later name u T others) l t x c p = by_tag (same_tag u t) (IsSpelling T) (SpellsAlternative others t) (further_kept others l t) x c p
  where
    by_tag : (same : Bool) (S R : Spelling) → Becomes R Kept → Becomes (ByTag same (IsCounted S) R) Kept
    by_tag true S R g x c p = kept S (λ x b s. (x, s)) x c p
    by_tag false S R g x c p = g x c p

tag_becomes : (marker same other : Bool) (S S' R R' : Spelling) (c : List ℕ) → Becomes S S'
    → ((x : AsnValue) → R x c → ((y : AsnValue) × R' y c) ⊎ ((marker ≡ true) × (other ≡ false) × ((w : List ℕ) × Kept w c)))
    → (x : AsnValue) → ByTag same S R x c → ((y : AsnValue) × ByTag same S' R' y c) ⊎ ((marker ≡ true) × ((same || other) ≡ false) × ((w : List ℕ) × Kept w c))
tag_becomes marker true other S S' R R' c f g x p = inl (f x c p)
tag_becomes marker false other S S' R R' c f g x p = g x p

pub or_false : (a b : Bool) → (a || b) ≡ false → (a ≡ false) × (b ≡ false)
or_false true b e = absurd (cc)
or_false false b e = (refl, e)

pub false_or : (a b : Bool) → a ≡ false → b ≡ false → (a || b) ≡ false
false_or true b e f = e
false_or false b e f = f

pub untagged : (marker : Bool) (more others : Alternatives) → AlternativesExtend marker more others → (t : Tag) → has_tag t others ≡ false → has_tag t more ≡ false
untagged marker no_alternatives others x t e = refl
untagged marker (alternative name u T more) others (X, rest, is, x, y) t e =
    let both = or_false (same_tag u t) (has_tag t rest) (sym (ap (has_tag t) is) ∙ e) in
    false_or (same_tag u t) (has_tag t more) both.0 (untagged marker more rest y t both.1)
untagged marker (later name u T more) others (X, rest, is, x, y) t e =
    let both = or_false (same_tag u t) (has_tag t rest) (sym (ap (has_tag t) is) ∙ e) in
    false_or (same_tag u t) (has_tag t more) both.0 (untagged marker more rest y t both.1)

chosen_becomes : (marker : Bool) (more : Alternatives) (t : Tag) (c : List ℕ) → Older marker more t c → (w : AsnValue) × SpellsChosen marker more (SpellsAlternative more t) t w c
chosen_becomes marker more t c (inl (x, p)) = (chosen t x, inl (x, refl, p))
chosen_becomes marker more t c (inr (may_be, none, (w, p))) = (foreign t w, inr (w, refl, may_be, none, p))

-- ---- types

-- as many components that may be absent
pub same_optional : (fs gs : Fields) → FieldsExtend fs gs → optional gs ≡ optional fs
same_optional no_fields gs is = ap optional is
same_optional (field name need T fs) gs (X, rest, is, x, y) = ap optional is ∙ ap (optional_with need) (same_optional fs rest y)

sequence_becomes : (fs gs : Fields) → optional gs ≡ optional fs → ((s : List Bool) → Becomes (SpellsFields gs s) (SpellsFields fs s))
    → Becomes (IsSpelling (sequence gs)) (IsSpelling (sequence fs))
sequence_becomes fs gs same become v b (root, s, p, r, is, e, count, pre, f) =
    let o = become s root r f in
    (seq o.0 no_places [], (o.0, s, p, r, refl, e, count ∙ same, pre, o.1))

extensible_becomes : (fs gs : Fields) (more others : Additions) → optional gs ≡ optional fs
    → ((s : List Bool) → Becomes (SpellsFields gs s) (SpellsFields fs s)) → PartsAdditions 0 more others
    → Becomes (IsSpelling (extensible_sequence gs others)) (IsSpelling (extensible_sequence fs more))
extensible_becomes fs gs more others same become part v b (root, added, us, bit, s, p, r, ext, is, e, count, pre, f, a) =
    let o = become s root r f in
    let q = extension_becomes bit more others part added us ext a in
    (seq o.0 q.0 q.1, (o.0, q.0, q.1, bit, s, p, r, ext, refl, e, count ∙ same, pre, o.1, q.2))

list_becomes : (size : Size) (T X : AsnType) → Becomes (IsSpelling X) (IsSpelling T)
    → Becomes (IsSpelling (sequence_of size X)) (IsSpelling (sequence_of size T))
list_becomes size T X become v b (vs, q, es, is, e, count, fits, j) =
    let o = joined_becomes (IsSpelling X) (IsSpelling T) become vs es j in
    (items (listed o.0), (o.0, q, es, refl, e, subst (λ n. IsCounted (StandsFor unsigned) n q) (sym o.1) count, subst (λ n. size_fits size n ≡ true) (sym o.1) fits, o.2))

choice_becomes : (marker : Bool) (more others : Alternatives) → ((t : Tag) → has_tag t others ≡ false → has_tag t more ≡ false)
    → ((t : Tag) (c : List ℕ) (x : AsnValue) → SpellsAlternative others t x c → Older marker more t c)
    → Becomes (IsSpelling (choice marker others)) (IsSpelling (choice marker more))
choice_becomes marker more others no_tag become v b (t, p, c, e, tag, inl (w, is, k)) =
    let o = chosen_becomes marker more t c (become t c w k) in
    (o.0, (t, p, c, e, tag, o.1))
choice_becomes marker more others no_tag become v b (t, p, c, e, tag, inr (w, is, may_be, none, k)) =
    (foreign t w, (t, p, c, e, tag, inr (w, refl, may_be, no_tag t none, k)))

mutual
  type_becomes : (T U : AsnType) → Extends T U → Becomes (IsSpelling U) (IsSpelling T)
  type_becomes (leaf k) U (l, is, x) v b s = leaf_becomes k l x v b (subst (λ X. IsSpelling X v b) is s)
  type_becomes (sequence fs) U (gs, is, x) v b s = sequence_becomes fs gs (same_optional fs gs x) (fields_become fs gs x) v b (subst (λ X. IsSpelling X v b) is s)
  type_becomes (extensible_sequence fs more) U (gs, others, is, x, y) v b s = extensible_becomes fs gs more others (same_optional fs gs x) (fields_become fs gs x)
      (additions_become more others y 0) v b (subst (λ X. IsSpelling X v b) is s)
  type_becomes (sequence_of size T) U (X, is, x) v b s = list_becomes size T X (type_becomes T X x) v b (subst (λ X. IsSpelling X v b) is s)
  type_becomes (choice marker more) U (others, is, x) v b s = choice_becomes marker more others (untagged marker more others x) (alternatives_become marker more others x) v b (subst
      (λ X. IsSpelling X v b) is s)

  fields_become : (fs gs : Fields) → FieldsExtend fs gs → (s : List Bool) → Becomes (SpellsFields gs s) (SpellsFields fs s)
  fields_become no_fields gs is s ps b f = (ps, subst (λ hs. SpellsFields hs s ps b) is f)
  fields_become (field name need T fs) gs (X, rest, is, x, y) s ps b f =
      need_becomes need (IsSpelling X) (IsSpelling T) (SpellsFields rest) (SpellsFields fs) (type_becomes T X x) (fields_become fs rest y) s ps b (subst (λ hs. SpellsFields hs s ps b) is f)

  additions_become : (more others : Additions) → AdditionsExtend more others → (place : ℕ) → PartsAdditions place more others
  additions_become no_additions others x place s ps us a u p r =
      let o = further_unknown others place s ps us a u p r in
      let same : place ≡ place + 0 = omega arith in
      (no_places, o.0, [], a ++ u, refl, (refl, refl), moved place (place + 0) s s o.0 (a ++ u) same refl o.1)
  additions_become (addition name T more) others (X, rest, is, x, y) place s ps us a u p r =
      let count : place + addition_count others ≡ suc place + addition_count rest = ap (λ n. place + n) (ap addition_count is) ∙ (let i : place + suc
      (addition_count rest) ≡ suc place + addition_count rest = omega arith in i) in
      let left : drop (addition_count others) s ≡ drop (addition_count rest) (later_bits s) = ap (λ n. drop n s) (ap addition_count is) ∙ sym (drop_after (addition_count rest) s) in
      bit_parted (first_bit s) (IsCounted (IsSpelling X)) (IsCounted (IsSpelling T)) (SpellsAdditions rest (later_bits s)) (SpellsAdditions more) (counted_becomes (IsSpelling X)
      (IsSpelling T) (type_becomes T X x)) place (addition_count more) s u
      (λ qs b q. additions_become more rest y (suc place) (later_bits s) qs us b u q (moved _ _ _ _ us u count left r)) ps a (subst (λ hs. SpellsAdditions hs s ps a) is p)

  alternatives_become : (marker : Bool) (more others : Alternatives) → AlternativesExtend marker more others → (t : Tag) (c : List ℕ) (x : AsnValue)
      → SpellsAlternative others t x c → Older marker more t c
  alternatives_become true no_alternatives others l t c x p = inr (refl, refl, further_kept others l t x c p)
  alternatives_become false no_alternatives others is t c x p = absurd (subst (λ hs. SpellsAlternative hs t x c) is p)
  alternatives_become marker (alternative name u T more) others (X, rest, is, y, z) t c x p =
      tag_becomes marker (same_tag u t) (has_tag t more) (IsSpelling X) (IsSpelling T) (SpellsAlternative rest t) (SpellsAlternative more t) c (type_becomes T X y)
      (alternatives_become marker more rest z t c) x (subst (λ hs. SpellsAlternative hs t x c) is p)
  alternatives_become marker (later name u T more) others (X, rest, is, y, z) t c x p =
      tag_becomes marker (same_tag u t) (has_tag t more) (IsCounted (IsSpelling X)) (IsCounted (IsSpelling T)) (SpellsAlternative rest t) (SpellsAlternative more t) c (counted_becomes
      (IsSpelling X) (IsSpelling T) (type_becomes T X y)) (alternatives_become marker more rest z t c) x (subst (λ hs. SpellsAlternative hs t x c) is p)

pub extended_is_read : ExtendedIsRead
extended_is_read T U x keeps v b (octets, fits, s) = let o = type_becomes T U x v b s in (o.0, encodes_from T keeps o.0 b octets o.1)
