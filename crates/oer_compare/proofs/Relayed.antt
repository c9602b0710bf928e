-- What a type relays that another one only adds to, is the sender's value by that other.
use Rattle.std.proofs.Common.{◌≡◌, ℕ, suc, ◌+◌, ◌<◌, ◌⊎◌, inl, inr, ◌||◌, List, [], ◌∷◌, ◌++◌, drop, length, Bool, true, false, refl, ap, ap₂, sym, ◌∙◌, subst, arith, append_assoc, append-nil}
use Rattle.oer_units.specs.Numbers.{unsigned}
use Rattle.oer_units.specs.Spelling.{IsCounted, IsJoined, IsTag, StandsFor}
use Rattle.oer_units.specs.declared.tagging.Tag.{Tag}
use Rattle.oer_model.proofs.canonical.CanonicalForms.{encodes_from}
use Rattle.oer_model.proofs.canonical.StrictEnc.{strict_within}
use Rattle.oer_model.proofs.reading.Theorems.{one_reading}
use Rattle.oer_model.proofs.relaying.Older.{drop_after}
use Rattle.oer_model.specs.LeafType.{LeafType, bit_string, boolean, content, enumerated, integer, null}
use Rattle.oer_model.specs.AsnType.{Additions, Alternatives, AsnType, Fields, Need, addition, alternative, choice, default, extensible_sequence, field, later, leaf, may, must, no_additions, no_alternatives, no_fields, sequence, sequence_of}
use Rattle.oer_model.specs.AsnValue.{AsnValue, Places, Unknown, Values, absent, chosen, foreign, items, no_places, present, seq, unknown, value}
use Rattle.oer_model.specs.Bits.{first_bit, later_bits}
use Rattle.oer_model.specs.Constraints.{addition_count, has_tag, optional, same_tag, size_fits}
use Rattle.oer_model.specs.Encoding.{ByBit, ByNeed, ByTag, IsAbsent, IsLeafSpelling, IsPresent, IsSpelling, SpellsAdditions, SpellsAlternative, SpellsChosen, SpellsExtension, SpellsFields}
use Rattle.oer_model.specs.Filling.{filled, filled_additions, filled_alternative, filled_by_tag, filled_fields, filled_place, map_values}
use Rattle.oer_model.specs.Fits.{DefaultFits, all_absent, listed}
use Rattle.oer_model.specs.Widths.{AreLater}
use Rattle.oer_model.specs.declared.size.Size.{Size}
use Rattle.oer_nesting.specs.Defaults.{AdditionsHaveLeafDefaults, AlternativesHaveLeafDefaults, FieldsHaveLeafDefaults, HasLeafDefaults, IsLeaf}
use Rattle.oer_compare.proofs.Older.{Kept, Unknowns, moved, no_bits, same_optional, untagged}
use Rattle.oer_compare.specs.Extends.{AdditionsExtend, AlternativesExtend, Extends, ExtendsLeaf, FieldsExtend}
use Rattle.oer_compare.specs.Laws.{ExtendedIsRelayed}

abbrev Spelling : Type 1
Spelling = AsnValue → List ℕ → Type 0

abbrev SpellsPlaces : Type 1
SpellsPlaces = Places → List ℕ → Type 0

-- Of a value x by S, and of what the older type sees of it, y by S': what S' spells of an equal fill, S spells of a fill equal to that of x.
abbrev Back : {A B : Type 0} → (A → List ℕ → Type 0) → (B → List ℕ → Type 0) → (A → A) → (B → B) → A → B → Type 0
Back {A} {B} S S' F F' x y = (y' : B) (c : List ℕ) → F' y' ≡ F' y → S' y' c → (x' : A) × S x' c × (F x' ≡ F x)

abbrev pub Turns : {A B : Type 0} → (A → List ℕ → Type 0) → (B → List ℕ → Type 0) → (A → A) → (B → B) → Type 0
Turns {A} {B} S S' F F' = (x : A) (b : List ℕ) → S x b → (y : B) × S' y b × Back S S' F F' x y

-- the same of components, by presence bits
abbrev BackPlaces : (List Bool → SpellsPlaces) → (List Bool → SpellsPlaces) → (Places → Places) → (Places → Places) → Places → Places → Type 0
BackPlaces R R' G G' ps qs = (s' : List Bool) (ps' : Places) (c : List ℕ) → G' ps' ≡ G' qs → R' s' ps' c → (xs : Places) × R s' xs c × (G xs ≡ G ps)

abbrev pub TurnsPlaces : (List Bool → SpellsPlaces) → (List Bool → SpellsPlaces) → (Places → Places) → (Places → Places) → Type 0
TurnsPlaces R R' G G' = (s : List Bool) (ps : Places) (b : List ℕ) → R s ps b → (qs : Places) × R' s qs b × BackPlaces R R' G G' ps qs

counted_turns : (S S' : Spelling) (F F' : AsnValue → AsnValue) → Turns S S' F F' → Turns (IsCounted S) (IsCounted S') F F'
counted_turns S S' F F' f x b (l, c, e, len, s) =
    let o = f x c s in
    (o.0, (l, c, e, len, o.1), λ y d is (m, g, e', len', s'). let p = o.2 y g is s' in (p.0, (m, g, e', len', p.1), p.2))

-- ---- leaves

leaf_old : (k l : LeafType) → ExtendsLeaf k l → (v : AsnValue) (b : List ℕ) → IsLeafSpelling l v b → IsLeafSpelling k v b
leaf_old (enumerated xs true) l (further, is) v b s = numbered (subst (λ kind. IsLeafSpelling kind v b) is s)
  where
    numbered : IsLeafSpelling (enumerated (xs ++ further) true) v b → IsLeafSpelling (enumerated xs true) v b
    numbered (z, is, wide, listed, e) = (z, is, wide, refl, e)
leaf_old (enumerated xs false) l is v b s = subst (λ kind. IsLeafSpelling kind v b) is s
leaf_old boolean l is v b s = subst (λ kind. IsLeafSpelling kind v b) is s
leaf_old null l is v b s = subst (λ kind. IsLeafSpelling kind v b) is s
leaf_old (integer low high) l is v b s = subst (λ kind. IsLeafSpelling kind v b) is s
leaf_old (bit_string size) l is v b s = subst (λ kind. IsLeafSpelling kind v b) is s
leaf_old (content kind) l is v b s = subst (λ kind. IsLeafSpelling kind v b) is s

leaf_new : (k l : LeafType) → ExtendsLeaf k l → (v : AsnValue) (b : List ℕ) → IsLeafSpelling k v b → IsLeafSpelling l v b
leaf_new (enumerated xs true) l (further, is) v b (z, e, wide, listed, spelt) = subst (λ kind. IsLeafSpelling kind v b) (sym is) (z, e, wide, refl, spelt)
leaf_new (enumerated xs false) l is v b s = subst (λ kind. IsLeafSpelling kind v b) (sym is) s
leaf_new boolean l is v b s = subst (λ kind. IsLeafSpelling kind v b) (sym is) s
leaf_new null l is v b s = subst (λ kind. IsLeafSpelling kind v b) (sym is) s
leaf_new (integer low high) l is v b s = subst (λ kind. IsLeafSpelling kind v b) (sym is) s
leaf_new (bit_string size) l is v b s = subst (λ kind. IsLeafSpelling kind v b) (sym is) s
leaf_new (content kind) l is v b s = subst (λ kind. IsLeafSpelling kind v b) (sym is) s

leaf_turns : (k l : LeafType) → ExtendsLeaf k l → Turns (IsSpelling (leaf l)) (IsSpelling (leaf k)) (filled (leaf l)) (filled (leaf k))
leaf_turns k l x v b s = (v, leaf_old k l x v b s, λ w c e s'. (w, leaf_new k l x w c s', e))

-- ---- components

first_is : (v w : AsnValue) (ps qs : Places) → present v ps ≡ present w qs → v ≡ w
first_is v w ps qs e = cc

rest_is : (v w : AsnValue) (ps qs : Places) → present v ps ≡ present w qs → ps ≡ qs
rest_is v w ps qs e = cc

absent_is : (ps qs : Places) → absent ps ≡ absent qs → ps ≡ qs
absent_is ps qs e = cc

not_both : (v : AsnValue) (ps qs : Places) → present v ps ≡ absent qs → ⊥
not_both v ps qs e = absurd (cc)

module _ (S S' : Spelling) (F F' : AsnValue → AsnValue) (R R' : List Bool → SpellsPlaces) (G G' : Places → Places) where
  back_there : (need : Need) (ps rest qs : Places) (v w : AsnValue) → ps ≡ present v rest → Back S S' F F' v w → BackPlaces R R' G G' rest qs
      → (s' : List Bool) (ps' : Places) (c : List ℕ) → filled_place need F' G' ps' ≡ present (F' w) (G' qs) → IsPresent S' (R' s') ps' c
      → (xs : Places) × IsPresent S (R s') xs c × (filled_place need F G xs ≡ filled_place need F G ps)
  back_there need ps rest qs v w is f g s' ps' c same (v', rest', c1, c2, is', e, k, r) =
      let e' = sym (ap (filled_place need F' G') is') ∙ same in
      let x = f v' c1 (first_is _ _ _ _ e') k in
      let y = g s' rest' c2 (rest_is _ _ _ _ e') r in
      (present x.0 y.0, (x.0, y.0, c1, c2, refl, e, x.1, y.1), ap₂ present x.2 y.2 ∙ sym (ap (filled_place need F G) is))

  back_absent : (ps rest qs : Places) → ps ≡ absent rest → BackPlaces R R' G G' rest qs
      → (s' : List Bool) (ps' : Places) (c : List ℕ) → filled_place may F' G' ps' ≡ absent (G' qs) → IsAbsent (R' s') ps' c
      → (xs : Places) × IsAbsent (R s') xs c × (filled_place may F G xs ≡ filled_place may F G ps)
  back_absent ps rest qs is g s' ps' c same (rest', is', r) =
      let y = g s' rest' c (absent_is _ _ (sym (ap (filled_place may F' G') is') ∙ same)) r in
      (absent y.0, (y.0, refl, y.1), ap absent y.2 ∙ sym (ap (filled_place may F G) is))

  may_there : (ps rest qs : Places) (v w : AsnValue) → ps ≡ present v rest → Back S S' F F' v w → BackPlaces R R' G G' rest qs
      → (bit : Bool) (s' : List Bool) (ps' : Places) (c : List ℕ) → filled_place may F' G' ps' ≡ present (F' w) (G' qs) → ByBit bit S' (R' s') ps' c
      → (xs : Places) × ByBit bit S (R s') xs c × (filled_place may F G xs ≡ filled_place may F G ps)
  may_there ps rest qs v w is f g true s' ps' c same p = back_there may ps rest qs v w is f g s' ps' c same p
  may_there ps rest qs v w is f g false s' ps' c same (rest', is', r) =
      absurd (not_both _ _ _ (sym (sym (ap (filled_place may F' G') is') ∙ same)))

  may_absent : (ps rest qs : Places) → ps ≡ absent rest → BackPlaces R R' G G' rest qs
      → (bit : Bool) (s' : List Bool) (ps' : Places) (c : List ℕ) → filled_place may F' G' ps' ≡ absent (G' qs) → ByBit bit S' (R' s') ps' c
      → (xs : Places) × ByBit bit S (R s') xs c × (filled_place may F G xs ≡ filled_place may F G ps)
  may_absent ps rest qs is g false s' ps' c same p = back_absent ps rest qs is g s' ps' c same p
  may_absent ps rest qs is g true s' ps' c same (v', rest', c1, c2, is', e, k, r) =
      absurd (not_both _ _ _ (sym (ap (filled_place may F' G') is') ∙ same))

  module _ (f : Turns S S' F F') (g : TurnsPlaces R R' G G') where
    must_turns : TurnsPlaces (ByNeed must S R) (ByNeed must S' R') (filled_place must F G) (filled_place must F' G')
    must_turns s ps b (v, rest, b1, b2, is, e, k, r) =
        let x = f v b1 k in
        let y = g s rest b2 r in
        (present x.0 y.0, (x.0, y.0, b1, b2, refl, e, x.1, y.1), back_there must ps rest y.0 v x.0 is x.2 y.2)

    by_bit : (bit : Bool) (s : List Bool) (ps : Places) (b : List ℕ) → ByBit bit S (R (later_bits s)) ps b
        → (qs : Places) × ByBit bit S' (R' (later_bits s)) qs b × BackPlaces (ByNeed may S R) (ByNeed may S' R') (filled_place may F G) (filled_place may F' G') ps qs
    by_bit true s ps b (v, rest, b1, b2, is, e, k, r) =
        let x = f v b1 k in
        let y = g (later_bits s) rest b2 r in
        (present x.0 y.0, (x.0, y.0, b1, b2, refl, e, x.1, y.1), λ s' ps' c same p. may_there ps rest y.0 v x.0 is x.2 y.2 (first_bit s') (later_bits s') ps' c same p)
    by_bit false s ps b (rest, is, r) =
        let y = g (later_bits s) rest b r in
        (absent y.0, (y.0, refl, y.1), λ s' ps' c same p. may_absent ps rest y.0 is y.2 (first_bit s') (later_bits s') ps' c same p)

    may_turns : TurnsPlaces (ByNeed may S R) (ByNeed may S' R') (filled_place may F G) (filled_place may F' G')
    may_turns s ps b p = by_bit (first_bit s) s ps b p

abbrev self : AsnValue → AsnValue
self v = v

-- a component whose type holds no other, with a DEFAULT: both types spell the same of it
module _ (S S' : Spelling) (d : AsnValue) (old : (v : AsnValue) (b : List ℕ) → S v b → S' v b) (new : (v : AsnValue) (b : List ℕ) → S' v b → S v b)
    (R R' : List Bool → SpellsPlaces) (G G' : Places → Places) (g : TurnsPlaces R R' G G') where
  default_there : (ps rest qs : Places) (v : AsnValue) → ps ≡ present v rest → BackPlaces R R' G G' rest qs
      → (bit : Bool) (s' : List Bool) (ps' : Places) (c : List ℕ) → filled_place (default d) self G' ps' ≡ present v (G' qs) → ByBit bit S' (R' s') ps' c
      → (xs : Places) × ByBit bit S (R s') xs c × (filled_place (default d) self G xs ≡ filled_place (default d) self G ps)
  default_there ps rest qs v is h true s' ps' c same p =
      back_there S S' self self R R' G G' (default d) ps rest qs v v is (λ y c e k. (y, new y c k, e)) h s' ps' c same p
  default_there ps rest qs v is h false s' ps' c same (rest', is', r) =
      let e = sym (ap (filled_place (default d) self G') is') ∙ same in
      let y = h s' rest' c (rest_is _ _ _ _ e) r in
      (absent y.0, (y.0, refl, y.1), ap₂ present (first_is _ _ _ _ e) y.2 ∙ sym (ap (filled_place (default d) self G) is))

  default_absent : (ps rest qs : Places) → ps ≡ absent rest → BackPlaces R R' G G' rest qs
      → (bit : Bool) (s' : List Bool) (ps' : Places) (c : List ℕ) → filled_place (default d) self G' ps' ≡ present d (G' qs) → ByBit bit S' (R' s') ps' c
      → (xs : Places) × ByBit bit S (R s') xs c × (filled_place (default d) self G xs ≡ filled_place (default d) self G ps)
  default_absent ps rest qs is h true s' ps' c same (v', rest', c1, c2, is', e, k, r) =
      let e' = sym (ap (filled_place (default d) self G') is') ∙ same in
      let y = h s' rest' c2 (rest_is _ _ _ _ e') r in
      (present v' y.0, (v', y.0, c1, c2, refl, e, new v' c1 k, y.1), ap₂ present (first_is _ _ _ _ e') y.2 ∙ sym (ap (filled_place (default d) self G) is))
  default_absent ps rest qs is h false s' ps' c same (rest', is', r) =
      let y = h s' rest' c (rest_is _ _ _ _ (sym (ap (filled_place (default d) self G') is') ∙ same)) r in
      (absent y.0, (y.0, refl, y.1), ap (present d) y.2 ∙ sym (ap (filled_place (default d) self G) is))

  by_default : (bit : Bool) (s : List Bool) (ps : Places) (b : List ℕ) → ByBit bit S (R (later_bits s)) ps b
      → (qs : Places) × ByBit bit S' (R' (later_bits s)) qs b
      × BackPlaces (ByNeed (default d) S R) (ByNeed (default d) S' R') (filled_place (default d) self G) (filled_place (default d) self G') ps qs
  by_default true s ps b (v, rest, b1, b2, is, e, k, r) =
      let y = g (later_bits s) rest b2 r in
      (present v y.0, (v, y.0, b1, b2, refl, e, old v b1 k, y.1), λ s' ps' c same p. default_there ps rest y.0 v is y.2 (first_bit s') (later_bits s') ps' c same p)
  by_default false s ps b (rest, is, r) =
      let y = g (later_bits s) rest b r in
      (absent y.0, (y.0, refl, y.1), λ s' ps' c same p. default_absent ps rest y.0 is y.2 (first_bit s') (later_bits s') ps' c same p)

  default_turns : TurnsPlaces (ByNeed (default d) S R) (ByNeed (default d) S' R') (filled_place (default d) self G) (filled_place (default d) self G')
  default_turns s ps b p = by_default (first_bit s) s ps b p

none_turns : TurnsPlaces (SpellsFields no_fields) (SpellsFields no_fields) (filled_fields no_fields) (filled_fields no_fields)
none_turns s ps b p = (ps, p, λ s' ps' c same q. (ps', q, same))

field_turns : (need : Need) (T X : AsnType) → DefaultFits need (λ d. IsLeaf T) → Extends T X → Turns (IsSpelling X) (IsSpelling T) (filled X) (filled T)
    → (R R' : List Bool → SpellsPlaces) (G G' : Places → Places) → TurnsPlaces R R' G G'
    → TurnsPlaces (ByNeed need (IsSpelling X) R) (ByNeed need (IsSpelling T) R') (filled_place need (filled X) G) (filled_place need (filled T) G')
field_turns must T X h x f R R' G G' g = must_turns (IsSpelling X) (IsSpelling T) (filled X) (filled T) R R' G G' f g
field_turns may T X h x f R R' G G' g = may_turns (IsSpelling X) (IsSpelling T) (filled X) (filled T) R R' G G' f g
field_turns (default d) (leaf k) X h (l, is, y) f R R' G G' g =
    subst (λ U. TurnsPlaces (ByNeed (default d) (IsSpelling U) R) (ByNeed (default d) (IsSpelling (leaf k)) R') (filled_place (default d) (filled U) G) (filled_place (default d)
    (filled (leaf k)) G')) (sym is)
    (default_turns (IsSpelling (leaf l)) (IsSpelling (leaf k)) d (leaf_old k l y) (leaf_new k l y) R R' G G' g)
field_turns (default d) (sequence fs) X h x f R R' G G' g = absurd h
field_turns (default d) (extensible_sequence fs more) X h x f R R' G G' g = absurd h
field_turns (default d) (sequence_of size T) X h x f R R' G G' g = absurd h
field_turns (default d) (choice marker more) X h x f R R' G G' g = absurd h

-- ---- additions

no_early : (n m : ℕ) (z : List Bool) (w : List ℕ) (vs : List Unknown) (u : List ℕ) → n < m → Unknowns m z (unknown n w ∷ vs) u → ⊥
no_early n m [] w vs u l (is, e) = absurd (cc)
no_early n m (true ∷ z) w vs u l (w', rest, b1, b2, is, e, k, r) = let same : n ≡ m = cc in absurd (omega arith)
no_early n m (false ∷ z) w vs u l p = no_early n (suc m) z w vs u (omega arith) p

-- of unknown ones from the place after n on, none is at n
skipped : (n : ℕ) (z z' : List Bool) (vs : List Unknown) (t u : List ℕ) → Unknowns (suc n) z vs t → Unknowns n z' vs u
    → (first_bit z' ≡ false) × Unknowns (suc n) (later_bits z') vs u
skipped n z [] vs t u o p = (refl, p)
skipped n z (false ∷ z') vs t u o p = (refl, p)
skipped n z (true ∷ z') vs t u o (w, rest, b1, b2, is, e, k, r) =
    absurd (no_early n (suc n) z w rest t (omega arith) (subst (λ us. Unknowns (suc n) z us t) is o))

taken : (n : ℕ) (z : List Bool) (w : List ℕ) (vs : List Unknown) (u : List ℕ) → Unknowns n z (unknown n w ∷ vs) u
    → (first_bit z ≡ true) × ((b1 : List ℕ) × (b2 : List ℕ) × (u ≡ b1 ++ b2) × Kept w b1 × Unknowns (suc n) (later_bits z) vs b2)
taken n [] w vs u (is, e) = absurd (cc)
taken n (false ∷ z) w vs u p = absurd (no_early n (suc n) z w vs u (omega arith) p)
taken n (true ∷ z) w vs u (w', rest, b1, b2, is, e, k, r) =
    let content : w' ≡ w = cc in
    let others : rest ≡ vs = cc in
    (refl, (b1, b2, e, subst (λ x. Kept x b1) content k, subst (λ us. Unknowns (suc n) z us b2) others r))

abbrev FurtherBack : Additions → ℕ → List Unknown → Places → List Unknown → Type 0
FurtherBack extra n us ps vs = (z : List Bool) (u : List ℕ) → Unknowns n z vs u → (xs : Places) × (b : List ℕ) × (c : List ℕ) × (u ≡ b ++ c)
    × SpellsAdditions extra z xs b × Unknowns (n + addition_count extra) (drop (addition_count extra) z) us c × (filled_additions extra xs ≡ filled_additions extra ps)

spelt_of : (T : AsnType) (v : AsnValue) (w b : List ℕ) → IsSpelling T v w → Kept w b → IsCounted (IsSpelling T) v b
spelt_of T v w b s (l, c, e, len, is) = (l, c, e, len, subst (λ z. IsSpelling T v z) (sym is) s)

-- the octets that a counted spelling counts
content_of : (T : AsnType) (v : AsnValue) (b : List ℕ) → IsCounted (IsSpelling T) v b → (w : List ℕ) × IsSpelling T v w × Kept w b
content_of T v b (l, c, e, len, s) = (c, s, (l, c, e, len, refl))

module _ (name : List ℕ) (T : AsnType) (extra : Additions) (n : ℕ) (us : List Unknown) (ps rest : Places) (vs : List Unknown) (h : FurtherBack extra (suc n) us rest vs) where
  more_places : n + suc (addition_count extra) ≡ suc n + addition_count extra
  more_places = omega arith

  further_absent : ps ≡ absent rest → (z : List Bool) (t : List ℕ) → Unknowns (suc n) z vs t → FurtherBack (addition name T extra) n us ps vs
  further_absent is z t o z' u p =
      let sk = skipped n z z' vs t u o p in
      let q = h (later_bits z') u sk.1 in (
        absent q.0,
        q.1,
        q.2,
        q.3,
        subst (λ bit. ByBit bit (IsCounted (IsSpelling T)) (SpellsAdditions extra (later_bits z')) (absent q.0) q.1) (sym sk.0) (q.0, refl, q.4),
        moved _ _ (drop (addition_count extra) (later_bits z')) _ us q.2 (sym more_places) (drop_after (addition_count extra) z') q.5,
        ap absent q.6 ∙ sym (ap (filled_place may
            (filled T) (filled_additions extra)) is),
      )

  further_present : (v : AsnValue) (w : List ℕ) → ps ≡ present v rest → IsSpelling T v w → FurtherBack (addition name T extra) n us ps (unknown n w ∷ vs)
  further_present v w is s z' u p =
      let tk = taken n z' w vs u p in
      let o = tk.1 in
      let q = h (later_bits z') o.1 o.4 in (
        present v q.0,
        o.0 ++ q.1,
        q.2,
        o.2 ∙ ap (λ t. o.0 ++ t) q.3 ∙ sym (append_assoc o.0 q.1 q.2),
        subst (λ bit. ByBit bit (IsCounted (IsSpelling T)) (SpellsAdditions extra (later_bits z')) (present v q.0) (o.0 ++ q.1)) (sym tk.0)
            (v, q.0, o.0, q.1, refl, refl, spelt_of T v w o.0 s o.3, q.4),
        moved _ _ (drop (addition_count extra) (later_bits z')) _ us q.2 (sym more_places) (drop_after (addition_count extra) z') q.5,
        ap (present (filled T v)) q.6 ∙ sym (ap
            (filled_place may (filled T) (filled_additions extra)) is),
      )

pub further_turns : (extra : Additions) (n : ℕ) (z : List Bool) (ps : Places) (us : List Unknown) (a u : List ℕ) → SpellsAdditions extra z ps a
    → Unknowns (n + addition_count extra) (drop (addition_count extra) z) us u → (vs : List Unknown) × Unknowns n z vs (a ++ u) × FurtherBack extra n us ps vs
further_turns no_additions n z ps us a u (is, e) p =
    let same : n + 0 ≡ n = omega arith in (
      us,
      subst (λ w. Unknowns n z us (w ++ u)) (sym e) (moved (n + 0) n z z us u same refl p),
      λ z' u' q. (
        no_places,
        [],
        u',
        refl,
        (refl, refl),
        moved n (n + 0) z' z' us u'
            (sym same) refl q,
        sym is,
      ),
    )
further_turns (addition name T extra) n [] ps us a u (rest, is, r) p =
    let o = further_turns extra (suc n) [] rest us a u r (no_bits extra (n + suc (addition_count extra)) (suc n + addition_count extra) us u p) in
    (o.0, o.1, further_absent name T extra n us ps rest o.0 o.2 is [] (a ++ u) o.1)
further_turns (addition name T extra) n (true ∷ z) ps us a u (v, rest, b1, b2, is, e, k, r) p =
    let more : n + suc (addition_count extra) ≡ suc n + addition_count extra = omega arith in
    let o = further_turns extra (suc n) z rest us b2 u r (moved _ _ (drop (addition_count extra) z) _ us u more refl p) in
    let c = content_of T v b1 k in
    (unknown n c.0 ∷ o.0, (c.0, o.0, b1, b2 ++ u, refl, ap (λ w. w ++ u) e ∙ append_assoc b1 b2 u, c.2, o.1), further_present name T extra n us ps rest o.0 o.2 v c.0 is c.1)
further_turns (addition name T extra) n (false ∷ z) ps us a u (rest, is, r) p =
    let more : n + suc (addition_count extra) ≡ suc n + addition_count extra = omega arith in
    let o = further_turns extra (suc n) z rest us a u r (moved _ _ (drop (addition_count extra) z) _ us u more refl p) in
    (o.0, o.1, further_absent name T extra n us ps rest o.0 o.2 is z (a ++ u) o.1)

-- the known additions ps and the unknown ones us, as the older type has them, qs and vs
abbrev AddBack : ℕ → Additions → Additions → Places → List Unknown → Places → List Unknown → Type 0
AddBack place more others ps us qs vs = (s : List Bool) (ps' : Places) (a u : List ℕ) → filled_additions more ps' ≡ filled_additions more qs
    → SpellsAdditions more s ps' a → Unknowns (place + addition_count more) (drop (addition_count more) s) vs u
    → (xs : Places) × (b : List ℕ) × (c : List ℕ) × (a ++ u ≡ b ++ c) × SpellsAdditions others s xs b
    × Unknowns (place + addition_count others) (drop (addition_count others) s) us c × (filled_additions others xs ≡ filled_additions others ps)

abbrev TurnsAdditions : ℕ → Additions → Additions → Type 0
TurnsAdditions place more others = (s : List Bool) (ps : Places) (us : List Unknown) (a u : List ℕ) → SpellsAdditions others s ps a
    → Unknowns (place + addition_count others) (drop (addition_count others) s) us u
    → (qs : Places) × (vs : List Unknown) × (b : List ℕ) × (c : List ℕ) × (a ++ u ≡ b ++ c) × SpellsAdditions more s qs b
    × Unknowns (place + addition_count more) (drop (addition_count more) s) vs c × AddBack place more others ps us qs vs

module _ (name : List ℕ) (T X : AsnType) (more others : Additions) (place : ℕ) (us vs : List Unknown) (ps rest qs : Places)
    (g : AddBack (suc place) more others rest us qs vs) where
  next_place : (n : ℕ) → place + suc n ≡ suc place + n
  next_place n = omega arith

  -- what is left for the additions after the first
  onward_more : (s : List Bool) (u : List ℕ) → Unknowns (place + suc (addition_count more)) (drop (suc (addition_count more)) s) vs u
      → Unknowns (suc place + addition_count more) (drop (addition_count more) (later_bits s)) vs u
  onward_more s u r = moved _ _ (drop (suc (addition_count more)) s) _ vs u (next_place (addition_count more)) (sym (drop_after (addition_count more) s)) r

  back_others : (s : List Bool) (c : List ℕ) → Unknowns (suc place + addition_count others) (drop (addition_count others) (later_bits s)) us c
      → Unknowns (place + suc (addition_count others)) (drop (suc (addition_count others)) s) us c
  back_others s c r = moved _ _ (drop (addition_count others) (later_bits s)) _ us c (sym (next_place (addition_count others))) (drop_after (addition_count others) s) r

  first_there : (v w : AsnValue) → ps ≡ present v rest → Back (IsCounted (IsSpelling X)) (IsCounted (IsSpelling T)) (filled X) (filled T) v w
      → (bit : Bool) (s : List Bool) (ps' : Places) (a u : List ℕ) → filled_additions (addition name T more) ps' ≡ present (filled T w) (filled_additions more qs)
      → ByBit bit (IsCounted (IsSpelling T)) (SpellsAdditions more (later_bits s)) ps' a → Unknowns (place + suc (addition_count more)) (drop (suc (addition_count more)) s) vs u
      → (xs : Places) × (b : List ℕ) × (c : List ℕ) × (a ++ u ≡ b ++ c) × ByBit bit (IsCounted (IsSpelling X)) (SpellsAdditions others (later_bits s)) xs b
      × Unknowns (place + suc (addition_count others)) (drop (suc (addition_count others)) s) us c × (filled_additions (addition name X others) xs ≡ filled_additions
      (addition name X others) ps)
  first_there v w is f true s ps' a u same (v', rest', c1, c2, is', e, k, r) un =
      let e' = sym (ap (filled_additions (addition name T more)) is') ∙ same in
      let x = f v' c1 (first_is _ _ _ _ e') k in
      let y = g (later_bits s) rest' c2 u (rest_is _ _ _ _ e') r (onward_more s u un) in (
        present x.0 y.0,
        c1 ++ y.1,
        y.2,
        ap (λ t. t ++ u) e ∙ append_assoc c1 c2 u ∙ ap (λ t. c1 ++ t) y.3 ∙ sym (append_assoc c1 y.1 y.2),
        (x.0, y.0, c1, y.1, refl, refl, x.1, y.4),
        back_others s y.2 y.5,
        ap₂ present x.2 y.6 ∙ sym (ap (filled_additions (addition name X others)) is),
      )
  first_there v w is f false s ps' a u same (rest', is', r) un =
      absurd (not_both _ _ _ (sym (sym (ap (filled_additions (addition name T more)) is') ∙ same)))

  first_absent : ps ≡ absent rest → (bit : Bool) (s : List Bool) (ps' : Places) (a u : List ℕ)
      → filled_additions (addition name T more) ps' ≡ absent (filled_additions more qs)
      → ByBit bit (IsCounted (IsSpelling T)) (SpellsAdditions more (later_bits s)) ps' a → Unknowns (place + suc (addition_count more)) (drop (suc (addition_count more)) s) vs u
      → (xs : Places) × (b : List ℕ) × (c : List ℕ) × (a ++ u ≡ b ++ c) × ByBit bit (IsCounted (IsSpelling X)) (SpellsAdditions others (later_bits s)) xs b
      × Unknowns (place + suc (addition_count others)) (drop (suc (addition_count others)) s) us c × (filled_additions (addition name X others) xs ≡ filled_additions
      (addition name X others) ps)
  first_absent is true s ps' a u same (v', rest', c1, c2, is', e, k, r) un =
      absurd (not_both _ _ _ (sym (ap (filled_additions (addition name T more)) is') ∙ same))
  first_absent is false s ps' a u same (rest', is', r) un =
      let e' = sym (ap (filled_additions (addition name T more)) is') ∙ same in
      let y = g (later_bits s) rest' a u (absent_is _ _ e') r (onward_more s u un) in
      (absent y.0, y.1, y.2, y.3, (y.0, refl, y.4), back_others s y.2 y.5, ap absent y.6 ∙ sym (ap (filled_additions (addition name X others)) is))

first_turns : (name : List ℕ) (T X : AsnType) (more others : Additions) (place : ℕ) → Turns (IsSpelling X) (IsSpelling T) (filled X) (filled T)
    → TurnsAdditions (suc place) more others → (bit : Bool) (s : List Bool) (ps : Places) (us : List Unknown) (a u : List ℕ)
    → ByBit bit (IsCounted (IsSpelling X)) (SpellsAdditions others (later_bits s)) ps a → Unknowns (place + suc (addition_count others)) (drop (suc (addition_count others)) s) us u
    → (qs : Places) × (vs : List Unknown) × (b : List ℕ) × (c : List ℕ) × (a ++ u ≡ b ++ c) × ByBit bit (IsCounted (IsSpelling T)) (SpellsAdditions more (later_bits s)) qs b
    × Unknowns (place + suc (addition_count more)) (drop (suc (addition_count more)) s) vs c × AddBack place (addition name T more) (addition name X others) ps us qs vs
first_turns name T X more others place f g true s ps us a u (v, rest, b1, b2, is, e, k, r) un =
    let x = counted_turns (IsSpelling X) (IsSpelling T) (filled X) (filled T) f v b1 k in
    let to : place + suc (addition_count others) ≡ suc place + addition_count others = omega arith in
    let from : suc place + addition_count more ≡ place + suc (addition_count more) = omega arith in
    let o = g (later_bits s) rest us b2 u r (moved _ _ (drop (suc (addition_count others)) s) _ us u to (sym (drop_after (addition_count others) s)) un) in (
      present x.0 o.0,
      o.1,
      b1 ++ o.2,
      o.3,
      ap (λ t. t ++ u) e ∙ append_assoc b1 b2 u ∙ ap (λ t. b1 ++ t) o.4 ∙ sym (append_assoc b1 o.2 o.3),
      (x.0, o.0, b1, o.2, refl, refl, x.1, o.5),
      moved _ _ (drop (addition_count more) (later_bits s)) _ o.1 o.3 from (drop_after (addition_count more) s) o.6,
      λ s' ps' a' u' same p un'. first_there name T X more others place us o.1 ps rest o.0 o.7 v x.0 is x.2 (first_bit s') s' ps' a' u' same p un',
    )
first_turns name T X more others place f g false s ps us a u (rest, is, r) un =
    let to : place + suc (addition_count others) ≡ suc place + addition_count others = omega arith in
    let from : suc place + addition_count more ≡ place + suc (addition_count more) = omega arith in
    let o = g (later_bits s) rest us a u r (moved _ _ (drop (suc (addition_count others)) s) _ us u to (sym (drop_after (addition_count others) s)) un) in (
      absent o.0,
      o.1,
      o.2,
      o.3,
      o.4,
      (o.0, refl, o.5),
      moved _ _ (drop (addition_count more) (later_bits s)) _ o.1 o.3 from (drop_after (addition_count more) s) o.6,
      λ s' ps' a' u' same p un'. first_absent name T X more others place us o.1 ps rest o.0 o.7 is (first_bit s') s' ps' a' u' same p un',
    )

none_known : (place : ℕ) (others : Additions) → TurnsAdditions place no_additions others
none_known place others s ps us a u p un =
    let o = further_turns others place s ps us a u p un in
    let same : place ≡ place + 0 = omega arith in (
      no_places,
      o.0,
      [],
      a ++ u,
      refl,
      (refl, refl),
      moved place (place + 0) s s o.0 (a ++ u) same refl o.1,
      λ s' ps' a' u' fills (is, e) un'. let q = o.2 s' u' (moved (place + 0) place s' s' o.0 u' (sym same) refl un') in (q.0, q.1, q.2, ap (λ t. t ++ u') e ∙ q.3, q.4, q.5, q.6),
    )

additions_step : (name : List ℕ) (T X : AsnType) (more others : Additions) (place : ℕ) → Turns (IsSpelling X) (IsSpelling T) (filled X) (filled T)
    → TurnsAdditions (suc place) more others → TurnsAdditions place (addition name T more) (addition name X others)
additions_step name T X more others place f g s ps us a u p un = first_turns name T X more others place f g (first_bit s) s ps us a u p un

-- ---- the extension

none_spelt : (more : Additions) (ps : Places) → ps ≡ all_absent more → SpellsAdditions more [] ps []
none_spelt no_additions ps is = (is, refl)
none_spelt (addition name T more) ps is = (all_absent more, is, none_spelt more (all_absent more) refl)

absent_of : (more : Additions) (ps : Places) (b : List ℕ) → SpellsAdditions more [] ps b → ps ≡ all_absent more
absent_of no_additions ps b (is, e) = is
absent_of (addition name T more) ps b (rest, is, r) = is ∙ ap absent (absent_of more rest b r)

none_left : (extra : Additions) (k : ℕ) (us : List Unknown) (u : List ℕ) → Unknowns k (drop (addition_count extra) []) us u → us ≡ []
none_left no_additions k us u (is, e) = is
none_left (addition name T extra) k us u (is, e) = is

abbrev BackExtension : Additions → Additions → Places → List Unknown → Places → List Unknown → Type 0
BackExtension more others ps us qs vs = (x : Bool) (ps' : Places) (us' : List Unknown) (e : List ℕ) → filled_additions more ps' ≡ filled_additions more qs → us' ≡ vs
    → SpellsExtension x more (SpellsAdditions more) ps' us' e → (xs : Places) × SpellsExtension x others (SpellsAdditions others) xs us e ×
    (filled_additions others xs ≡ filled_additions others ps)

back_extension : (more others : Additions) (ps : Places) (us : List Unknown) (qs : Places) (vs : List Unknown) → AddBack 0 more others ps us qs vs → BackExtension more others ps us qs vs
back_extension more others ps us qs vs g true ps' us' e fills same (s, m, a, u, is, k, low, p, r) =
    let from : addition_count more ≡ 0 + addition_count more = omega arith in
    let back : 0 + addition_count others ≡ addition_count others = omega arith in
    let q = g s ps' a u fills p (moved _ _ (drop (addition_count more) s) _ vs u from refl (subst (λ ws. Unknowns (addition_count more) (drop (addition_count more) s) ws u) same r)) in
    (q.0, (s, m, q.1, q.2, is ∙ ap (λ t. m ++ t) q.3, k, low, q.4, moved _ _ (drop (addition_count others) s) _ us q.2 back refl q.5), q.6)
back_extension more others ps us qs vs g false ps' us' e fills same (is, none, empty) =
    let q = g [] ps' [] [] fills (none_spelt more ps' is) (no_bits more 0 (0 + addition_count more) vs [] (sym same ∙ none, refl)) in
    (q.0, (absent_of others q.0 q.1 q.4, none_left others (0 + addition_count others) us q.2 q.5, empty), q.6)

extension_turns : (more others : Additions) → TurnsAdditions 0 more others → (x : Bool) (ps : Places) (us : List Unknown) (e : List ℕ)
    → SpellsExtension x others (SpellsAdditions others) ps us e
    → (qs : Places) × (vs : List Unknown) × SpellsExtension x more (SpellsAdditions more) qs vs e × BackExtension more others ps us qs vs
extension_turns more others g true ps us e (s, m, a, u, is, k, low, p, r) =
    let from : addition_count others ≡ 0 + addition_count others = omega arith in
    let back : 0 + addition_count more ≡ addition_count more = omega arith in
    let o = g s ps us a u p (moved _ _ (drop (addition_count others) s) _ us u from refl r) in
    (o.0, o.1, (s, m, o.2, o.3, is ∙ ap (λ t. m ++ t) o.4, k, low, o.5, moved _ _ (drop (addition_count more) s) _ o.1 o.3 back refl o.6), back_extension more others ps us o.0 o.1 o.7)
extension_turns more others g false ps us e (is, none, empty) =
    let o = g [] ps us [] [] (none_spelt others ps is) (no_bits others 0 (0 + addition_count others) us [] (none, refl)) in
    (o.0, o.1, (absent_of more o.0 o.2 o.5, none_left more (0 + addition_count more) o.1 o.3 o.6, empty), back_extension more others ps us o.0 o.1 o.7)

root_is : (a b c d : Places) (us vs : List Unknown) → seq a c us ≡ seq b d vs → a ≡ b
root_is a b c d us vs e = cc

added_is : (a b c d : Places) (us vs : List Unknown) → seq a c us ≡ seq b d vs → c ≡ d
added_is a b c d us vs e = cc

unknown_is : (a b c d : Places) (us vs : List Unknown) → seq a c us ≡ seq b d vs → us ≡ vs
unknown_is a b c d us vs e = cc

sequence_turns : (fs gs : Fields) → optional gs ≡ optional fs → TurnsPlaces (SpellsFields gs) (SpellsFields fs) (filled_fields gs) (filled_fields fs)
    → Turns (IsSpelling (sequence gs)) (IsSpelling (sequence fs)) (filled (sequence gs)) (filled (sequence fs))
sequence_turns fs gs same f v b (root, s, p, r, is, e, count, pre, sp) =
    let o = f s root r sp in (
      seq o.0 no_places [],
      (o.0, s, p, r, refl, e, count ∙ same, pre, o.1),
      λ w c fills (root', s', p', r', is', e', count', pre', sp').
          let q = o.2 s' root' r' (root_is _ _ _ _ _ _ (sym (ap (filled (sequence fs)) is') ∙ fills)) sp' in
          (seq q.0 no_places [], (q.0, s', p', r', refl, e', count' ∙ sym same, pre', q.1), ap (λ x. seq x no_places []) q.2 ∙ sym (ap (filled (sequence gs)) is)),
    )

extensible_turns : (fs gs : Fields) (more others : Additions) → optional gs ≡ optional fs
    → TurnsPlaces (SpellsFields gs) (SpellsFields fs) (filled_fields gs) (filled_fields fs) → TurnsAdditions 0 more others
    → Turns (IsSpelling (extensible_sequence gs others)) (IsSpelling (extensible_sequence fs more)) (filled (extensible_sequence gs others)) (filled (extensible_sequence fs more))
extensible_turns fs gs more others same f g v b (root, added, us, bit, s, p, r, ext, is, e, count, pre, sp, a) =
    let o = f s root r sp in
    let x = extension_turns more others g bit added us ext a in (
      seq o.0 x.0 x.1,
      (o.0, x.0, x.1, bit, s, p, r, ext, refl, e, count ∙ same, pre, o.1, x.2),
      λ w c fills (root', added', us', bit', s', p', r', ext', is', e', count', pre', sp', a').
          let e2 = sym (ap (filled (extensible_sequence fs more)) is') ∙ fills in
          let q = o.2 s' root' r' (root_is _ _ _ _ _ _ e2) sp' in
          let y = x.3 bit' added' us' ext' (added_is _ _ _ _ _ _ e2) (unknown_is _ _ _ _ _ _ e2) a' in (
            seq q.0 y.0 us,
            (q.0, y.0, us, bit', s', p', r', ext', refl, e', count' ∙ sym same, pre', q.1, y.1),
            ap₂ (λ (i j : Places). seq i j us) q.2 y.2 ∙ sym (ap (filled (extensible_sequence gs others)) is),
          ),
    )

-- ---- lists

head_is : (v w : AsnValue) (vs ws : Values) → value v vs ≡ value w ws → v ≡ w
head_is v w vs ws e = cc

tail_is : (v w : AsnValue) (vs ws : Values) → value v vs ≡ value w ws → vs ≡ ws
tail_is v w vs ws e = cc

abbrev BackList : Spelling → Spelling → (AsnValue → AsnValue) → (AsnValue → AsnValue) → List AsnValue → List AsnValue → Type 0
BackList S S' F F' vs ws = (ws' : List AsnValue) (c : List ℕ) → map_values F' (listed ws') ≡ map_values F' (listed ws) → IsJoined S' ws' c
    → (xs : List AsnValue) × (length xs ≡ length ws') × IsJoined S xs c × (map_values F (listed xs) ≡ map_values F (listed vs))

joined_turns : (S S' : Spelling) (F F' : AsnValue → AsnValue) → Turns S S' F F' → (vs : List AsnValue) (b : List ℕ) → IsJoined S vs b
    → (ws : List AsnValue) × (length ws ≡ length vs) × IsJoined S' ws b × BackList S S' F F' vs ws
joined_turns S S' F F' f [] b e = ([], refl, e, nothing)
  where
    nothing : BackList S S' F F' [] []
    nothing [] c same j = ([], refl, j, refl)
    nothing (w ∷ ws') c same j = absurd (cc)
joined_turns S S' F F' f (v ∷ vs) b (b1, b2, e, s, r) =
    let x = f v b1 s in
    let o = joined_turns S S' F F' f vs b2 r in
    (x.0 ∷ o.0, ap suc o.1, (b1, b2, e, x.1, o.2), both x.0 o.0 x.2 o.3)
  where
    both : (w : AsnValue) (ws : List AsnValue) → Back S S' F F' v w → BackList S S' F F' vs ws → BackList S S' F F' (v ∷ vs) (w ∷ ws)
    both w ws g h [] c same j = absurd (cc)
    both w ws g h (w' ∷ ws') c same (c1, c2, e', s', r') =
        let p = g w' c1 (head_is _ _ _ _ same) s' in
        let q = h ws' c2 (tail_is _ _ _ _ same) r' in
        (p.0 ∷ q.0, ap suc q.1, (c1, c2, e', p.1, q.2), ap₂ value p.2 q.3)

items_is : (vs ws : Values) → items vs ≡ items ws → vs ≡ ws
items_is vs ws e = cc

list_turns : (size : Size) (T X : AsnType) → Turns (IsSpelling X) (IsSpelling T) (filled X) (filled T)
    → Turns (IsSpelling (sequence_of size X)) (IsSpelling (sequence_of size T)) (filled (sequence_of size X)) (filled (sequence_of size T))
list_turns size T X f v b (vs, q, es, is, e, count, fits, j) =
    let o = joined_turns (IsSpelling X) (IsSpelling T) (filled X) (filled T) f vs es j in (
      items (listed o.0),
      (o.0, q, es, refl, e, subst (λ n. IsCounted (StandsFor unsigned) n q) (sym o.1) count, subst (λ n. size_fits size n ≡ true) (sym o.1) fits, o.2),
      λ w c fills (ws', q', es', is', e', count', fits', j').
          let y = o.3 ws' es' (items_is _ _ (sym (ap (filled (sequence_of size T)) is') ∙ fills)) j' in (
            items (listed y.0),
            (y.0, q', es', refl, e', subst (λ n. IsCounted (StandsFor unsigned) n q') (sym y.1) count', subst (λ n. size_fits size n ≡ true) (sym y.1) fits', y.2),
            ap items y.3 ∙ sym (ap (filled (sequence_of size X)) is),
          ),
    )

-- ---- alternatives

-- of a value that the older type knows
abbrev Known : Alternatives → Alternatives → Tag → AsnValue → List ℕ → Type 0
Known more others t x c = (y : AsnValue) × SpellsAlternative more t y c
    × Back (SpellsAlternative others t) (SpellsAlternative more t) (filled_alternative others t) (filled_alternative more t) x y

-- of one that it keeps as octets w, where it has a marker
abbrev Foreign : Bool → Alternatives → Alternatives → Tag → AsnValue → List ℕ → Type 0
Foreign marker more others t x c = (marker ≡ true) × (has_tag t more ≡ false)
    × ((w : List ℕ) × Kept w c × ((d : List ℕ) → Kept w d → SpellsAlternative others t x d))

abbrev TurnsAlternatives : Bool → Alternatives → Alternatives → Type 0
TurnsAlternatives marker more others = (t : Tag) (x : AsnValue) (c : List ℕ) → SpellsAlternative others t x c → Known more others t x c ⊎ Foreign marker more others t x c

further_foreign : (others : Alternatives) → AreLater others → (t : Tag) (x : AsnValue) (c : List ℕ) → SpellsAlternative others t x c
    → (w : List ℕ) × Kept w c × ((d : List ℕ) → Kept w d → SpellsAlternative others t x d)
further_foreign no_alternatives l t x c p = absurd p
further_foreign (alternative name u T others) l t x c p = absurd l
further_foreign (later name u T others) l t x c p = by_tag (same_tag u t) (further_foreign others l t x c) p
  where
    by_tag : (same : Bool) → (SpellsAlternative others t x c → (w : List ℕ) × Kept w c × ((d : List ℕ) → Kept w d → SpellsAlternative others t x d))
        → ByTag same (IsCounted (IsSpelling T)) (SpellsAlternative others t) x c
        → (w : List ℕ) × Kept w c × ((d : List ℕ) → Kept w d → ByTag same (IsCounted (IsSpelling T)) (SpellsAlternative others t) x d)
    by_tag true g p = let o = content_of T x c p in (o.0, o.2, λ d k. spelt_of T x o.0 d o.1 k)
    by_tag false g p = g p

-- an alternative of both types, by whether it has the tag
tag_turns : (marker same : Bool) (more others : Alternatives) (t : Tag) (S S' : Spelling) (F F' : AsnValue → AsnValue) → Turns S S' F F'
    → ((x : AsnValue) (c : List ℕ) → SpellsAlternative others t x c → Known more others t x c ⊎ Foreign marker more others t x c)
    → (x : AsnValue) (c : List ℕ) → ByTag same S (SpellsAlternative others t) x c
    → ((y : AsnValue) × ByTag same S' (SpellsAlternative more t) y c
    × Back (ByTag same S (SpellsAlternative others t)) (ByTag same S' (SpellsAlternative more t)) (filled_by_tag same F (filled_alternative others t)) (filled_by_tag same F'
    (filled_alternative more t)) x y)
    ⊎ ((marker ≡ true) × ((same || has_tag t more) ≡ false) × ((w : List ℕ) × Kept w c × ((d : List ℕ) → Kept w d → ByTag same S (SpellsAlternative others t) x d)))
tag_turns marker true more others t S S' F F' f g x c p = inl (f x c p)
tag_turns marker false more others t S S' F F' f g x c p = g x c p

same_tags : (t u : Tag) (x y : AsnValue) → chosen t x ≡ chosen u y → t ≡ u
same_tags t u x y e = cc

same_chosen : (t u : Tag) (x y : AsnValue) → chosen t x ≡ chosen u y → x ≡ y
same_chosen t u x y e = cc

not_foreign : (t u : Tag) (x : AsnValue) (w : List ℕ) → chosen t x ≡ foreign u w → ⊥
not_foreign t u x w e = absurd (cc)

same_foreign : (t u : Tag) (x w : List ℕ) → foreign t x ≡ foreign u w → (t ≡ u) × (x ≡ w)
same_foreign t u x w e = (cc, cc)

module _ (marker : Bool) (more others : Alternatives) (v : AsnValue) (t : Tag) where
  of_known : (x : AsnValue) (c : List ℕ) → v ≡ chosen t x → (k : Known more others t x c)
      → Back (IsSpelling (choice marker others)) (IsSpelling (choice marker more)) (filled (choice marker others)) (filled (choice marker more)) v (chosen t k.0)
  of_known x c is k w d fills (t', p', c', e', tag', inl (y', is', k')) =
      let same = sym (ap (filled (choice marker more)) is') ∙ fills in
      let tags = same_tags t' t _ _ same in
      let one = subst (λ z. filled_alternative more z y' ≡ filled_alternative more t k.0) tags (same_chosen _ _ _ _ same) in
      let q = k.2 y' c' one (subst (λ z. SpellsAlternative more z y' c') tags k') in
      (chosen t q.0, (t, p', c', e', subst (λ z. IsTag z p') tags tag', inl (q.0, refl, q.1)), ap (chosen t) q.2 ∙ sym (ap (filled (choice marker others)) is))
  of_known x c is k w d fills (t', p', c', e', tag', inr (w', is', may_be, none, k')) =
      absurd (not_foreign _ _ _ _ (sym (sym (ap (filled (choice marker more)) is') ∙ fills)))

  of_foreign : (w : List ℕ) → (x : AsnValue) → filled (choice marker others) x ≡ filled (choice marker others) v
      → ((d : List ℕ) → Kept w d → SpellsChosen marker others (SpellsAlternative others t) t x d)
      → Back (IsSpelling (choice marker others)) (IsSpelling (choice marker more)) (filled (choice marker others)) (filled (choice marker more)) v (foreign t w)
  of_foreign w x same_fill g y d fills (t', p', c', e', tag', inl (y', is', k')) =
      absurd (not_foreign _ _ _ _ (sym (ap (filled (choice marker more)) is') ∙ fills))
  of_foreign w x same_fill g y d fills (t', p', c', e', tag', inr (w', is', may_be, none, k')) =
      let same = same_foreign _ _ _ _ (sym (ap (filled (choice marker more)) is') ∙ fills) in
      (x, (t, p', c', e', subst (λ z. IsTag z p') same.0 tag', g c' (subst (λ z. Kept z c') same.1 k')), same_fill)

  chosen_turns : (x : AsnValue) (p c b : List ℕ) → b ≡ p ++ c → IsTag t p → v ≡ chosen t x → Known more others t x c ⊎ Foreign marker more others t x c
      → (y : AsnValue) × IsSpelling (choice marker more) y b
      × Back (IsSpelling (choice marker others)) (IsSpelling (choice marker more)) (filled (choice marker others)) (filled (choice marker more)) v y
  chosen_turns x p c b e tag is (inl k) = (chosen t k.0, (t, p, c, e, tag, inl (k.0, refl, k.1)), of_known x c is k)
  chosen_turns x p c b e tag is (inr (may_be, none, o)) = (
    foreign t o.0,
    (t, p, c, e, tag, inr (o.0, refl, may_be, none, o.1)),
    of_foreign o.0 (chosen t x) (sym (ap (filled (choice marker others)) is)) (λ d k. inl (x, refl, o.2 d k)),
  )

choice_turns : (marker : Bool) (more others : Alternatives) → ((t : Tag) → has_tag t others ≡ false → has_tag t more ≡ false) → TurnsAlternatives marker more others
    → Turns (IsSpelling (choice marker others)) (IsSpelling (choice marker more)) (filled (choice marker others)) (filled (choice marker more))
choice_turns marker more others no_tag g v b (t, p, c, e, tag, inl (x, is, k)) = chosen_turns marker more others v t x p c b e tag is (g t x c k)
choice_turns marker more others no_tag g v b (t, p, c, e, tag, inr (w, is, may_be, none, k)) = (
  foreign t w,
  (t, p, c, e, tag, inr (w, refl, may_be, no_tag t none, k)),
  of_foreign marker more others v t w (foreign t w) (sym (ap (filled (choice marker others)) is)) (λ d k. inr (w, refl, may_be, none, k)),
)

-- ---- types

mutual
  type_turns : (T U : AsnType) → Extends T U → HasLeafDefaults T → Turns (IsSpelling U) (IsSpelling T) (filled U) (filled T)
  type_turns (leaf k) U (l, is, x) h =
      subst (λ X. Turns (IsSpelling X) (IsSpelling (leaf k)) (filled X) (filled (leaf k))) (sym is) (leaf_turns k l x)
  type_turns (sequence fs) U (gs, is, x) h =
      subst (λ X. Turns (IsSpelling X) (IsSpelling (sequence fs)) (filled X) (filled (sequence fs))) (sym is)
      (sequence_turns fs gs (same_optional fs gs x) (fields_turn fs gs x h))
  type_turns (extensible_sequence fs more) U (gs, others, is, x, y) h =
      subst (λ X. Turns (IsSpelling X) (IsSpelling (extensible_sequence fs more)) (filled X) (filled (extensible_sequence fs more))) (sym is)
      (extensible_turns fs gs more others (same_optional fs gs x) (fields_turn fs gs x h.0) (additions_turn 0 more others y h.1))
  type_turns (sequence_of size T) U (X, is, x) h =
      subst (λ Y. Turns (IsSpelling Y) (IsSpelling (sequence_of size T)) (filled Y) (filled (sequence_of size T))) (sym is) (list_turns size T X (type_turns T X x h))
  type_turns (choice marker more) U (others, is, x) h =
      subst (λ X. Turns (IsSpelling X) (IsSpelling (choice marker more)) (filled X) (filled (choice marker more))) (sym is)
      (choice_turns marker more others (untagged marker more others x) (alternatives_turn marker more others x h))

  fields_turn : (fs gs : Fields) → FieldsExtend fs gs → FieldsHaveLeafDefaults fs → TurnsPlaces (SpellsFields gs) (SpellsFields fs) (filled_fields gs) (filled_fields fs)
  fields_turn no_fields gs is h = subst (λ hs. TurnsPlaces (SpellsFields hs) (SpellsFields no_fields) (filled_fields hs) (filled_fields no_fields)) (sym is) none_turns
  fields_turn (field name need T fs) gs (X, rest, is, x, y) h =
      subst (λ hs. TurnsPlaces (SpellsFields hs) (SpellsFields (field name need T fs)) (filled_fields hs) (filled_fields (field name need T fs))) (sym is)
      (field_turns need T X h.1 x (type_turns T X x h.0) (SpellsFields rest) (SpellsFields fs) (filled_fields rest) (filled_fields fs) (fields_turn fs rest y h.2))

  additions_turn : (place : ℕ) (more others : Additions) → AdditionsExtend more others → AdditionsHaveLeafDefaults more → TurnsAdditions place more others
  additions_turn place no_additions others x h = none_known place others
  additions_turn place (addition name T more) others (X, rest, is, x, y) h =
      subst (λ hs. TurnsAdditions place (addition name T more) hs) (sym is) (additions_step name T X more rest place (type_turns T X x h.0) (additions_turn (suc place) more rest y h.1))

  alternatives_turn : (marker : Bool) (more others : Alternatives) → AlternativesExtend marker more others → AlternativesHaveLeafDefaults more → TurnsAlternatives marker more others
  alternatives_turn true no_alternatives others l h = λ t x c p. inr (refl, refl, further_foreign others l t x c p)
  alternatives_turn false no_alternatives others is h = λ t x c p. absurd (subst (λ hs. SpellsAlternative hs t x c) is p)
  alternatives_turn marker (alternative name u T more) others (X, rest, is, y, z) h =
      subst (λ hs. TurnsAlternatives marker (alternative name u T more) hs) (sym is) (λ t x c p. tag_turns marker (same_tag u t) more rest t (IsSpelling X) (IsSpelling T) (filled X)
      (filled T)
      (type_turns T X y h.0) (alternatives_turn marker more rest z h.1 t) x c p)
  alternatives_turn marker (later name u T more) others (X, rest, is, y, z) h =
      subst (λ hs. TurnsAlternatives marker (later name u T more) hs) (sym is) (λ t x c p. tag_turns marker (same_tag u t) more rest t (IsCounted (IsSpelling X)) (IsCounted
      (IsSpelling T)) (filled X) (filled T)
      (counted_turns (IsSpelling X) (IsSpelling T) (filled X) (filled T) (type_turns T X y h.0)) (alternatives_turn marker more rest z h.1 t) x c p)

pub extended_is_relayed : ExtendedIsRelayed
extended_is_relayed T U x h kt ku v w b c (octets, fits, s) seen (fit, w', same, (octets', fit', strict)) =
    let o = type_turns T U x h v b s in
    let one : w ≡ o.0 = (one_reading T kt w o.0 b b [] seen (encodes_from T kt o.0 b octets o.1) (sym (append-nil b))).1 in
    let q = o.2 w' c (same ∙ ap (filled T) one) (strict_within T w' c strict) in
    (q.0, encodes_from U ku q.0 c octets' q.1, q.2)
