-- Values that meet no end are spelt alike where ends are replaced.
use Rattle.std.proofs.Common.{◌≡◌, inl, inr, ℕ, List, Bool, sym, ◌∙◌, subst}
use Rattle.oer_units.specs.Spelling.{IsCounted}
use Rattle.oer_units.specs.declared.tagging.Tag.{Tag}
use Rattle.oer_model.specs.LeafType.{LeafType}
use Rattle.oer_model.specs.AsnType.{Additions, Alternatives, AsnType, Fields, Need, addition, alternative, choice, extensible_sequence, field, later, leaf, no_additions, no_alternatives, no_fields, sequence, sequence_of}
use Rattle.oer_model.specs.AsnValue.{AsnValue, Places}
use Rattle.oer_model.specs.Bits.{first_bit, later_bits}
use Rattle.oer_model.specs.Constraints.{addition_count, has_tag, optional, same_tag}
use Rattle.oer_model.specs.Encoding.{ByTag, IsSpelling, SpellsAdditions, SpellsAlternative, SpellsFields}
use Rattle.oer_model.specs.Fits.{FitsByTag, all_absent}
use Rattle.oer_model.specs.declared.size.Size.{Size}
use Rattle.oer_nesting.proofs.Counted.{same_absent, same_count, same_optional, same_tags}
use Rattle.oer_nesting.proofs.Moved.{Moves, bit_moves, chosen_moves, counted_moves, every_moves, extension_moves, need_moves, tag_moves}
use Rattle.oer_nesting.specs.Deeper.{AdditionsHaveNoEnd, AlternativeHasNoEnd, Deeper, DeeperAdditions, DeeperAlternatives, DeeperFields, FieldsHaveNoEnd, HasNoEnd, OfChosen, OfItems, OfSequence}

-- S and S' spell the values that have P alike
pub record Alike {A : Type 0} (P : A → Type 0) (S S' : A → List ℕ → Type 0) : Type 0 where
  pub there : (x : A) (b : List ℕ) → P x → S x b → S' x b
  pub back : (x : A) (b : List ℕ) → P x → S' x b → S x b

abbrev pub Anything : Places → Type 0
Anything ps = Unit {0}

sequence_moves : (fs gs : Fields) → optional fs ≡ optional gs → (Q : Places → Type 0)
    → ((s : List Bool) → Moves Q (SpellsFields fs s) (SpellsFields gs s))
    → Moves (OfSequence Q Anything) (IsSpelling (sequence fs)) (IsSpelling (sequence gs))
sequence_moves fs gs bits Q f v b n (root, s, p, r, is, e, i, pre, x) =
    let m : Q root × Unit {0} = subst (OfSequence Q Anything) is n in
    (root, s, p, r, is, e, i ∙ bits, pre, f s root r m.0 x)

extensible_moves : (fs gs : Fields) → optional fs ≡ optional gs → (more others : Additions) → all_absent more ≡ all_absent others
    → addition_count more ≡ addition_count others → (Q O : Places → Type 0)
    → ((s : List Bool) → Moves Q (SpellsFields fs s) (SpellsFields gs s))
    → ((s : List Bool) → Moves O (SpellsAdditions more s) (SpellsAdditions others s))
    → Moves (OfSequence Q O) (IsSpelling (extensible_sequence fs more)) (IsSpelling (extensible_sequence gs others))
extensible_moves fs gs bits more others none count Q O f g v b n (root, added, us, x, s, p, r, a, is, e, i, pre, t, ext) =
    let m : Q root × O added = subst (OfSequence Q O) is n in
    let extension = extension_moves x more others none count O (SpellsAdditions more) (SpellsAdditions others) g added us a m.1 ext in
    (root, added, us, x, s, p, r, a, is, e, i ∙ bits, pre, f s root r m.0 t, extension)

items_moves : (size : Size) (T X : AsnType) (P : AsnValue → Type 0) → Moves P (IsSpelling T) (IsSpelling X)
    → Moves (OfItems P) (IsSpelling (sequence_of size T)) (IsSpelling (sequence_of size X))
items_moves size T X P f v b n (vs, q, es, is, e, k, fits, x) =
    (vs, q, es, is, e, k, fits, every_moves P (IsSpelling T) (IsSpelling X) f vs es (subst (OfItems P) is n) x)

choice_moves : (extensible : Bool) (more others : Alternatives) → ((t : Tag) → has_tag t more ≡ has_tag t others)
    → (O : Tag → AsnValue → Type 0) → ((t : Tag) → Moves (O t) (SpellsAlternative more t) (SpellsAlternative others t))
    → Moves (OfChosen O) (IsSpelling (choice extensible more)) (IsSpelling (choice extensible others))
choice_moves extensible more others tags O f v b n (t, p, c, e, tag, k) =
    (t, p, c, e, tag, chosen_moves extensible more others t (tags t) O (SpellsAlternative more t) (SpellsAlternative others t) (f t) v c n k)

abbrev TypesAlike : AsnType → AsnType → Type 0
TypesAlike T X = Alike (HasNoEnd T) (IsSpelling T) (IsSpelling X)

abbrev FieldsAlike : Fields → Fields → Type 0
FieldsAlike fs gs = (s : List Bool) → Alike (FieldsHaveNoEnd fs) (SpellsFields fs s) (SpellsFields gs s)

abbrev AdditionsAlike : Additions → Additions → Type 0
AdditionsAlike more others = (s : List Bool) → Alike (AdditionsHaveNoEnd more) (SpellsAdditions more s) (SpellsAdditions others s)

abbrev AlternativesAlike : Alternatives → Alternatives → Type 0
AlternativesAlike more others = (t : Tag) → Alike (AlternativeHasNoEnd more t) (SpellsAlternative more t) (SpellsAlternative others t)

leaf_alike : (kind : LeafType) → TypesAlike (leaf kind) (leaf kind)
leaf_alike kind = record { there = λ v b n s. s; back = λ v b n s. s }

sequence_alike : (fs gs : Fields) → DeeperFields fs gs → FieldsAlike fs gs → TypesAlike (sequence fs) (sequence gs)
sequence_alike fs gs d f = record {
  there = sequence_moves fs gs (same_optional fs gs d) (FieldsHaveNoEnd fs) (λ s. (f s).there);
  back = sequence_moves gs fs (sym (same_optional fs gs d)) (FieldsHaveNoEnd fs) (λ s. (f s).back);
}

extensible_alike : (fs gs : Fields) → DeeperFields fs gs → (more others : Additions) → DeeperAdditions more others
    → FieldsAlike fs gs → AdditionsAlike more others → TypesAlike (extensible_sequence fs more) (extensible_sequence gs others)
extensible_alike fs gs d more others a f g =
    let bits = same_optional fs gs d in
    let none = same_absent more others a in
    let count = same_count more others a in
    record {
      there = extensible_moves fs gs bits more others none count (FieldsHaveNoEnd fs) (AdditionsHaveNoEnd more) (λ s. (f s).there) (λ s. (g s).there);
      back = extensible_moves gs fs (sym bits) others more (sym none) (sym count) (FieldsHaveNoEnd fs) (AdditionsHaveNoEnd more) (λ s. (f s).back) (λ s. (g s).back);
    }

items_alike : (size : Size) (T X : AsnType) → TypesAlike T X → TypesAlike (sequence_of size T) (sequence_of size X)
items_alike size T X f = record {
  there = items_moves size T X (HasNoEnd T) f.there;
  back = items_moves size X T (HasNoEnd T) f.back;
}

choice_alike : (extensible : Bool) (more others : Alternatives) → DeeperAlternatives more others → AlternativesAlike more others
    → TypesAlike (choice extensible more) (choice extensible others)
choice_alike extensible more others d f =
    let tags = same_tags more others d in
    let O = AlternativeHasNoEnd more in
    record {
      there = λ v b n. choice_moves extensible more others tags O (λ t. (f t).there) v b n.1;
      back = λ v b n. choice_moves extensible others more (λ t. sym (tags t)) O (λ t. (f t).back) v b n.1;
    }

-- no value meets no end of an end
end_alike : (T U : AsnType) → ((v : AsnValue) → HasNoEnd T v → ⊥) → TypesAlike T U
end_alike T U ends = record { there = λ v b n s. absurd (ends v n); back = λ v b n s. absurd (ends v n) }

field_alike : (name : List ℕ) (need : Need) (T X : AsnType) (fs rest : Fields) → TypesAlike T X → FieldsAlike fs rest
    → FieldsAlike (field name need T fs) (field name need X rest)
field_alike name need T X fs rest f g s =
    let Q = FieldsHaveNoEnd fs in
    record {
      there = need_moves need (HasNoEnd T) Q (IsSpelling T) (IsSpelling X) (SpellsFields fs) (SpellsFields rest) f.there (λ s. (g s).there) s;
      back = need_moves need (HasNoEnd T) Q (IsSpelling X) (IsSpelling T) (SpellsFields rest) (SpellsFields fs) f.back (λ s. (g s).back) s;
    }

counted_alike : (P : AsnValue → Type 0) (S S' : AsnValue → List ℕ → Type 0) → Alike P S S' → Alike P (IsCounted S) (IsCounted S')
counted_alike P S S' f = record { there = counted_moves P S S' f.there; back = counted_moves P S' S f.back }

addition_alike : (name : List ℕ) (T X : AsnType) (more rest : Additions) → TypesAlike T X → AdditionsAlike more rest
    → AdditionsAlike (addition name T more) (addition name X rest)
addition_alike name T X more rest f g s =
    let P = HasNoEnd T in
    let Q = AdditionsHaveNoEnd more in
    let S = IsCounted (IsSpelling T) in
    let S' = IsCounted (IsSpelling X) in
    let R = SpellsAdditions more (later_bits s) in
    let R' = SpellsAdditions rest (later_bits s) in
    let c = counted_alike P (IsSpelling T) (IsSpelling X) f in
    record {
      there = bit_moves (first_bit s) P Q S S' R R' c.there (g (later_bits s)).there;
      back = bit_moves (first_bit s) P Q S' S R' R c.back (g (later_bits s)).back;
    }

pub tag_alike : (same : Bool) (P O : AsnValue → Type 0) (S S' R R' : AsnValue → List ℕ → Type 0) → Alike P S S' → Alike O R R'
    → Alike (FitsByTag same P O) (ByTag same S R) (ByTag same S' R')
tag_alike same P O S S' R R' f g = record {
  there = tag_moves same P O S S' R R' f.there g.there;
  back = tag_moves same P O S' S R' R f.back g.back;
}

mutual
  pub types_alike : (T U : AsnType) → Deeper T U → TypesAlike T U
  types_alike (leaf kind) U is = subst (TypesAlike (leaf kind)) (sym is) (leaf_alike kind)
  types_alike (sequence fs) U (gs, is, d) = subst (TypesAlike (sequence fs)) (sym is) (sequence_alike fs gs d (fields_alike fs gs d))
  types_alike (extensible_sequence fs more) U (gs, others, is, d, a) =
      subst (TypesAlike (extensible_sequence fs more)) (sym is)
      (extensible_alike fs gs d more others a (fields_alike fs gs d) (additions_alike more others a))
  types_alike (sequence_of size T) U (X, is, d) = subst (TypesAlike (sequence_of size T)) (sym is) (items_alike size T X (types_alike T X d))
  types_alike (choice extensible more) U (inl end) = end_alike (choice extensible more) U (λ v n. n.0 end)
  types_alike (choice extensible more) U (inr (others, is, d)) =
      subst (TypesAlike (choice extensible more)) (sym is) (choice_alike extensible more others d (alternatives_alike more others d))

  fields_alike : (fs gs : Fields) → DeeperFields fs gs → FieldsAlike fs gs
  fields_alike no_fields gs is =
      subst (FieldsAlike no_fields) (sym is) (λ s. record { there = λ ps b n x. x; back = λ ps b n x. x })
  fields_alike (field name need T fs) gs (X, rest, is, d, ds) =
      subst (FieldsAlike (field name need T fs)) (sym is) (field_alike name need T X fs rest (types_alike T X d) (fields_alike fs rest ds))

  additions_alike : (more others : Additions) → DeeperAdditions more others → AdditionsAlike more others
  additions_alike no_additions others is =
      subst (AdditionsAlike no_additions) (sym is) (λ s. record { there = λ ps b n x. x; back = λ ps b n x. x })
  additions_alike (addition name T more) others (X, rest, is, d, ds) =
      subst (AdditionsAlike (addition name T more)) (sym is)
      (addition_alike name T X more rest (types_alike T X d) (additions_alike more rest ds))

  alternatives_alike : (more others : Alternatives) → DeeperAlternatives more others → AlternativesAlike more others
  alternatives_alike no_alternatives others is =
      subst (AlternativesAlike no_alternatives) (sym is) (λ t. record { there = λ v b n x. x; back = λ v b n x. x })
  alternatives_alike (alternative name u T more) others (X, rest, is, d, ds) =
      subst (AlternativesAlike (alternative name u T more)) (sym is)
      (λ t. tag_alike (same_tag u t) (HasNoEnd T) (AlternativeHasNoEnd more t) (IsSpelling T) (IsSpelling X) (SpellsAlternative more t) (SpellsAlternative rest t)
      (types_alike T X d) (alternatives_alike more rest ds t))
  alternatives_alike (later name u T more) others (X, rest, is, d, ds) =
      subst (AlternativesAlike (later name u T more)) (sym is)
      (λ t. tag_alike (same_tag u t) (HasNoEnd T) (AlternativeHasNoEnd more t) (IsCounted (IsSpelling T)) (IsCounted (IsSpelling X))
      (SpellsAlternative more t) (SpellsAlternative rest t) (counted_alike (HasNoEnd T) (IsSpelling T) (IsSpelling X) (types_alike T X d))
      (alternatives_alike more rest ds t))
