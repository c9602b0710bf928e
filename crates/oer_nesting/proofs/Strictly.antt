-- Values that meet no end are spelt alike by Canonical-OER where ends are replaced.
use Rattle.std.proofs.Common.{◌≡◌, inl, inr, ℕ, List, Bool, sym, ◌∙◌, subst}
use Rattle.oer_units.specs.declared.tagging.Tag.{Tag}
use Rattle.oer_model.specs.LeafType.{LeafType}
use Rattle.oer_model.specs.AsnType.{Additions, Alternatives, AsnType, Fields, Need, addition, alternative, choice, extensible_sequence, field, later, leaf, no_additions, no_alternatives, no_fields, sequence, sequence_of}
use Rattle.oer_model.specs.AsnValue.{AsnValue, Places}
use Rattle.oer_model.specs.Bits.{first_bit, later_bits}
use Rattle.oer_model.specs.Constraints.{addition_count, has_tag, optional, same_tag}
use Rattle.oer_model.specs.Filling.{filled}
use Rattle.oer_model.specs.Fits.{DefaultFits, all_absent}
use Rattle.oer_model.specs.Strict.{IsStrictSpelling, SpellsAdditionsStrictly, SpellsAlternativeStrictly, SpellsFieldsStrictly, StrictCounted}
use Rattle.oer_model.specs.declared.size.Size.{Size}
use Rattle.oer_nesting.proofs.Counted.{same_absent, same_count, same_optional, same_tags}
use Rattle.oer_nesting.proofs.Filled.{filled_same}
use Rattle.oer_nesting.proofs.Moved.{Moves, bit_moves, every_moves, strict_chosen_moves, strict_counted_moves, strict_extension_moves, strict_need_moves}
use Rattle.oer_nesting.proofs.Spelled.{Alike, Anything, tag_alike}
use Rattle.oer_nesting.specs.Deeper.{AdditionsHaveNoEnd, AlternativeHasNoEnd, Deeper, DeeperAdditions, DeeperAlternatives, DeeperFields, FieldsHaveNoEnd, HasNoEnd, OfChosen, OfItems, OfSequence}
use Rattle.oer_nesting.specs.Defaults.{AdditionDefaultsHaveNoEnd, AlternativeDefaultsHaveNoEnd, DefaultsHaveNoEnd, FieldDefaultsHaveNoEnd}

sequence_moves : (fs gs : Fields) → optional fs ≡ optional gs → (Q : Places → Type 0)
    → ((s : List Bool) → Moves Q (SpellsFieldsStrictly fs s) (SpellsFieldsStrictly gs s))
    → Moves (OfSequence Q Anything) (IsStrictSpelling (sequence fs)) (IsStrictSpelling (sequence gs))
sequence_moves fs gs bits Q f v b n (root, s, p, r, is, e, i, pre, x) =
    let m : Q root × Unit {0} = subst (OfSequence Q Anything) is n in
    (root, s, p, r, is, e, i ∙ bits, pre, f s root r m.0 x)

extensible_moves : (fs gs : Fields) → optional fs ≡ optional gs → (more others : Additions) → all_absent more ≡ all_absent others
    → addition_count more ≡ addition_count others → (Q O : Places → Type 0)
    → ((s : List Bool) → Moves Q (SpellsFieldsStrictly fs s) (SpellsFieldsStrictly gs s))
    → ((s : List Bool) → Moves O (SpellsAdditionsStrictly more s) (SpellsAdditionsStrictly others s))
    → Moves (OfSequence Q O) (IsStrictSpelling (extensible_sequence fs more)) (IsStrictSpelling (extensible_sequence gs others))
extensible_moves fs gs bits more others none count Q O f g v b n (root, added, us, x, s, p, r, a, is, e, i, pre, t, ext) =
    let m : Q root × O added = subst (OfSequence Q O) is n in
    let S = SpellsAdditionsStrictly more in
    let S' = SpellsAdditionsStrictly others in
    let extension = strict_extension_moves x more others none count O S S' g added us a m.1 ext in
    (root, added, us, x, s, p, r, a, is, e, i ∙ bits, pre, f s root r m.0 t, extension)

items_moves : (size : Size) (T X : AsnType) (P : AsnValue → Type 0) → Moves P (IsStrictSpelling T) (IsStrictSpelling X)
    → Moves (OfItems P) (IsStrictSpelling (sequence_of size T)) (IsStrictSpelling (sequence_of size X))
items_moves size T X P f v b n (vs, q, es, is, e, k, fits, x) =
    (vs, q, es, is, e, k, fits, every_moves P (IsStrictSpelling T) (IsStrictSpelling X) f vs es (subst (OfItems P) is n) x)

choice_moves : (extensible : Bool) (more others : Alternatives) → ((t : Tag) → has_tag t more ≡ has_tag t others)
    → (O : Tag → AsnValue → Type 0) → ((t : Tag) → Moves (O t) (SpellsAlternativeStrictly more t) (SpellsAlternativeStrictly others t))
    → Moves (OfChosen O) (IsStrictSpelling (choice extensible more)) (IsStrictSpelling (choice extensible others))
choice_moves extensible more others tags O f v b n (t, p, c, e, tag, k) =
    let S = SpellsAlternativeStrictly more t in
    let S' = SpellsAlternativeStrictly others t in
    (t, p, c, e, tag, strict_chosen_moves extensible more others t (tags t) O S S' (f t) v c n k)

abbrev TypesAlike : AsnType → AsnType → Type 0
TypesAlike T X = Alike (HasNoEnd T) (IsStrictSpelling T) (IsStrictSpelling X)

abbrev FieldsAlike : Fields → Fields → Type 0
FieldsAlike fs gs = (s : List Bool) → Alike (FieldsHaveNoEnd fs) (SpellsFieldsStrictly fs s) (SpellsFieldsStrictly gs s)

abbrev AdditionsAlike : Additions → Additions → Type 0
AdditionsAlike more others = (s : List Bool) → Alike (AdditionsHaveNoEnd more) (SpellsAdditionsStrictly more s) (SpellsAdditionsStrictly others s)

abbrev AlternativesAlike : Alternatives → Alternatives → Type 0
AlternativesAlike more others =
    (t : Tag) → Alike (AlternativeHasNoEnd more t) (SpellsAlternativeStrictly more t) (SpellsAlternativeStrictly others t)

leaf_alike : (kind : LeafType) → TypesAlike (leaf kind) (leaf kind)
leaf_alike kind = record { there = λ v b n s. s; back = λ v b n s. s }

sequence_alike : (fs gs : Fields) → DeeperFields fs gs → FieldsAlike fs gs → TypesAlike (sequence fs) (sequence gs)
sequence_alike fs gs d f = record {
  there = sequence_moves fs gs (same_optional fs gs d) (FieldsHaveNoEnd fs) (λ s. (f s).there);
  back = sequence_moves gs fs (sym (same_optional fs gs d)) (FieldsHaveNoEnd fs) (λ s. (f s).back);
}

extensible_alike : (fs gs : Fields) → DeeperFields fs gs → (more others : Additions) → DeeperAdditions more others
    → FieldsAlike fs gs → AdditionsAlike more others → TypesAlike (extensible_sequence fs more) (extensible_sequence gs others)
extensible_alike fs gs d more others a f g =
    let bits = same_optional fs gs d in
    let none = same_absent more others a in
    let count = same_count more others a in
    record {
      there = extensible_moves fs gs bits more others none count (FieldsHaveNoEnd fs) (AdditionsHaveNoEnd more) (λ s. (f s).there) (λ s. (g s).there);
      back = extensible_moves gs fs (sym bits) others more (sym none) (sym count) (FieldsHaveNoEnd fs) (AdditionsHaveNoEnd more) (λ s. (f s).back) (λ s. (g s).back);
    }

items_alike : (size : Size) (T X : AsnType) → TypesAlike T X → TypesAlike (sequence_of size T) (sequence_of size X)
items_alike size T X f = record {
  there = items_moves size T X (HasNoEnd T) f.there;
  back = items_moves size X T (HasNoEnd T) f.back;
}

choice_alike : (extensible : Bool) (more others : Alternatives) → DeeperAlternatives more others → AlternativesAlike more others
    → TypesAlike (choice extensible more) (choice extensible others)
choice_alike extensible more others d f =
    let tags = same_tags more others d in
    let O = AlternativeHasNoEnd more in
    record {
      there = λ v b n. choice_moves extensible more others tags O (λ t. (f t).there) v b n.1;
      back = λ v b n. choice_moves extensible others more (λ t. sym (tags t)) O (λ t. (f t).back) v b n.1;
    }

-- no value meets no end of an end
end_alike : (T U : AsnType) → ((v : AsnValue) → HasNoEnd T v → ⊥) → TypesAlike T U
end_alike T U ends = record { there = λ v b n s. absurd (ends v n); back = λ v b n s. absurd (ends v n) }

field_alike : (name : List ℕ) (need : Need) (T X : AsnType) (fs rest : Fields) → ((v : AsnValue) → HasNoEnd T v → filled T v ≡ filled X v)
    → DefaultFits need (HasNoEnd T) → TypesAlike T X → FieldsAlike fs rest → FieldsAlike (field name need T fs) (field name need X rest)
field_alike name need T X fs rest fills has f g s =
    let P = HasNoEnd T in
    let Q = FieldsHaveNoEnd fs in
    let S = IsStrictSpelling T in
    let S' = IsStrictSpelling X in
    let R = SpellsFieldsStrictly fs in
    let R' = SpellsFieldsStrictly rest in
    record {
      there = strict_need_moves need P Q (filled T) (filled X) fills has S S' R R' f.there (λ s. (g s).there) s;
      back = strict_need_moves need P Q (filled X) (filled T) (λ v n. sym (fills v n)) has S' S R' R f.back (λ s. (g s).back) s;
    }

counted_alike : (P : AsnValue → Type 0) (S S' : AsnValue → List ℕ → Type 0) → Alike P S S' → Alike P (StrictCounted S) (StrictCounted S')
counted_alike P S S' f = record { there = strict_counted_moves P S S' f.there; back = strict_counted_moves P S' S f.back }

addition_alike : (name : List ℕ) (T X : AsnType) (more rest : Additions) → TypesAlike T X → AdditionsAlike more rest
    → AdditionsAlike (addition name T more) (addition name X rest)
addition_alike name T X more rest f g s =
    let P = HasNoEnd T in
    let Q = AdditionsHaveNoEnd more in
    let S = StrictCounted (IsStrictSpelling T) in
    let S' = StrictCounted (IsStrictSpelling X) in
    let R = SpellsAdditionsStrictly more (later_bits s) in
    let R' = SpellsAdditionsStrictly rest (later_bits s) in
    let c = counted_alike P (IsStrictSpelling T) (IsStrictSpelling X) f in
    record {
      there = bit_moves (first_bit s) P Q S S' R R' c.there (g (later_bits s)).there;
      back = bit_moves (first_bit s) P Q S' S R' R c.back (g (later_bits s)).back;
    }

mutual
  pub types_alike : (T U : AsnType) → Deeper T U → DefaultsHaveNoEnd T → TypesAlike T U
  types_alike (leaf kind) U is has = subst (TypesAlike (leaf kind)) (sym is) (leaf_alike kind)
  types_alike (sequence fs) U (gs, is, d) has =
      subst (TypesAlike (sequence fs)) (sym is) (sequence_alike fs gs d (fields_alike fs gs d has))
  types_alike (extensible_sequence fs more) U (gs, others, is, d, a) has =
      subst (TypesAlike (extensible_sequence fs more)) (sym is)
      (extensible_alike fs gs d more others a (fields_alike fs gs d has.0) (additions_alike more others a has.1))
  types_alike (sequence_of size T) U (X, is, d) has =
      subst (TypesAlike (sequence_of size T)) (sym is) (items_alike size T X (types_alike T X d has))
  types_alike (choice extensible more) U (inl end) has = end_alike (choice extensible more) U (λ v n. n.0 end)
  types_alike (choice extensible more) U (inr (others, is, d)) has =
      subst (TypesAlike (choice extensible more)) (sym is) (choice_alike extensible more others d (alternatives_alike more others d has))

  fields_alike : (fs gs : Fields) → DeeperFields fs gs → FieldDefaultsHaveNoEnd fs → FieldsAlike fs gs
  fields_alike no_fields gs is has =
      subst (FieldsAlike no_fields) (sym is) (λ s. record { there = λ ps b n x. x; back = λ ps b n x. x })
  fields_alike (field name need T fs) gs (X, rest, is, d, ds) has =
      subst (FieldsAlike (field name need T fs)) (sym is)
      (field_alike name need T X fs rest (filled_same T X d has.0) has.1 (types_alike T X d has.0) (fields_alike fs rest ds has.2))

  additions_alike : (more others : Additions) → DeeperAdditions more others → AdditionDefaultsHaveNoEnd more → AdditionsAlike more others
  additions_alike no_additions others is has =
      subst (AdditionsAlike no_additions) (sym is) (λ s. record { there = λ ps b n x. x; back = λ ps b n x. x })
  additions_alike (addition name T more) others (X, rest, is, d, ds) has =
      subst (AdditionsAlike (addition name T more)) (sym is)
      (addition_alike name T X more rest (types_alike T X d has.0) (additions_alike more rest ds has.1))

  alternatives_alike : (more others : Alternatives) → DeeperAlternatives more others → AlternativeDefaultsHaveNoEnd more
      → AlternativesAlike more others
  alternatives_alike no_alternatives others is has =
      subst (AlternativesAlike no_alternatives) (sym is) (λ t. record { there = λ v b n x. x; back = λ v b n x. x })
  alternatives_alike (alternative name u T more) others (X, rest, is, d, ds) has =
      subst (AlternativesAlike (alternative name u T more)) (sym is)
      (λ t. tag_alike (same_tag u t) (HasNoEnd T) (AlternativeHasNoEnd more t) (IsStrictSpelling T) (IsStrictSpelling X)
      (SpellsAlternativeStrictly more t) (SpellsAlternativeStrictly rest t) (types_alike T X d has.0) (alternatives_alike more rest ds has.1 t))
  alternatives_alike (later name u T more) others (X, rest, is, d, ds) has =
      subst (AlternativesAlike (later name u T more)) (sym is)
      (λ t. tag_alike (same_tag u t) (HasNoEnd T) (AlternativeHasNoEnd more t) (StrictCounted (IsStrictSpelling T)) (StrictCounted (IsStrictSpelling X))
      (SpellsAlternativeStrictly more t) (SpellsAlternativeStrictly rest t)
      (counted_alike (HasNoEnd T) (IsStrictSpelling T) (IsStrictSpelling X) (types_alike T X d has.0)) (alternatives_alike more rest ds has.1 t))
