-- The tokens of a type are the type, and its text falls into them.
use Rattle.std.proofs.Common.{◌≡◌, ℕ, ◌+◌, List, [], ◌∷◌, ◌++◌, Bool, true, false, cond, ◌&&◌, inl, inr, Option, Some, None, Ok, refl, subst, append-nil}
use Rattle.std.specs.Prelude.{IfSome, codes}
use Rattle.std.proofs.lemmas.Bool.{and_parts}
use Rattle.oer_lexer.specs.FallsInto.{FallsInto}
use Rattle.oer_lexer.specs.LeafWords.{behind_second, with_words, words_of}
use Rattle.oer_lexer.specs.Token.{Token, sign}
use Rattle.oer_lexer.specs.declared.leaf.LeafWord.{LeafWord}
use Rattle.oer_lexer.specs.declared.leaf.LeafWord.TheVariants as words
use Rattle.oer_lexer.specs.declared.token.Sign.TheVariants.{Comma}
use Rattle.oer_model.specs.LeafType as kind
use Rattle.oer_model.specs.LeafType.{LeafType, string_size}
use Rattle.oer_model.specs.AsnType.{Additions, Alternatives, AsnType, Fields, Need, addition, alternative, choice, default, extensible_sequence, field, ia5, later, leaf, may, must, no_additions, no_alternatives, no_fields, numeric, printable, sequence, sequence_of, visible}
use Rattle.oer_model.specs.Fits.{Fits, DefaultFits, DefaultsFit, FieldDefaultsFit, AdditionDefaultsFit, AlternativeDefaultsFit}
use Rattle.oer_model.specs.Laws.{WellFormedDefaults}
use Rattle.oer_model.specs.WellFormed.{AnyOf, Repeats, Somewhere, InFields, InAdditions, InAlternatives, HasNoItems, IsWellFormed, is_identifier, names, item_names, field_names, addition_names, alternative_names}
use Rattle.oer_model.specs.Widths.{AdditionsHaveWidths, AlternativesHaveWidths, AreInOrder, AreLater as AllLater, FieldsHaveWidths, HasWidths, HasSizeWidths, LeafHasWidths}
use Rattle.oer_model.specs.declared.fault.SchemaFault.TheVariants.{BadName, RepeatedName, NoItems}
use Rattle.oer_model.specs.declared.size.Size.{Size}
use Rattle.oer_units.specs.Laws.{HasTagNumber}
use Rattle.oer_units.specs.declared.tagging.Tag.{Tag}
use Rattle.oer_notation.specs.Grammar.{Spells, IsNeed, needed, optional, with_default, plain_addition, in_brackets, IsLeaf, bounds_behind, items_behind, nothing_behind, size_behind, IsType, leaf_type, empty_sequence_type, sequence_type, extensible_sequence_type, sequence_of_type, choice_type, AreComponents, no_components, component, components_marker, AreAdditions, none_added, added, AreAlternatives, none_left, an_alternative, alternatives_marker, AreLater, none_later, a_later}
use Rattle.oer_value_notation.specs.Leaves.{LeafForm, bounded, leaf_form, listed, plain as unconstrained, sized}
use Rattle.oer_notation.specs.Laws.{ParseComplete}
use Rattle.oer_notation.specs.Parsing.{parse}
use Rattle.oer_literals.specs.Items.{items_of, leaf_items}
use Rattle.oer_printer.specs.Printing.{constraint_tokens, printed, size_if, size_tokens, spaced, words_for, after_commas, marker, marker_if, need_tokens, type_tokens, field_parts, addition_parts, root_parts, later_parts, has_notation, need_has_notation, have_notation, additions_have_notation, alternatives_have_notation}
use Rattle.oer_text.proofs.PrintedNumbers.{AllIds, ids, split_ids, id_given, is_word_text, worded}
use Rattle.oer_text.proofs.PrintedParts.{bounds_given, size_given, items_given, tag_given}
use Rattle.oer_text.proofs.PrintedText.{AreTokens, no_tokens, plain, single, both, falls_into}
use Rattle.oer_text.proofs.PrintedValues.{value_given}

-- ---- what well-formed types don't have

abbrev HasBadNames : AsnType → Type 0
HasBadNames T = AnyOf (λ name. is_identifier name ≡ false) (names T)

abbrev RepeatsNames : AsnType → Type 0
RepeatsNames T = Repeats (names T)

-- nowhere in a part of the type
record Clean (S : (AsnType → Type 0) → Type 0) : Type 0 where
  named : S HasBadNames → ⊥
  once : S RepeatsNames → ⊥
  some : S HasNoItems → ⊥

narrow : {S R : (AsnType → Type 0) → Type 0} → Clean S → ((Q : AsnType → Type 0) → R Q → S Q) → Clean R
narrow c f = record { named = λ r. c.named (f HasBadNames r); once = λ r. c.once (f RepeatsNames r); some = λ r. c.some (f HasNoItems r) }

leaf_item_ids : (kind : LeafType) → (HasBadNames (leaf kind) → ⊥) → AllIds (item_names (leaf_items kind))
leaf_item_ids (kind.enumerated is _) h = ids (item_names is) h
leaf_item_ids _ h = tt

item_ids : (T : AsnType) → (Somewhere HasBadNames T → ⊥) → AllIds (item_names (items_of T))
item_ids (leaf kind) h = leaf_item_ids kind h
item_ids _ h = tt

leaf_items_once : (kind : LeafType) → (RepeatsNames (leaf kind) → ⊥) → Repeats (item_names (leaf_items kind)) → ⊥
leaf_items_once (kind.enumerated is _) h r = h r
leaf_items_once _ h r = r

items_once : (T : AsnType) → (Somewhere RepeatsNames T → ⊥) → Repeats (item_names (items_of T)) → ⊥
items_once (leaf kind) h r = leaf_items_once kind h r
items_once _ h r = r

-- ---- parts

drop_comma : {ts : List Token} → AreTokens (sign Comma ∷ ts) → AreTokens ts
drop_comma (plain p i a) = absurd (cc)
drop_comma (single s a) = a

need_given : (T : AsnType) (need : Need) → Clean (λ Q. Somewhere Q T) → DefaultFits need (Fits T) → need_has_notation (items_of T) need ≡ true → IsNeed T need (need_tokens (items_of T) need) × AreTokens (need_tokens (items_of T) need)
need_given T must c f n = (needed, no_tokens)
need_given T may c f n = (optional, worded (codes "OPTIONAL") refl no_tokens)
need_given T (default v) c f n =
    let g = value_given T v (item_ids T c.named) (items_once T c.once) f n in
    (with_default g.0, worded (codes "DEFAULT") refl g.1)

-- what is said of a type, and of parts with commas between them
abbrev Printed : AsnType → Type 0
Printed T = IsType [] T (type_tokens T) × AreTokens (type_tokens T)

abbrev PrintedFields : Fields → Option Additions → List (List Token) → Type 0
PrintedFields fs more ps = AreComponents [] fs more (after_commas ps) × AreTokens (after_commas ps)

sequence_from : (fs : Fields) → PrintedFields fs None (field_parts fs) → Printed (sequence fs)
sequence_from no_fields r = (empty_sequence_type, worded (codes "SEQUENCE") refl (single refl (single refl no_tokens)))
sequence_from (field name need T fs) r = (sequence_type r.0, worded (codes "SEQUENCE") refl (single refl (both (drop_comma r.1) (single refl no_tokens))))

extensible_from : (fs : Fields) (more : Additions) → PrintedFields fs (Some more) (field_parts fs ++ marker ∷ addition_parts more) → Printed (extensible_sequence fs more)
extensible_from no_fields more r = (extensible_sequence_type r.0, worded (codes "SEQUENCE") refl (single refl (both (drop_comma r.1) (single refl no_tokens))))
extensible_from (field name need T fs) more r = (extensible_sequence_type r.0, worded (codes "SEQUENCE") refl (single refl (both (drop_comma r.1) (single refl no_tokens))))

abbrev PrintedAlternatives : Bool → ℕ → Alternatives → List (List Token) → Type 0
PrintedAlternatives extensible place more ps = AreAlternatives [] true place more extensible (after_commas ps) × AreTokens (after_commas ps)

choice_from : (extensible : Bool) (more : Alternatives) → (HasNoItems (choice extensible more) → ⊥) → PrintedAlternatives extensible 0 more (root_parts more ++ (marker_if extensible ++ later_parts more)) → Printed (choice extensible more)
choice_from extensible no_alternatives h r = absurd (h tt)
choice_from extensible (alternative name t T more) h r = (choice_type r.0, worded (codes "CHOICE") refl (single refl (both (drop_comma r.1) (single refl no_tokens))))
choice_from extensible (later name t T more) h r = absurd (h tt)

none_before : (more : Alternatives) → AllLater more → root_parts more ≡ []
none_before no_alternatives h = refl
none_before (alternative name t T more) h = absurd h
none_before (later name t T more) h = none_before more h

abbrev PrintedLater : ℕ → Alternatives → Type 0
PrintedLater place more = AreLater [] true place more (after_commas (later_parts more)) × AreTokens (after_commas (later_parts more))

behind_marker : (extensible : Bool) (place : ℕ) (more : Alternatives) (ps : List (List Token)) → extensible ≡ true → ps ≡ [] → PrintedLater place more → PrintedAlternatives extensible place more (ps ++ (marker_if extensible ++ later_parts more))
behind_marker false place more ps e f r = absurd (cc)
behind_marker true place more [] e f r = (alternatives_marker r.0, single refl (single refl r.1))
behind_marker true place more (p ∷ ps) e f r = absurd (cc)

later_step : (place : ℕ) (name : List ℕ) (t : Tag) (T : AsnType) (more : Alternatives) → is_identifier name ≡ true → HasTagNumber t → Printed T → PrintedLater (place + 1) more → PrintedLater place (later name t T more)
later_step place name t T more i l d r =
    let n = id_given name i in
    let g = tag_given t place l in
    (a_later n.0 g.0 d.0 r.0, single refl (plain refl n.1 (both (both g.1 d.1) r.1)))

-- ---- types

-- what stands behind the words is a size, or nothing
abbrev Makes : LeafForm → Option Size → LeafType → Type 0
Makes (unconstrained L) None M = L ≡ M
Makes (unconstrained L) (Some size) M = ⊥
Makes (bounded make) o M = ⊥
Makes (listed make) o M = ⊥
Makes (sized make) None M = ⊥
Makes (sized make) (Some size) M = make size ≡ M

abbrev Behind : LeafForm → LeafType → List Token → Type 0
Behind n L ts = IsLeaf n L ts × AreTokens ts

sized_given : (n : LeafForm) (o : Option Size) (L : LeafType) → Makes n o L → IfSome o HasSizeWidths → Behind n L (size_if o)
sized_given (unconstrained L) None M e h = (subst (λ M. IsLeaf (unconstrained L) M []) e nothing_behind, no_tokens)
sized_given (unconstrained L) (Some size) M e h = absurd e
sized_given (bounded make) o M e h = absurd e
sized_given (listed make) o M e h = absurd e
sized_given (sized make) None M e h = absurd e
sized_given (sized make) (Some size) M e h =
    let z = size_given size h in
    (subst (λ M. IsLeaf (sized make) M (size_tokens size)) e (size_behind z.0), z.1)

constraint_given : (kind : LeafType) → Clean (λ Q. Q (leaf kind)) → LeafHasWidths kind → Behind (leaf_form (words_for kind)) kind (constraint_tokens kind)
constraint_given (kind.integer low high) c h = let b = bounds_given low high h.0 h.1 in (bounds_behind b.0, b.1)
constraint_given (kind.enumerated [] extensible) c h = absurd (c.some tt)
constraint_given (kind.enumerated (i ∷ is) extensible) c h =
    let r = items_given (i ∷ is) extensible 0 (ids (item_names (i ∷ is)) c.named) h in
    (items_behind r.0, single refl (both (drop_comma r.1) (single refl no_tokens)))
constraint_given (kind.restricted_string ia5 size) c h = sized_given _ (Some size) _ refl h
constraint_given (kind.restricted_string visible size) c h = sized_given _ (Some size) _ refl h
constraint_given (kind.restricted_string numeric size) c h = sized_given _ (Some size) _ refl h
constraint_given (kind.restricted_string printable size) c h = sized_given _ (Some size) _ refl h
constraint_given L c h = sized_given (leaf_form (words_for L)) (string_size L) L refl h

first_text : (k : LeafWord) → is_word_text (words_of k).0 ≡ true
first_text words.Boolean = refl
first_text _ = refl

abbrev is_second_text : Option (List ℕ) → Bool
is_second_text None = true
is_second_text (Some w) = is_word_text w

second_text : (k : LeafWord) → is_second_text (words_of k).1 ≡ true
second_text words.Boolean = refl
second_text _ = refl

second_spelt : (o : Option (List ℕ)) (ts : List Token) → is_second_text o ≡ true → AreTokens ts → AreTokens (behind_second o ts)
second_spelt None ts h a = a
second_spelt (Some w) ts h a = worded w h a

words_spelt : (k : LeafWord) (ts : List Token) → AreTokens ts → AreTokens (with_words k ts)
words_spelt k ts a = worded (words_of k).0 (first_text k) (second_spelt (words_of k).1 ts (second_text k) a)

leaf_type_given : (kind : LeafType) → Clean (λ Q. Q (leaf kind)) → LeafHasWidths kind → Printed (leaf kind)
leaf_type_given kind c h =
    let b = constraint_given kind c h in
    (leaf_type (words_for kind) b.0, words_spelt (words_for kind) (constraint_tokens kind) b.1)

mutual
  types_given : (T : AsnType) → Clean (λ Q. Somewhere Q T) → DefaultsFit T → HasWidths T → has_notation T ≡ true → Printed T
  types_given (leaf kind) c d h n = leaf_type_given kind c h
  types_given (sequence fs) c d h n =
      let r = fields_given fs (ids (field_names fs) (λ a. c.named (inl a))) (narrow c (λ Q q. inr q)) d h n None [] (no_components, no_tokens) in
      sequence_from fs (subst (PrintedFields fs None) (append-nil (field_parts fs)) r)
  types_given (extensible_sequence fs more) c d h n =
      let p = and_parts (have_notation fs) (additions_have_notation more) n in
      let i = split_ids (field_names fs) (addition_names more) (ids (field_names fs ++ addition_names more) (λ a. c.named (inl a))) in
      let a = additions_given more i.1 (narrow c (λ Q q. inr (inr q))) d.1 h.1 p.1 in
      extensible_from fs more (fields_given fs i.0 (narrow c (λ Q q. inr (inl q))) d.0 h.0 p.0 (Some more) (marker ∷ addition_parts more) (components_marker a.0, single refl (single refl a.1)))
  types_given (sequence_of size T) c d h n =
      let z = size_given size h.0 in
      let t = types_given T (narrow c (λ Q q. inr q)) d h.1 n in
      (sequence_of_type (in_brackets z.0) t.0, worded (codes "SEQUENCE") refl (both z.1 (worded (codes "OF") refl t.1)))
  types_given (choice extensible more) c d h n =
      choice_from extensible more (λ e. c.some (inl e)) (alternatives_given more extensible 0 (ids (alternative_names more) (λ a. c.named (inl a))) (narrow c (λ Q q. inr q)) d h.1 h.0 n)

  fields_given : (fs : Fields) → AllIds (field_names fs) → Clean (λ Q. InFields Q fs) → FieldDefaultsFit fs → FieldsHaveWidths fs → have_notation fs ≡ true → (more : Option Additions) (rest : List (List Token)) → PrintedFields no_fields more rest
      → PrintedFields fs more (field_parts fs ++ rest)
  fields_given no_fields a c d h n more rest r = r
  fields_given (field name need T fs) a c d h n more rest r =
      let p = and_parts (has_notation T && need_has_notation (items_of T) need) (have_notation fs) n in
      let q = and_parts (has_notation T) (need_has_notation (items_of T) need) p.0 in
      let i = id_given name a.0 in
      let here = narrow c (λ Q q. inl q) in
      let t = types_given T here d.0 h.0 q.0 in
      let k = need_given T need here d.1 q.1 in
      let s = fields_given fs a.1 (narrow c (λ Q q. inr q)) d.2 h.1 p.1 more rest r in
      (component i.0 t.0 k.0 s.0, single refl (plain refl i.1 (both (both t.1 k.1) s.1)))

  additions_given : (more : Additions) → AllIds (addition_names more) → Clean (λ Q. InAdditions Q more) → AdditionDefaultsFit more → AdditionsHaveWidths more → additions_have_notation more ≡ true
      → AreAdditions [] more (after_commas (addition_parts more)) × AreTokens (after_commas (addition_parts more))
  additions_given no_additions a c d h n = (none_added, no_tokens)
  additions_given (addition name T more) a c d h n =
      let p = and_parts (has_notation T) (additions_have_notation more) n in
      let i = id_given name a.0 in
      let t = types_given T (narrow c (λ Q q. inl q)) d.0 h.0 p.0 in
      let s = additions_given more a.1 (narrow c (λ Q q. inr q)) d.1 h.1 p.1 in
      (added i.0 t.0 plain_addition s.0, single refl (plain refl i.1 (both (both t.1 no_tokens) s.1)))

  alternatives_given : (more : Alternatives) (extensible : Bool) (place : ℕ) → AllIds (alternative_names more) → Clean (λ Q. InAlternatives Q more) → AlternativeDefaultsFit more → AlternativesHaveWidths more → AreInOrder extensible more
      → alternatives_have_notation more ≡ true → PrintedAlternatives extensible place more (root_parts more ++ (marker_if extensible ++ later_parts more))
  alternatives_given no_alternatives true place a c d h o n = (alternatives_marker none_later, single refl (single refl no_tokens))
  alternatives_given no_alternatives false place a c d h o n = (none_left, no_tokens)
  alternatives_given (alternative name t T more) extensible place a c d h o n =
      let p = and_parts (has_notation T) (alternatives_have_notation more) n in
      let i = id_given name a.0 in
      let g = tag_given t place h.0 in
      let u = types_given T (narrow c (λ Q q. inl q)) d.0 h.1 p.0 in
      let s = alternatives_given more extensible (place + 1) a.1 (narrow c (λ Q q. inr q)) d.1 h.2 o p.1 in
      (an_alternative i.0 g.0 u.0 s.0, single refl (plain refl i.1 (both (both g.1 u.1) s.1)))
  alternatives_given (later name t T more) extensible place a c d h o n =
      let p = and_parts (has_notation T) (alternatives_have_notation more) n in
      let u = types_given T (narrow c (λ Q q. inl q)) d.0 h.1 p.0 in
      let s = later_given more (place + 1) a.1 (narrow c (λ Q q. inr q)) d.1 h.2 o.1 p.1 in
      behind_marker extensible place (later name t T more) (root_parts more) o.0 (none_before more o.1) (later_step place name t T more a.0 h.0 u s)

  later_given : (more : Alternatives) (place : ℕ) → AllIds (alternative_names more) → Clean (λ Q. InAlternatives Q more) → AlternativeDefaultsFit more → AlternativesHaveWidths more → AllLater more → alternatives_have_notation more ≡ true → PrintedLater place more
  later_given no_alternatives place a c d h o n = (none_later, no_tokens)
  later_given (alternative name t T more) place a c d h o n = absurd o
  later_given (later name t T more) place a c d h o n =
      let p = and_parts (has_notation T) (alternatives_have_notation more) n in
      let u = types_given T (narrow c (λ Q q. inl q)) d.0 h.1 p.0 in
      later_step place name t T more a.0 h.0 u (later_given more (place + 1) a.1 (narrow c (λ Q q. inr q)) d.1 h.2 o p.1)

type_given : (T : AsnType) → IsWellFormed T → DefaultsFit T → has_notation T ≡ true → Printed T
type_given T w d n = types_given T (record { named = w.faultless BadName; once = w.faultless RepeatedName; some = w.faultless NoItems }) d w.widths n

-- ---- the text

given_text : (b : Bool) (x text : List ℕ) → cond b (Some x) None ≡ Some text → (b ≡ true) × (x ≡ text)
given_text true x text e = (refl, cc)
given_text false x text e = absurd (cc)

printed_spells : (T : AsnType) (text : List ℕ) → IsWellFormed T → DefaultsFit T → printed T ≡ Some text → Spells T text
printed_spells T text w d e =
    let g = given_text (has_notation T) (spaced (type_tokens T)) text e in
    let t = type_given T w d g.0 in
    (type_tokens T, subst (λ bs. FallsInto bs (type_tokens T)) g.1 (falls_into t.1), t.0)

pub printed_read : ParseComplete → WellFormedDefaults → (T : AsnType) (text : List ℕ) → IsWellFormed T → printed T ≡ Some text → parse text ≡ Ok T
printed_read complete fit T text w e = complete text T (printed_spells T text w (fit T w) e) w
