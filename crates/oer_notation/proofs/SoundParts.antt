-- Types that are read are spelt so.
use Rattle.std.proofs.Common.{◌≡◌, ℕ, zero, suc, ◌+◌, ◌^◌, ℤ, pos, List, [], ◌∷◌, ◌++◌, Bool, true, false, not, ◌&&◌, ◌⊎◌, inl, inr, Option, Some, None, Ok, refl, sym, ap, ap₂, subst, ◌∙◌, append_assoc}
use Rattle.std.specs.Prelude.{codes}
use Rattle.std.proofs.lemmas.Bool.{and_parts}
use Rattle.std.specs.Int.{w64}
use Rattle.oer_lexer.specs.LeafWords.{behind_second, words_of}
use Rattle.oer_lexer.specs.declared.leaf.LeafWord.{LeafWord}
use Rattle.oer_lexer.specs.Token.{Token, word, sign}
use Rattle.oer_lexer.specs.declared.token.Sign.TheVariants.{OpenBrace, CloseBrace, OpenParenthesis, CloseParenthesis, OpenBracket, CloseBracket, Comma, Ellipsis}
use Rattle.oer_units.specs.declared.tagging.Class.{Class}
use Rattle.oer_units.specs.declared.tagging.Class.TheVariants.{Universal, Application, Context, Private}
use Rattle.oer_units.specs.declared.tagging.Tag.{Tag}
use Rattle.oer_model.specs.LeafType.{LeafType}
use Rattle.oer_model.specs.AsnType.{NamedNumber, AsnType, leaf, sequence_of, Additions, Alternatives, no_alternatives, alternative}
use Rattle.oer_values.specs.ShapeView.{SeenField, SeenAddition, SeenAlternative, fields_from, additions_from, later_from, root_from}
use Rattle.oer_notation.specs.Grammar.{IsId, IsInteger, IsNatural, IsItemNumber, own_number, number_by_place, AreItems, no_items, item, items_marker, IsClass, universal, application, private, context, IsTag, own_tag, tag_by_place, MayBeOptional, plain_addition, optional_addition, IsNeed, IsLeaf, bounds_behind, items_behind, nothing_behind, size_behind, IsType, leaf_type, empty_sequence_type, sequence_type, extensible_sequence_type, sequence_of_type, choice_type, AreComponents, no_components as none_there, component, components_marker, AreAdditions, none_added, added as an_addition, AreAlternatives, none_left, an_alternative, alternatives_marker, AreLater, none_later, a_later}
use Rattle.oer_literals.specs.Numbers.{item_number_of, tag_number_of}
use Rattle.oer_value_notation.specs.Leaves.{LeafForm, bounded, leaf_form, listed, plain, sized}
use Rattle.oer_value_notation.specs.Numbers.{number_at, bounds_at, bracketed_size_at, list_size_at}
use Rattle.oer_value_notation.specs.State.{State, Read, ◌>>=◌, bump, at_sign, at_word, skip_sign, skip_word, id_at, part_at, full}
use Rattle.oer_value_notation.specs.Values.{need_at}
use Rattle.oer_notation.specs.Reading.{Known, most, past_marker, go_on, NamedItems, item_number_at, numbered_at, item_at, items_more, items_at, class_at, tag_at, tagged_at, leaf_at, leaf_type_at, skip_second, Components, with_marker, with_field, with_addition, Choices, sequence_of_components, choice_of_choices, no_components, no_choices, past_optional, field_at, addition_at, alternative_at, component_at, components_more, alternatives_more, body_at, structure_at, list_at, sequence_at, choice_at, word_type}
use Rattle.oer_value_notation.specs.declared.word.TypeWord.{TypeWord}
use Rattle.oer_value_notation.specs.declared.word.TypeWord.TheVariants as tw
use Rattle.oer_notation.proofs.SoundNumbers.{item_number_sound, tag_number_sound, bounds_took, bracketed_took, list_size_took}
use Rattle.oer_notation.proofs.SoundValues.{need_took}
use Rattle.oer_notation.proofs.Took.{bind_ok, chosen, same_ok, Took, stay, both, turned, after, ends, answered, one_is, sign_took, word_took, skip_sign_took, skip_word_took, number_took, id_took, id_is, part_took, unmoved}
use Rattle.oer_notation.proofs.WordTable.{word_of}

-- ---- lists joined by commas

-- whether a marker follows, and what is left behind it
pub past_cases : (s : State) → ((past_marker false s ≡ (true, bump (bump s))) × Took s (bump (bump s)) (λ ts. ts ≡ sign Comma ∷ sign Ellipsis ∷ [])) ⊎ (past_marker false s ≡ (false, s))
past_cases s = elim (chosen {A = Bool × State} (at_sign Comma s && at_sign Ellipsis (bump s)) (true, bump (bump s)) (false, s) (past_marker false s) refl) [
  | inl p ↦ (
      let q = and_parts (at_sign Comma s) (at_sign Ellipsis (bump s)) p.0 in
      inl (sym p.1, after (sign Comma) (λ ts. ts ≡ sign Comma ∷ sign Ellipsis ∷ []) (sign_took Comma s q.0) (sign_took Ellipsis (bump s) q.1) (λ b e. ap (λ b. sign Comma ∷ b) e)))
  | inr p ↦ inr (sym p.1)
]

-- ---- items

item_number_took : (place : ℕ) (s : State) (r : ℤ × State) → item_number_at s ≡ Ok r → Took s r.1 (IsItemNumber true place r.0)
unfolding item_number_at
item_number_took place s r h = elim (chosen (not (at_sign OpenParenthesis s)) _ _ _ h) [
  | inl p ↦ absurd (cc)
  | inr p ↦ (
      let n = bind_ok (number_at item_number_of (bump s)) _ r p.1 in
      let over = bind_ok (skip_sign CloseParenthesis n.0.1) _ r n.2 in
      let t = number_took item_number_of (IsInteger w64) item_number_sound (bump s) n.0 n.1 in
      let R : List Token → Type 0 = IsItemNumber true place n.0.0 in
      let z = after t.holds.0 (λ ts. R (sign OpenParenthesis ∷ ts)) (one_is t) (skip_sign_took CloseParenthesis n.0.1 over.0 over.1) (λ b e. subst (λ b. R (sign OpenParenthesis ∷ t.holds.0 ∷ b)) (sym e) (own_number t.holds.2)) in
      answered (IsItemNumber true place) (n.0.0, over.0.1) r over.2 (after (sign OpenParenthesis) R (sign_took OpenParenthesis s (not_true _ p.0)) z (λ b e. e)))
]
  where
    not_true : (b : Bool) → not b ≡ false → b ≡ true
    not_true true h = refl
    not_true false h = absurd (cc)

numbered_took : (numbered : Bool) (place : ℕ) (s : State) (r : ℤ × State) → numbered_at numbered place s ≡ Ok r → Took s r.1 (IsItemNumber numbered place r.0)
unfolding numbered_at
numbered_took true place s r h = item_number_took place s r h
numbered_took false place s r h = elim (chosen (at_sign OpenParenthesis s) _ _ _ h) [
  | inl p ↦ absurd (cc)
  | inr p ↦ answered (IsItemNumber false place) (pos place, s) r p.1 (stay s (IsItemNumber false place (pos place)) number_by_place)
]

-- an id and its number
abbrev IsNumbered : Bool → ℕ → NamedNumber → List Token → Type 0
IsNumbered numbered place i ts = (us : List Token) × (ts ≡ word i.name ∷ us) × IsId i.name × IsItemNumber numbered place i.number us

item_took : (numbered : Bool) (place : ℕ) (s : State) (r : NamedNumber × State) → item_at numbered place s ≡ Ok r → Took s r.1 (IsNumbered numbered place r.0)
unfolding item_at
item_took numbered place s r h =
    let c = bind_ok (id_at s) _ r h in
    let d = bind_ok (part_at (full s) c.0.1) _ r c.2 in
    let n = bind_ok (numbered_at numbered place d.0.1) _ r d.2 in
    let i = id_took s c.0 c.1 in
    let z = unmoved (part_took (full s) c.0.1 d.0 d.1) (numbered_took numbered place d.0.1 n.0 n.1) in
    let x : NamedNumber = record { name = c.0.0; number = n.0.0 } in
    answered (IsNumbered numbered place) (x, n.0.1) r n.2 (after (word c.0.0) (IsNumbered numbered place x) (id_is i) z (λ b e. (b, refl, i.holds.1, e)))

-- items, the first without a comma in front
abbrev Listed : Bool → ℕ → List NamedNumber → Bool → List Token → Type 0
Listed numbered place is marker ts = (w : List ℕ) × (us : List Token) × (ts ≡ word w ∷ us) × AreItems numbered place is marker (sign Comma ∷ word w ∷ us)

one_listed : (numbered : Bool) (place : ℕ) (i : NamedNumber) (is : List NamedNumber) (marker : Bool) (a b : List Token) → IsNumbered numbered place i a → AreItems numbered (place + 1) is marker b → Listed numbered place (i ∷ is) marker (a ++ b)
one_listed numbered place i is marker a b p q = (i.name, p.0 ++ b, ap (λ a. a ++ b) p.1, item p.2 p.3 q)

-- behind a comma
behind : {numbered : Bool} {place : ℕ} {is : List NamedNumber} {marker : Bool} {ts : List Token} → Listed numbered place is marker ts → AreItems numbered place is marker (sign Comma ∷ ts)
behind {numbered} {place} {is} {marker} p = subst (λ ts. AreItems numbered place is marker (sign Comma ∷ ts)) (sym p.2) p.3

abbrev MoreItems : Bool → ℕ → List NamedNumber → State → NamedItems × State → Type 0
MoreItems numbered place found s r = (is : List NamedNumber) × (r.0 ≡ (found ++ is, true)) × Took s r.1 (Listed numbered place is false)

marked_items : (numbered : Bool) (n place : ℕ) (found : List NamedNumber) (s : State) (r : NamedItems × State) → items_more numbered n place (found, true) s ≡ Ok r → MoreItems numbered place found s r
unfolding items_more
marked_items numbered zero place found s r h = absurd (cc)
marked_items numbered (suc n) place found s r h =
    let i = bind_ok (item_at numbered place s) _ r h in
    let t = item_took numbered place s i.0 i.1 in
    elim (chosen (at_sign Comma i.0.1) _ _ _ i.2) [
      | inl p ↦ (
          let m = marked_items numbered n (place + 1) (found ++ i.0.0 ∷ []) (bump i.0.1) r p.1 in
          let z = after (sign Comma) (AreItems numbered (place + 1) m.0 false) (sign_took Comma i.0.1 p.0) m.2 (λ b e. behind e) in
          (i.0.0 ∷ m.0, m.1 ∙ ap (λ x. (x, true)) (append_assoc found (i.0.0 ∷ []) m.0), both (Listed numbered place (i.0.0 ∷ m.0) false) t z (λ a b e f. one_listed numbered place i.0.0 m.0 false a b e f)))
      | inr p ↦ (
          let e = same_ok ((found ++ i.0.0 ∷ [], true), i.0.1) r p.1 in
          subst (MoreItems numbered place found s) e (i.0.0 ∷ [], refl, both (Listed numbered place (i.0.0 ∷ []) false) t (stay i.0.1 (AreItems numbered (place + 1) [] false) no_items) (λ a b e f. one_listed numbered place i.0.0 [] false a b e f)))
    ]

abbrev SomeItems : Bool → ℕ → List NamedNumber → State → NamedItems × State → Type 0
SomeItems numbered place found s r = (is : List NamedNumber) × (marker : Bool) × (r.0 ≡ (found ++ is, marker)) × Took s r.1 (Listed numbered place is marker)

items_took : (numbered : Bool) (n place : ℕ) (found : List NamedNumber) (s : State) (r : NamedItems × State) → items_more numbered n place (found, false) s ≡ Ok r → SomeItems numbered place found s r
unfolding items_more
items_took numbered zero place found s r h = absurd (cc)
items_took numbered (suc n) place found s r h =
    let i = bind_ok (item_at numbered place s) _ r h in
    let t = item_took numbered place s i.0 i.1 in
    let now = found ++ i.0.0 ∷ [] in
    let Goes : Bool × State → Type 0 = λ q. go_on (items_more numbered n (place + 1)) (now, q.0) q.1 ≡ Ok r in
    elim (past_cases i.0.1) [
      | inl c ↦ elim (chosen (at_sign Comma (bump (bump i.0.1))) _ _ _ (subst Goes c.0 i.2)) [
        | inl p ↦ (
            let m = marked_items numbered n (place + 1) now (bump (bump (bump i.0.1))) r p.1 in
            let z = after (sign Comma) (AreItems numbered (place + 1) m.0 false) (sign_took Comma (bump (bump i.0.1)) p.0) m.2 (λ b e. behind e) in
            let y = both (AreItems numbered (place + 1) m.0 true) c.1 z (λ a b e f. subst (λ a. AreItems numbered (place + 1) m.0 true (a ++ b)) (sym e) (items_marker f)) in
            (i.0.0 ∷ m.0, true, m.1 ∙ ap (λ x. (x, true)) (append_assoc found (i.0.0 ∷ []) m.0), both (Listed numbered place (i.0.0 ∷ m.0) true) t y (λ a b e f. one_listed numbered place i.0.0 m.0 true a b e f)))
        | inr p ↦ (
            let e = same_ok ((now, true), bump (bump i.0.1)) r p.1 in
            let y = turned (AreItems numbered (place + 1) [] true) c.1 (λ a e. subst (AreItems numbered (place + 1) [] true) (sym e) (items_marker no_items)) in
            subst (SomeItems numbered place found s) e (i.0.0 ∷ [], true, refl, both (Listed numbered place (i.0.0 ∷ []) true) t y (λ a b e f. one_listed numbered place i.0.0 [] true a b e f)))
      ]
      | inr c ↦ elim (chosen (at_sign Comma i.0.1) _ _ _ (subst Goes c i.2)) [
        | inl p ↦ (
            let m = items_took numbered n (place + 1) now (bump i.0.1) r p.1 in
            let z = after (sign Comma) (AreItems numbered (place + 1) m.0 m.1) (sign_took Comma i.0.1 p.0) m.3 (λ b e. behind e) in
            (i.0.0 ∷ m.0, m.1, m.2 ∙ ap (λ x. (x, m.1)) (append_assoc found (i.0.0 ∷ []) m.0), both (Listed numbered place (i.0.0 ∷ m.0) m.1) t z (λ a b e f. one_listed numbered place i.0.0 m.0 m.1 a b e f)))
        | inr p ↦ (
            let e = same_ok ((now, false), i.0.1) r p.1 in
            subst (SomeItems numbered place found s) e (i.0.0 ∷ [], false, refl, both (Listed numbered place (i.0.0 ∷ []) false) t (stay i.0.1 (AreItems numbered (place + 1) [] false) no_items) (λ a b e f. one_listed numbered place i.0.0 [] false a b e f)))
      ]
    ]

items_at_took : (s : State) (r : NamedItems × State) → items_at s ≡ Ok r → (numbered : Bool) × Took s r.1 (λ ts. (w : List ℕ) × (us : List Token) × (ts ≡ sign OpenBrace ∷ word w ∷ (us ++ sign CloseBrace ∷ [])) × AreItems numbered 0 r.0.0 r.0.1 (sign Comma ∷ word w ∷ us))
unfolding items_at
items_at_took s r h =
    let b = bind_ok (skip_sign OpenBrace s) _ r h in
    let numbered = at_sign OpenParenthesis (bump b.0.1) in
    let f = bind_ok (items_more numbered most 0 ([], false) b.0.1) _ r b.2 in
    let over = bind_ok (skip_sign CloseBrace f.0.1) _ r f.2 in
    let m = items_took numbered most 0 [] b.0.1 f.0 f.1 in
    let R : NamedItems → List Token → Type 0 = λ i ts. (w : List ℕ) × (us : List Token) × (ts ≡ sign OpenBrace ∷ word w ∷ (us ++ sign CloseBrace ∷ [])) × AreItems numbered 0 i.0 i.1 (sign Comma ∷ word w ∷ us) in
    let t = subst (λ i. Took b.0.1 f.0.1 (Listed numbered 0 i.0 i.1)) (sym m.2) m.3 in
    let z = both (λ ts. R f.0.0 (sign OpenBrace ∷ ts)) t (skip_sign_took CloseBrace f.0.1 over.0 over.1) (λ x y e g. (e.0, e.1, ap₂ (λ x y. sign OpenBrace ∷ (x ++ y)) e.2 g, e.3)) in
    (numbered, answered R (f.0.0, over.0.1) r over.2 (after (sign OpenBrace) (R f.0.0) (skip_sign_took OpenBrace s b.0 b.1) z (λ b e. e)))

-- ---- tags

class_took : (s : State) → Took s (class_at s).1 (IsClass (class_at s).0)
class_took s = elim (chosen {A = Class × State} (at_word (codes "UNIVERSAL") s) (Universal, bump s) _ (class_at s) refl) [
  | inl p ↦ shown (Universal, bump s) p.1 (ends (word (codes "UNIVERSAL")) (IsClass Universal) (word_took (codes "UNIVERSAL") s p.0) universal)
  | inr p ↦ elim (chosen {A = Class × State} (at_word (codes "APPLICATION") s) (Application, bump s) _ (class_at s) p.1) [
    | inl p ↦ shown (Application, bump s) p.1 (ends (word (codes "APPLICATION")) (IsClass Application) (word_took (codes "APPLICATION") s p.0) application)
    | inr p ↦ elim (chosen {A = Class × State} (at_word (codes "PRIVATE") s) (Private, bump s) (Context, s) (class_at s) p.1) [
      | inl p ↦ shown (Private, bump s) p.1 (ends (word (codes "PRIVATE")) (IsClass Private) (word_took (codes "PRIVATE") s p.0) private)
      | inr p ↦ shown (Context, s) p.1 (stay s (IsClass Context) context)
    ]
  ]
]
  where
    shown : (c : Class × State) → c ≡ class_at s → Took s c.1 (IsClass c.0) → Took s (class_at s).1 (IsClass (class_at s).0)
    shown c e t = subst (λ c. Took s c.1 (IsClass c.0)) e t

tag_took : (place : ℕ) (s : State) (r : Tag × State) → tag_at s ≡ Ok r → Took s r.1 (λ ts. IsTag true place r.0 (sign OpenBracket ∷ ts))
unfolding tag_at
tag_took place s r h =
    let c = class_at s in
    let n = bind_ok (number_at tag_number_of c.1) _ r h in
    let over = bind_ok (skip_sign CloseBracket n.0.1) _ r n.2 in
    let t = number_took tag_number_of (IsNatural (2 ^ 32)) tag_number_sound c.1 n.0 n.1 in
    let x : Tag = record { class = c.0; number = n.0.0 } in
    let z = after t.holds.0 (λ ts. ts ≡ t.holds.0 ∷ sign CloseBracket ∷ []) (one_is t) (skip_sign_took CloseBracket n.0.1 over.0 over.1) (λ b e. ap (λ b. t.holds.0 ∷ b) e) in
    let y = both (λ ts. IsTag true place x (sign OpenBracket ∷ ts)) (class_took s) z (λ a b e f. subst (λ b. IsTag true place x (sign OpenBracket ∷ (a ++ b))) (sym f) (own_tag e t.holds.2)) in
    answered (λ t ts. IsTag true place t (sign OpenBracket ∷ ts)) (x, over.0.1) r over.2 y

tagged_took : (tagged : Bool) (place : ℕ) (s : State) (r : Tag × State) → tagged_at tagged place s ≡ Ok r → Took s r.1 (IsTag tagged place r.0)
unfolding tagged_at
tagged_took true place s r h = elim (chosen (at_sign OpenBracket s) _ _ _ h) [
  | inl p ↦ after (sign OpenBracket) (IsTag true place r.0) (sign_took OpenBracket s p.0) (tag_took place (bump s) r p.1) (λ b e. e)
  | inr p ↦ absurd (cc)
]
tagged_took false place s r h = elim (chosen (at_sign OpenBracket s) _ _ _ h) [
  | inl p ↦ absurd (cc)
  | inr p ↦ answered (IsTag false place) (record { class = Context; number = place }, s) r p.1 (stay s (IsTag false place (record { class = Context; number = place })) tag_by_place)
]

optional_took : (s : State) → Took s (past_optional s) MayBeOptional
optional_took s = elim (chosen {A = State} (at_word (codes "OPTIONAL") s) (bump s) s (past_optional s) refl) [
  | inl p ↦ subst (λ t. Took s t MayBeOptional) p.1 (ends (word (codes "OPTIONAL")) MayBeOptional (word_took (codes "OPTIONAL") s p.0) optional_addition)
  | inr p ↦ subst (λ t. Took s t MayBeOptional) p.1 (stay s MayBeOptional plain_addition)
]

-- ---- components and alternatives, where a type is read soundly

module _ (known : List Known) (type : State → Read AsnType) (sound : (s : State) (r : AsnType × State) → type s ≡ Ok r → Took s r.1 (IsType known r.0)) where
  abbrev OneField : SeenField → List Token → Type 0
  OneField f ts = (us : List Token) × (vs : List Token) × (ts ≡ word f.name ∷ (us ++ vs)) × IsId f.name × IsType known f.type us × IsNeed f.type f.need vs

  field_took : (s : State) (r : SeenField × State) → field_at type s ≡ Ok r → Took s r.1 (OneField r.0)
  unfolding field_at
  field_took s r h =
      let c = bind_ok (id_at s) _ r h in
      let t = bind_ok (type c.0.1) _ r c.2 in
      let n = bind_ok (need_at t.0.0 t.0.1) _ r t.2 in
      let i = id_took s c.0 c.1 in
      let x : SeenField = record { name = c.0.0; need = n.0.0; type = t.0.0 } in
      let z = both (λ ts. OneField x (word c.0.0 ∷ ts)) (sound c.0.1 t.0 t.1) (need_took t.0.0 t.0.1 n.0 n.1) (λ a b e f. (a, b, refl, i.holds.1, e, f)) in
      answered OneField (x, n.0.1) r n.2 (after (word c.0.0) (OneField x) (id_is i) z (λ b e. e))

  abbrev OneAddition : SeenAddition → List Token → Type 0
  OneAddition f ts = (us : List Token) × (vs : List Token) × (ts ≡ word f.name ∷ (us ++ vs)) × IsId f.name × IsType known f.type us × MayBeOptional vs

  addition_took : (s : State) (r : SeenAddition × State) → addition_at type s ≡ Ok r → Took s r.1 (OneAddition r.0)
  unfolding addition_at
  addition_took s r h =
      let c = bind_ok (id_at s) _ r h in
      let t = bind_ok (type c.0.1) _ r c.2 in
      let i = id_took s c.0 c.1 in
      let x : SeenAddition = record { name = c.0.0; type = t.0.0 } in
      let z = both (λ ts. OneAddition x (word c.0.0 ∷ ts)) (sound c.0.1 t.0 t.1) (optional_took t.0.1) (λ a b e f. (a, b, refl, i.holds.1, e, f)) in
      answered OneAddition (x, past_optional t.0.1) r t.2 (after (word c.0.0) (OneAddition x) (id_is i) z (λ b e. e))

  abbrev OneAlternative : Bool → ℕ → SeenAlternative → List Token → Type 0
  OneAlternative tagged place f ts = (us : List Token) × (vs : List Token) × (ts ≡ word f.name ∷ (us ++ vs)) × IsId f.name × IsTag tagged place f.tag us × IsType known f.type vs

  alternative_took : (tagged : Bool) (place : ℕ) (s : State) (r : SeenAlternative × State) → alternative_at type tagged place s ≡ Ok r → Took s r.1 (OneAlternative tagged place r.0)
  unfolding alternative_at
  alternative_took tagged place s r h =
      let c = bind_ok (id_at s) _ r h in
      let g = bind_ok (tagged_at tagged place c.0.1) _ r c.2 in
      let t = bind_ok (type g.0.1) _ r g.2 in
      let i = id_took s c.0 c.1 in
      let x : SeenAlternative = record { name = c.0.0; tag = g.0.0; type = t.0.0 } in
      let z = both (λ ts. OneAlternative tagged place x (word c.0.0 ∷ ts)) (tagged_took tagged place c.0.1 g.0 g.1) (sound g.0.1 t.0 t.1) (λ a b e f. (a, b, refl, i.holds.1, e, f)) in
      answered (OneAlternative tagged place) (x, t.0.1) r t.2 (after (word c.0.0) (OneAlternative tagged place x) (id_is i) z (λ b e. e))

  -- ---- additions

  abbrev Added : List SeenAddition → List Token → Type 0
  Added more ts = AreAdditions known (additions_from more) (sign Comma ∷ ts)

  joined_addition : (a : SeenAddition) (more : List SeenAddition) (x y : List Token) → OneAddition a x → AreAdditions known (additions_from more) y → Added (a ∷ more) (x ++ y)
  joined_addition a more x y p q = subst (λ ts. Added (a ∷ more) ts) (ap (λ x. x ++ y) (sym p.2)) (an_addition p.3 p.4 p.5 q)

  abbrev extended : List SeenField → List SeenAddition → Components
  extended fs more = record { root = fs; added = more; extensible = true }

  abbrev MoreAdded : List SeenField → List SeenAddition → State → Components × State → Type 0
  MoreAdded fs found s r = (more : List SeenAddition) × (r.0 ≡ extended fs (found ++ more)) × Took s r.1 (Added more)

  additions_took : (n : ℕ) (fs : List SeenField) (found : List SeenAddition) (s : State) (r : Components × State) → components_more type n (extended fs found) s ≡ Ok r → MoreAdded fs found s r
  unfolding components_more component_at
  additions_took zero fs found s r h = absurd (cc)
  additions_took (suc n) fs found s r h =
      let c = bind_ok (addition_at type s >>= λ a. Ok (with_addition a.0 (extended fs found), a.1)) _ r h in
      let a = bind_ok (addition_at type s) _ c.0 c.1 in
      let t = addition_took s a.0 a.1 in
      let e = same_ok (with_addition a.0.0 (extended fs found), a.0.1) c.0 a.2 in
      let Goes : Components × State → Type 0 = λ c. go_on (components_more type n) (with_marker (past_marker c.0.extensible c.1).0 c.0) (past_marker c.0.extensible c.1).1 ≡ Ok r in
      elim (chosen (at_sign Comma a.0.1) _ _ _ (subst Goes (sym e) c.2)) [
        | inl p ↦ (
            let m = additions_took n fs (found ++ a.0.0 ∷ []) (bump a.0.1) r p.1 in
            let z = after (sign Comma) (AreAdditions known (additions_from m.0)) (sign_took Comma a.0.1 p.0) m.2 (λ b e. e) in
            (a.0.0 ∷ m.0, m.1 ∙ ap (extended fs) (append_assoc found (a.0.0 ∷ []) m.0), both (Added (a.0.0 ∷ m.0)) t z (λ x y e f. joined_addition a.0.0 m.0 x y e f)))
        | inr p ↦ (
            let e = same_ok (extended fs (found ++ a.0.0 ∷ []), a.0.1) r p.1 in
            subst (MoreAdded fs found s) e (a.0.0 ∷ [], refl, both (Added (a.0.0 ∷ [])) t (stay a.0.1 (AreAdditions known (additions_from [])) none_added) (λ x y e f. joined_addition a.0.0 [] x y e f)))
      ]

  -- ---- components

  abbrev later_additions : Bool → List SeenAddition → Option Additions
  later_additions true more = Some (additions_from more)
  later_additions false more = None

  abbrev There : List SeenField → Option Additions → List Token → Type 0
  There fs more ts = AreComponents known (fields_from fs) more (sign Comma ∷ ts)

  joined_field : (f : SeenField) (fs : List SeenField) (more : Option Additions) (x y : List Token) → OneField f x → AreComponents known (fields_from fs) more y → There (f ∷ fs) more (x ++ y)
  joined_field f fs more x y p q = subst (λ ts. There (f ∷ fs) more ts) (ap (λ x. x ++ y) (sym p.2)) (component p.3 p.4 p.5 q)

  abbrev made : Bool → List SeenField → List SeenAddition → Components
  made extensible fs more = record { root = fs; added = more; extensible = extensible }

  abbrev MoreThere : List SeenField → State → Components × State → Type 0
  MoreThere found s r = (fs : List SeenField) × (more : List SeenAddition) × (e : Bool) × (r.0 ≡ made e (found ++ fs) more) × Took s r.1 (There fs (later_additions e more))

  fields_took : (n : ℕ) (found : List SeenField) (s : State) (r : Components × State) → components_more type n (made false found []) s ≡ Ok r → MoreThere found s r
  unfolding components_more component_at
  fields_took zero found s r h = absurd (cc)
  fields_took (suc n) found s r h =
      let c = bind_ok (field_at type s >>= λ f. Ok (with_field f.0 (made false found []), f.1)) _ r h in
      let f = bind_ok (field_at type s) _ c.0 c.1 in
      let t = field_took s f.0 f.1 in
      let now = found ++ f.0.0 ∷ [] in
      let e = same_ok (with_field f.0.0 (made false found []), f.0.1) c.0 f.2 in
      let Goes : Components × State → Type 0 = λ c. go_on (components_more type n) (with_marker (past_marker c.0.extensible c.1).0 c.0) (past_marker c.0.extensible c.1).1 ≡ Ok r in
      let Passed : Bool × State → Type 0 = λ q. go_on (components_more type n) (made q.0 now []) q.1 ≡ Ok r in
      let going : Passed (past_marker false f.0.1) = subst Goes (sym e) c.2 in
      elim (past_cases f.0.1) [
        | inl b ↦ elim (chosen (at_sign Comma (bump (bump f.0.1))) _ _ _ (subst Passed b.0 going)) [
          | inl p ↦ (
              let m = additions_took n now [] (bump (bump (bump f.0.1))) r p.1 in
              let z = after (sign Comma) (AreAdditions known (additions_from m.0)) (sign_took Comma (bump (bump f.0.1)) p.0) m.2 (λ b e. e) in
              let y = both (AreComponents known (fields_from []) (Some (additions_from m.0))) b.1 z (λ a b e f. subst (λ a. AreComponents known (fields_from []) (Some (additions_from m.0)) (a ++ b)) (sym e) (components_marker f)) in
              (f.0.0 ∷ [], m.0, true, m.1, both (There (f.0.0 ∷ []) (Some (additions_from m.0))) t y (λ x y e g. joined_field f.0.0 [] (Some (additions_from m.0)) x y e g)))
          | inr p ↦ (
              let e = same_ok (made true now [], bump (bump f.0.1)) r p.1 in
              let y = turned (AreComponents known (fields_from []) (Some (additions_from []))) b.1 (λ a e. subst (AreComponents known (fields_from []) (Some (additions_from []))) (sym e) (components_marker none_added)) in
              subst (MoreThere found s) e (f.0.0 ∷ [], [], true, refl, both (There (f.0.0 ∷ []) (Some (additions_from []))) t y (λ x y e g. joined_field f.0.0 [] (Some (additions_from [])) x y e g)))
        ]
        | inr b ↦ elim (chosen (at_sign Comma f.0.1) _ _ _ (subst Passed b going)) [
          | inl p ↦ (
              let m = fields_took n now (bump f.0.1) r p.1 in
              let z = after (sign Comma) (AreComponents known (fields_from m.0) (later_additions m.2 m.1)) (sign_took Comma f.0.1 p.0) m.4 (λ b e. e) in
              (f.0.0 ∷ m.0, m.1, m.2, m.3 ∙ ap (λ fs. made m.2 fs m.1) (append_assoc found (f.0.0 ∷ []) m.0), both (There (f.0.0 ∷ m.0) (later_additions m.2 m.1)) t z (λ x y e g. joined_field f.0.0 m.0 (later_additions m.2 m.1) x y e g)))
          | inr p ↦ (
              let e = same_ok (made false now [], f.0.1) r p.1 in
              subst (MoreThere found s) e (f.0.0 ∷ [], [], false, refl, both (There (f.0.0 ∷ []) None) t (stay f.0.1 (AreComponents known (fields_from []) None) none_there) (λ x y e g. joined_field f.0.0 [] None x y e g)))
        ]
      ]

  -- ---- alternatives

  abbrev chosen_from : Bool → List SeenAlternative → List SeenAlternative → Choices
  chosen_from extensible root more = record { root = root; added = more; extensible = extensible }

  abbrev Later : Bool → ℕ → List SeenAlternative → List Token → Type 0
  Later tagged place more ts = AreLater known tagged place (later_from more) (sign Comma ∷ ts)

  joined_later : (tagged : Bool) (place : ℕ) (a : SeenAlternative) (more : List SeenAlternative) (x y : List Token) → OneAlternative tagged place a x → AreLater known tagged (place + 1) (later_from more) y → Later tagged place (a ∷ more) (x ++ y)
  joined_later tagged place a more x y p q = subst (λ ts. Later tagged place (a ∷ more) ts) (ap (λ x. x ++ y) (sym p.2)) (a_later p.3 p.4 p.5 q)

  abbrev MoreLater : Bool → ℕ → List SeenAlternative → List SeenAlternative → State → Choices × State → Type 0
  MoreLater tagged place root found s r = (more : List SeenAlternative) × (r.0 ≡ chosen_from true root (found ++ more)) × Took s r.1 (Later tagged place more)

  later_took : (tagged : Bool) (n place : ℕ) (root found : List SeenAlternative) (s : State) (r : Choices × State) → alternatives_more type tagged n place (chosen_from true root found) s ≡ Ok r → MoreLater tagged place root found s r
  unfolding alternatives_more
  later_took tagged zero place root found s r h = absurd (cc)
  later_took tagged (suc n) place root found s r h =
      let a = bind_ok (alternative_at type tagged place s) _ r h in
      let t = alternative_took tagged place s a.0 a.1 in
      elim (chosen (at_sign Comma a.0.1) _ _ _ a.2) [
        | inl p ↦ (
            let m = later_took tagged n (place + 1) root (found ++ a.0.0 ∷ []) (bump a.0.1) r p.1 in
            let z = after (sign Comma) (AreLater known tagged (place + 1) (later_from m.0)) (sign_took Comma a.0.1 p.0) m.2 (λ b e. e) in
            (a.0.0 ∷ m.0, m.1 ∙ ap (chosen_from true root) (append_assoc found (a.0.0 ∷ []) m.0), both (Later tagged place (a.0.0 ∷ m.0)) t z (λ x y e f. joined_later tagged place a.0.0 m.0 x y e f)))
        | inr p ↦ (
            let e = same_ok (chosen_from true root (found ++ a.0.0 ∷ []), a.0.1) r p.1 in
            subst (MoreLater tagged place root found s) e (a.0.0 ∷ [], refl, both (Later tagged place (a.0.0 ∷ [])) t (stay a.0.1 (AreLater known tagged (place + 1) (later_from [])) none_later) (λ x y e f. joined_later tagged place a.0.0 [] x y e f)))
      ]

  abbrev alternatives_of : List SeenAlternative → Bool → List SeenAlternative → Alternatives
  alternatives_of root true more = root_from root (later_from more)
  alternatives_of root false more = root_from root no_alternatives

  abbrev Choice : Bool → ℕ → List SeenAlternative → Bool → List SeenAlternative → List Token → Type 0
  Choice tagged place root e more ts = (w : List ℕ) × (us : List Token) × (ts ≡ word w ∷ us) × AreAlternatives known tagged place (alternatives_of root e more) e (sign Comma ∷ word w ∷ us)

  of_root : (a : SeenAlternative) (root : List SeenAlternative) (e : Bool) (more : List SeenAlternative) → alternatives_of (a ∷ root) e more ≡ alternative a.name a.tag a.type (alternatives_of root e more)
  of_root a root true more = refl
  of_root a root false more = refl

  joined_alternative : (tagged : Bool) (place : ℕ) (a : SeenAlternative) (root : List SeenAlternative) (e : Bool) (more : List SeenAlternative) (x y : List Token) → OneAlternative tagged place a x
      → AreAlternatives known tagged (place + 1) (alternatives_of root e more) e y → Choice tagged place (a ∷ root) e more (x ++ y)
  joined_alternative tagged place a root e more x y p q = (
    a.name,
    p.0 ++ p.1 ++ y,
    ap (λ x. x ++ y) p.2,
    subst (λ m. AreAlternatives known tagged place m e (sign Comma ∷ word a.name ∷ (p.0 ++ p.1 ++ y))) (sym (of_root a root e more)) (an_alternative p.3 p.4 p.5 q),
  )

  behind_comma : {tagged : Bool} {place : ℕ} (root : List SeenAlternative) (e : Bool) (more : List SeenAlternative) {ts : List Token} → Choice tagged place root e more ts → AreAlternatives known tagged place (alternatives_of root e more) e (sign Comma ∷ ts)
  behind_comma {tagged} {place} root e more p = subst (λ ts. AreAlternatives known tagged place (alternatives_of root e more) e (sign Comma ∷ ts)) (sym p.2) p.3

  abbrev MoreChoices : Bool → ℕ → List SeenAlternative → State → Choices × State → Type 0
  MoreChoices tagged place found s r = (root : List SeenAlternative) × (e : Bool) × (more : List SeenAlternative) × (r.0 ≡ chosen_from e (found ++ root) more) × Took s r.1 (Choice tagged place root e more)

  alternatives_took : (tagged : Bool) (n place : ℕ) (found : List SeenAlternative) (s : State) (r : Choices × State) → alternatives_more type tagged n place (chosen_from false found []) s ≡ Ok r → MoreChoices tagged place found s r
  unfolding alternatives_more
  alternatives_took tagged zero place found s r h = absurd (cc)
  alternatives_took tagged (suc n) place found s r h =
      let a = bind_ok (alternative_at type tagged place s) _ r h in
      let t = alternative_took tagged place s a.0 a.1 in
      let now = found ++ a.0.0 ∷ [] in
      let Passed : Bool × State → Type 0 = λ q. go_on (alternatives_more type tagged n (place + 1)) (chosen_from q.0 now []) q.1 ≡ Ok r in
      elim (past_cases a.0.1) [
        | inl b ↦ elim (chosen (at_sign Comma (bump (bump a.0.1))) _ _ _ (subst Passed b.0 a.2)) [
          | inl p ↦ (
              let m = later_took tagged n (place + 1) now [] (bump (bump (bump a.0.1))) r p.1 in
              let z = after (sign Comma) (AreLater known tagged (place + 1) (later_from m.0)) (sign_took Comma (bump (bump a.0.1)) p.0) m.2 (λ b e. e) in
              let y = both (AreAlternatives known tagged (place + 1) (later_from m.0) true) b.1 z (λ a b e f. subst (λ a. AreAlternatives known tagged (place + 1) (later_from m.0) true (a ++ b)) (sym e) (alternatives_marker f)) in
              (a.0.0 ∷ [], true, m.0, m.1, both (Choice tagged place (a.0.0 ∷ []) true m.0) t y (λ x y e f. joined_alternative tagged place a.0.0 [] true m.0 x y e f)))
          | inr p ↦ (
              let e = same_ok (chosen_from true now [], bump (bump a.0.1)) r p.1 in
              let y = turned (AreAlternatives known tagged (place + 1) (later_from []) true) b.1 (λ a e. subst (AreAlternatives known tagged (place + 1) (later_from []) true) (sym e) (alternatives_marker none_later)) in
              subst (MoreChoices tagged place found s) e (a.0.0 ∷ [], true, [], refl, both (Choice tagged place (a.0.0 ∷ []) true []) t y (λ x y e f. joined_alternative tagged place a.0.0 [] true [] x y e f)))
        ]
        | inr b ↦ elim (chosen (at_sign Comma a.0.1) _ _ _ (subst Passed b a.2)) [
          | inl p ↦ (
              let m = alternatives_took tagged n (place + 1) now (bump a.0.1) r p.1 in
              let z = after (sign Comma) (AreAlternatives known tagged (place + 1) (alternatives_of m.0 m.1 m.2) m.1) (sign_took Comma a.0.1 p.0) m.4 (λ b e. behind_comma m.0 m.1 m.2 e) in
              (a.0.0 ∷ m.0, m.1, m.2, m.3 ∙ ap (λ root. chosen_from m.1 root m.2) (append_assoc found (a.0.0 ∷ []) m.0), both (Choice tagged place (a.0.0 ∷ m.0) m.1 m.2) t z (λ x y e f. joined_alternative tagged place a.0.0 m.0 m.1 m.2 x y e f)))
          | inr p ↦ (
              let e = same_ok (chosen_from false now [], a.0.1) r p.1 in
              subst (MoreChoices tagged place found s) e (a.0.0 ∷ [], false, [], refl, both (Choice tagged place (a.0.0 ∷ []) false []) t (stay a.0.1 (AreAlternatives known tagged (place + 1) no_alternatives false) none_left) (λ x y e f. joined_alternative tagged place a.0.0 [] false [] x y e f)))
        ]
      ]

  choice_type_of : (tagged e : Bool) (root more : List SeenAlternative) (w : List ℕ) (us : List Token) → AreAlternatives known tagged 0 (alternatives_of root e more) e (sign Comma ∷ word w ∷ us)
      → IsType known (choice_of_choices (chosen_from e root more)) (word (codes "CHOICE") ∷ sign OpenBrace ∷ word w ∷ (us ++ sign CloseBrace ∷ []))
  choice_type_of tagged true root more w us h = choice_type h
  choice_type_of tagged false root more w us h = choice_type h

  choice_took : (s : State) (r : AsnType × State) → choice_at type s ≡ Ok r → Took s r.1 (λ ts. IsType known r.0 (word (codes "CHOICE") ∷ ts))
  unfolding choice_at
  choice_took s r h =
      let b = bind_ok (skip_sign OpenBrace s) _ r h in
      let tagged = at_sign OpenBracket (bump b.0.1) in
      let f = bind_ok (alternatives_more type tagged most 0 no_choices b.0.1) _ r b.2 in
      let over = bind_ok (skip_sign CloseBrace f.0.1) _ r f.2 in
      let m = alternatives_took tagged most 0 [] b.0.1 f.0 f.1 in
      let T = choice_of_choices (chosen_from m.1 m.0 m.2) in
      let R : List Token → Type 0 = λ ts. IsType known T (word (codes "CHOICE") ∷ ts) in
      let z = both (λ ts. R (sign OpenBrace ∷ ts)) m.4 (skip_sign_took CloseBrace f.0.1 over.0 over.1) (λ x y e g. subst R (ap₂ (λ x y. sign OpenBrace ∷ (x ++ y)) (sym e.2) (sym g)) (choice_type_of tagged m.1 m.0 m.2 e.0 e.1 e.3)) in
      let y = after (sign OpenBrace) R (skip_sign_took OpenBrace s b.0 b.1) z (λ b e. e) in
      answered (λ T ts. IsType known T (word (codes "CHOICE") ∷ ts)) (T, over.0.1) r (ap (λ c. Ok (choice_of_choices c, over.0.1)) (sym m.3) ∙ over.2) y

  -- ---- sequences

  abbrev Body : Components → List Token → Type 0
  Body c ts = IsType known (sequence_of_components c) (word (codes "SEQUENCE") ∷ sign OpenBrace ∷ (ts ++ sign CloseBrace ∷ []))

  body_of : (e : Bool) (fs : List SeenField) (more : List SeenAddition) (ts : List Token) → There fs (later_additions e more) ts → Body (made e fs more) ts
  body_of true fs more ts h = extensible_sequence_type h
  body_of false fs more ts h = sequence_type h

  body_took : (s : State) (r : Components × State) → body_at type s ≡ Ok r → Took s r.1 (Body r.0)
  unfolding body_at
  body_took s r h = elim (chosen (at_sign CloseBrace s) _ _ _ h) [
    | inl p ↦ answered Body (no_components false, s) r p.1 (stay s (Body (no_components false)) empty_sequence_type)
    | inr p ↦ elim (chosen (at_sign Ellipsis s) _ _ _ p.1) [
      | inl p ↦ elim (chosen (at_sign Comma (bump s)) _ _ _ p.1) [
        | inl q ↦ (
            let m = additions_took most [] [] (bump (bump s)) r q.1 in
            let z = after (sign Comma) (AreAdditions known (additions_from m.0)) (sign_took Comma (bump s) q.0) m.2 (λ b e. e) in
            let y = after (sign Ellipsis) (There [] (Some (additions_from m.0))) (sign_took Ellipsis s p.0) z (λ b e. components_marker e) in
            subst (λ c. Took s r.1 (Body c)) (sym m.1) (turned (Body (extended [] m.0)) y (λ a e. body_of true [] m.0 a e)))
        | inr q ↦ answered Body (no_components true, bump s) r q.1 (ends (sign Ellipsis) (Body (no_components true)) (sign_took Ellipsis s p.0) (body_of true [] [] (sign Ellipsis ∷ []) (components_marker none_added)))
      ]
      | inr p ↦ (
          let m = fields_took most [] s r p.1 in
          subst (λ c. Took s r.1 (Body c)) (sym m.3) (turned (Body (made m.2 m.0 m.1)) m.4 (λ a e. body_of m.2 m.0 m.1 a e)))
    ]
  ]

  structure_took : (s : State) (r : AsnType × State) → structure_at type s ≡ Ok r → Took s r.1 (λ ts. IsType known r.0 (word (codes "SEQUENCE") ∷ sign OpenBrace ∷ ts))
  unfolding structure_at
  structure_took s r h =
      let b = bind_ok (body_at type s) _ r h in
      let over = bind_ok (skip_sign CloseBrace b.0.1) _ r b.2 in
      let R : List Token → Type 0 = λ ts. IsType known (sequence_of_components b.0.0) (word (codes "SEQUENCE") ∷ sign OpenBrace ∷ ts) in
      let z = both R (body_took s b.0 b.1) (skip_sign_took CloseBrace b.0.1 over.0 over.1) (λ x y e g. subst (λ y. R (x ++ y)) (sym g) e) in
      answered (λ T ts. IsType known T (word (codes "SEQUENCE") ∷ sign OpenBrace ∷ ts)) (sequence_of_components b.0.0, over.0.1) r over.2 z

  list_took : (s : State) (r : AsnType × State) → list_at type s ≡ Ok r → Took s r.1 (λ ts. IsType known r.0 (word (codes "SEQUENCE") ∷ ts))
  unfolding list_at
  list_took s r h =
      let size = bind_ok (list_size_at s) _ r h in
      let item = bind_ok (skip_word (codes "OF") size.0.1) _ r size.2 in
      let t = bind_ok (type item.0.1) _ r item.2 in
      let T = sequence_of size.0.0 t.0.0 in
      let u = after (word (codes "OF")) (λ ts. (us : List Token) × (ts ≡ word (codes "OF") ∷ us) × IsType known t.0.0 us) (skip_word_took (codes "OF") size.0.1 item.0 item.1) (sound item.0.1 t.0 t.1) (λ b e. (b, refl, e)) in
      let R : List Token → Type 0 = λ ts. IsType known T (word (codes "SEQUENCE") ∷ ts) in
      let z = both R (list_size_took s size.0 size.1) u (λ a b e f. subst (λ b. R (a ++ b)) (sym f.1) (sequence_of_type e f.2)) in
      answered (λ T ts. IsType known T (word (codes "SEQUENCE") ∷ ts)) (T, t.0.1) r t.2 z

  sequence_took : (s : State) (r : AsnType × State) → sequence_at type s ≡ Ok r → Took s r.1 (λ ts. IsType known r.0 (word (codes "SEQUENCE") ∷ ts))
  unfolding sequence_at
  sequence_took s r h = elim (chosen (at_sign OpenBrace s) _ _ _ h) [
    | inl p ↦ after (sign OpenBrace) (λ ts. IsType known r.0 (word (codes "SEQUENCE") ∷ ts)) (sign_took OpenBrace s p.0) (structure_took (bump s) r p.1) (λ b e. e)
    | inr p ↦ list_took s r p.1
  ]

  -- ---- types

  abbrev IsLeafType : LeafForm → AsnType → List Token → Type 0
  IsLeafType n T ts = (L : LeafType) × (T ≡ leaf L) × IsLeaf n L ts

  leaf_took : (n : LeafForm) (s : State) (r : AsnType × State) → leaf_at n s ≡ Ok r → Took s r.1 (IsLeafType n r.0)
  unfolding leaf_at
  leaf_took (plain L) s r h =
      answered (IsLeafType (plain L)) (leaf L, s) r h (stay s (IsLeafType (plain L) (leaf L)) (L, refl, nothing_behind))
  leaf_took (bounded make) s r h =
      let b = bind_ok (bounds_at s) _ r h in
      let L = make b.0.0.0 b.0.0.1 in
      answered (IsLeafType (bounded make)) (leaf L, b.0.1) r b.2
      (turned (IsLeafType (bounded make) (leaf L)) (bounds_took s b.0 b.1) (λ a e. (L, refl, bounds_behind e)))
  leaf_took (listed make) s r h =
      let i = bind_ok (items_at s) _ r h in
      let L = make i.0.0.0 i.0.0.1 in
      let t = items_at_took s i.0 i.1 in
      answered (IsLeafType (listed make)) (leaf L, i.0.1) r i.2
      (turned (IsLeafType (listed make) (leaf L)) t.1 (λ a e. (L, refl, subst (IsLeaf (listed make) L) (sym e.2) (items_behind e.3))))
  leaf_took (sized make) s r h =
      let z = bind_ok (bracketed_size_at s) _ r h in
      let L = make z.0.0 in
      answered (IsLeafType (sized make)) (leaf L, z.0.1) r z.2
      (turned (IsLeafType (sized make) (leaf L)) (bracketed_took s z.0 z.1) (λ a e. (L, refl, size_behind e)))

  -- the second word, if there is one, and what stands behind it
  second_took : {u : State} {Q : List Token → Type 0} (o : Option (List ℕ)) (s : State) (r : Unit {0} × State) (R : List Token → Type 0)
      → skip_second o s ≡ Ok r → Took r.1 u Q → ((b : List Token) → Q b → R (behind_second o b)) → Took s u R
  second_took {u} {Q} None s r R h q f = turned R (subst (λ s. Took s u Q) (sym (ap (λ p. p.1) (same_ok (tt, s) r h))) q) f
  second_took (Some w) s r R h q f = after (word w) R (skip_word_took w s r h) q f

  abbrev Behind : TypeWord → State → AsnType × State → Type 0
  Behind k s r = Took s r.1 (λ ts. IsType known r.0 (word (word_of k) ∷ ts))

  leaf_type_took : (k : LeafWord) (s : State) (r : AsnType × State) → leaf_type_at k s ≡ Ok r → Behind (tw.Leaf k) s r
  unfolding leaf_type_at
  leaf_type_took k s r h =
      let w = bind_ok (skip_second (words_of k).1 s) _ r h in
      let R : AsnType → List Token → Type 0 = λ T ts. IsType known T (word (words_of k).0 ∷ ts) in
      second_took (words_of k).1 s w.0 (R r.0) w.1 (leaf_took (leaf_form k) w.0.1 r w.2)
      (λ b e. subst (λ T. R T (behind_second (words_of k).1 b)) (sym e.1) (leaf_type k e.2))

  pub word_type_took : (k : TypeWord) (s : State) (r : AsnType × State) → word_type type k s ≡ Ok r → Behind k s r
  unfolding word_type
  word_type_took (tw.Leaf k) s r h = leaf_type_took k s r h
  word_type_took tw.Sequence s r h = sequence_took s r h
  word_type_took tw.Choice s r h = choice_took s r h
