-- Where square brackets stand in the notation.
use Rattle.std.proofs.Common.{◌≡◌, ℕ, List, [], ◌∷◌, ◌++◌, Bool, false, Option, Some, None, refl, sym, subst, append_assoc, append-nil}
use Rattle.std.specs.Prelude.{codes}
use Rattle.std.specs.Int.{Width}
use Rattle.oer_lexer.specs.LeafWords.{behind_second, words_of}
use Rattle.oer_lexer.specs.Token.{Token, word, sign}
use Rattle.oer_lexer.specs.declared.token.Sign.TheVariants.{OpenBrace, CloseBrace, OpenParenthesis, CloseParenthesis, Comma, Ellipsis}
use Rattle.oer_model.specs.AsnType.{AsnType, Additions, Alternatives, Fields}
use Rattle.oer_model.specs.AsnValue.{AsnValue}
use Rattle.oer_model.specs.LeafType.{LeafType}
use Rattle.oer_notation.specs.Grammar.{IsInteger, an_integer, a_natural, universal, application, private, context, IsTag, own_tag, tag_by_place, IsValue, true_value, false_value, null_value, number_value, item_value, octets_value, digit_bits_value, bits_value, text_value, utf8_value, arcs_value, IsNeed, needed, optional, with_default, MayBeOptional, plain_addition, optional_addition, IsListSize, in_brackets, bare, IsLeaf, nothing_behind, bounds_behind, items_behind, size_behind, IsType, leaf_type, named_type, empty_sequence_type, sequence_type, extensible_sequence_type, sequence_of_type, choice_type, AreComponents, no_components, component, components_marker, AreAdditions, none_added, added, AreAlternatives, none_left, an_alternative, alternatives_marker, AreLater, none_later, a_later, AreDefinitions, one_definition, more_definitions}
use Rattle.oer_notation.specs.Reading.{Known}
use Rattle.oer_same_tokens.specs.Same.{has_pair}
use Rattle.oer_units.specs.declared.tagging.Tag.{Tag}
use Rattle.oer_value_notation.specs.Leaves.{LeafForm}
use Rattle.oer_same_trees.specs.Defining.{in_module}
use Rattle.oer_same_trees.specs.Laws.{BracketsApart}
use Rattle.oer_same_trees.proofs.Grows.{Grows, arcs_grow, bounds_bracketed, bracketed_grows, first_items_grow, size_bracketed, size_grows}

-- In front of other tokens no bracket stands behind one of its kind, if none does among the others.
abbrev Calm : List Token → Type 0
Calm ts = (us : List Token) → has_pair us ≡ false → has_pair (ts ++ us) ≡ false

calm_behind : (ts us : List Token) → Calm ts → Calm us → Calm (ts ++ us)
calm_behind ts us f g = λ vs h. subst (λ l. has_pair l ≡ false) (sym (append_assoc ts us vs)) (f (us ++ vs) (g vs h))

calm_parentheses : (ts : List Token) → Calm ts → Calm (sign OpenParenthesis ∷ (ts ++ sign CloseParenthesis ∷ []))
calm_parentheses ts f = λ us h. calm_behind ts (sign CloseParenthesis ∷ []) f (λ vs h. h) us h

calm : Grows Calm
calm = record {
  nothing = λ us h. h;
  behind = calm_behind;
  a_word = λ w us h. h;
  a_number = λ w us h. h;
  comma = λ us h. h;
  dots = λ us h. h;
  ellipsis = λ us h. h;
  parentheses = calm_parentheses;
}

-- behind a word, and behind a brace
abbrev calm_word : (w : List ℕ) (ts : List Token) → Calm ts → Calm (word w ∷ ts)
calm_word w ts f = λ us h. f us h

abbrev calm_braces : (ts : List Token) → Calm ts → Calm (sign OpenBrace ∷ (ts ++ sign CloseBrace ∷ []))
calm_braces ts f = λ us h. calm_behind ts (sign CloseBrace ∷ []) f (λ vs h. h) us h

-- ---- parts of types

number_calm : {width : Width} {z : _} {t : Token} → IsInteger width z t → Calm (t ∷ [])
number_calm (an_integer n e f) = λ us h. h

value_calm : {T : AsnType} {v : AsnValue} {ts : List Token} → IsValue T v ts → Calm ts
value_calm true_value = λ us h. h
value_calm false_value = λ us h. h
value_calm null_value = λ us h. h
value_calm (number_value n) = number_calm n
value_calm (item_value i n) = λ us h. h
value_calm (octets_value o) = λ us h. h
value_calm (digit_bits_value b) = λ us h. h
value_calm bits_value = λ us h. h
value_calm text_value = λ us h. h
value_calm utf8_value = λ us h. h
value_calm (arcs_value {ts} a) = calm_braces ts (arcs_grow Calm calm a)

need_calm : {T : AsnType} {need : _} {ts : List Token} → IsNeed T need ts → Calm ts
need_calm needed = λ us h. h
need_calm optional = λ us h. h
need_calm (with_default {ts} v) = calm_word (codes "DEFAULT") ts (value_calm v)

addition_calm : {ts : List Token} → MayBeOptional ts → Calm ts
addition_calm plain_addition = λ us h. h
addition_calm optional_addition = λ us h. h

list_size_calm : {size : _} {ts : List Token} → IsListSize size ts → Calm ts
list_size_calm (in_brackets b) = bracketed_grows Calm calm (size_bracketed Calm calm b)
list_size_calm (bare s) = size_grows Calm calm s

leaf_calm : {f : LeafForm} {L : LeafType} {ts : List Token} → IsLeaf f L ts → Calm ts
leaf_calm nothing_behind = λ us h. h
leaf_calm (bounds_behind b) = bracketed_grows Calm calm (bounds_bracketed Calm calm b)
leaf_calm (items_behind {w} {ts} i) = calm_braces (word w ∷ ts) (first_items_grow Calm calm i)
leaf_calm (size_behind b) = bracketed_grows Calm calm (size_bracketed Calm calm b)

second_calm : (o : Option (List ℕ)) (ts : List Token) → Calm ts → Calm (behind_second o ts)
second_calm None ts f = f
second_calm (Some w) ts f = calm_word w ts f

-- ---- tags

-- a bracket on each side, and a word behind
tag_calm : {tagged : Bool} {place : ℕ} {t : Tag} {ts : List Token} → IsTag tagged place t ts → (w : List ℕ) (us : List Token) → Calm us → Calm (ts ++ word w ∷ us)
tag_calm (own_tag universal (a_natural n e l)) w us f = λ vs h. f vs h
tag_calm (own_tag application (a_natural n e l)) w us f = λ vs h. f vs h
tag_calm (own_tag private (a_natural n e l)) w us f = λ vs h. f vs h
tag_calm (own_tag context (a_natural n e l)) w us f = λ vs h. f vs h
tag_calm tag_by_place w us f = calm_word w us f

-- the word with which a type begins, and what stands behind it
abbrev Worded : List Token → Type 0
Worded ts = (w : List ℕ) × (us : List Token) × (ts ≡ word w ∷ us) × Calm us

tagged_calm : {tagged : Bool} {place : ℕ} {t : Tag} {ts us : List Token} → IsTag tagged place t ts → Worded us → Calm (ts ++ us)
tagged_calm {ts = ts} g p = subst (λ us. Calm (ts ++ us)) (sym p.2) (tag_calm g p.0 p.1 p.3)

worded_calm : (ts : List Token) → Worded ts → Calm ts
worded_calm ts p = subst Calm (sym p.2) (calm_word p.0 p.1 p.3)

-- a name, and what stands behind it
part_calm : (w : List ℕ) (ts us : List Token) → Calm ts → Calm us → Calm (sign Comma ∷ word w ∷ (ts ++ us))
part_calm w ts us f g = λ vs h. calm_behind ts us f g vs h

behind_marker : (ts : List Token) → Calm ts → Calm (sign Comma ∷ sign Ellipsis ∷ ts)
behind_marker ts f = λ us h. f us h

module _ (known : List Known) where
  mutual
    type_calm : {T : AsnType} {ts : List Token} → IsType known T ts → Worded ts
    type_calm (leaf_type k {ts} i) = ((words_of k).0, behind_second (words_of k).1 ts, refl, second_calm (words_of k).1 ts (leaf_calm i))
    type_calm (named_type {w} n d) = (w, [], refl, λ us h. h)
    type_calm empty_sequence_type = (codes "SEQUENCE", _, refl, λ us h. h)
    type_calm (sequence_type {ts} d) = (codes "SEQUENCE", _, refl, calm_braces ts (λ us h. components_calm d us h))
    type_calm (extensible_sequence_type {ts} d) = (codes "SEQUENCE", _, refl, calm_braces ts (λ us h. components_calm d us h))
    type_calm (sequence_of_type {ts} {us} z d) =
        (codes "SEQUENCE", _, refl, calm_behind ts (word (codes "OF") ∷ us) (list_size_calm z) (calm_word (codes "OF") us (worded_calm us (type_calm d))))
    type_calm (choice_type {w} {ts} d) = (codes "CHOICE", _, refl, calm_braces (word w ∷ ts) (λ us h. alternatives_calm d us h))

    components_calm : {fs : Fields} {more : Option Additions} {ts : List Token} → AreComponents known fs more ts → Calm ts
    components_calm no_components = λ us h. h
    components_calm (component {w} {ts} {us} {vs} i d n m) =
        part_calm w (ts ++ us) vs (calm_behind ts us (worded_calm ts (type_calm d)) (need_calm n)) (components_calm m)
    components_calm (components_marker {us} m) = behind_marker us (additions_calm m)

    additions_calm : {more : Additions} {ts : List Token} → AreAdditions known more ts → Calm ts
    additions_calm none_added = λ us h. h
    additions_calm (added {w} {ts} {us} {vs} i d n m) =
        part_calm w (ts ++ us) vs (calm_behind ts us (worded_calm ts (type_calm d)) (addition_calm n)) (additions_calm m)

    alternatives_calm : {tagged : Bool} {place : ℕ} {more : Alternatives} {marker : Bool} {ts : List Token} → AreAlternatives known tagged place more marker ts → Calm ts
    alternatives_calm none_left = λ us h. h
    alternatives_calm (an_alternative {w} {ts} {us} {vs} i g d m) = part_calm w (ts ++ us) vs (tagged_calm g (type_calm d)) (alternatives_calm m)
    alternatives_calm (alternatives_marker {us} m) = behind_marker us (later_calm m)

    later_calm : {tagged : Bool} {place : ℕ} {more : Alternatives} {ts : List Token} → AreLater known tagged place more ts → Calm ts
    later_calm none_later = λ us h. h
    later_calm (a_later {w} {ts} {us} {vs} i g d m) = part_calm w (ts ++ us) vs (tagged_calm g (type_calm d)) (later_calm m)

definitions_calm : {known ks : List Known} {ts : List Token} → AreDefinitions known ks ts → Calm ts
definitions_calm (one_definition {known} {ts} n new d) = λ us h. worded_calm ts (type_calm known d) us h
definitions_calm (more_definitions {known} {ts} {us} n new d m) = λ vs h. calm_behind ts us (worded_calm ts (type_calm known d)) (definitions_calm m) vs h

calm_module : (name : List ℕ) (ts : List Token) → Calm ts → has_pair (in_module name ts) ≡ false
calm_module name ts f = f (word (codes "END") ∷ []) refl

pub brackets_apart : BracketsApart
brackets_apart known ks ts d = (subst (λ l. has_pair l ≡ false) (append-nil ts) (definitions_calm d [] refl), λ name. calm_module name ts (definitions_calm d))
