-- Numbers in a type that a text spells have their widths, and its alternatives stand in order.
use Rattle.std.proofs.Common.{◌≡◌, ℕ, ◌+◌, ◌≤◌, ◌<◌, ⊎_elim, ℤ, List, [], length, Bool, true, Option, Some, None, refl, arith, ◌∷◌, ◌++◌}
use Rattle.std.specs.Prelude.{FitsSigned}
use Rattle.std.specs.Int.{Width, w64}
use Rattle.std.proofs.lemmas.Bool.{cases_lt}
use Rattle.oer_lexer.specs.Token.{Token}
use Rattle.oer_model.specs.AsnType.{Additions, Alternatives, AsnType, Fields, NamedNumber, alternative, later, no_alternatives}
use Rattle.oer_model.specs.LeafType.{LeafType}
use Rattle.oer_model.specs.FaultTest.{first_fault}
use Rattle.oer_model.specs.Laws.{NoFaultFound}
use Rattle.oer_model.specs.Nodes.{leaf_nodes, type_nodes, fields_nodes, additions_nodes, alternatives_nodes}
use Rattle.oer_model.specs.Widths.{AreLater as AllLater, LeafHasWidths, HasBoundWidth, HaveItemWidths, HasEndWidth, HasSizeWidths, AreInOrder, HasWidths, FieldsHaveWidths, AdditionsHaveWidths, AlternativesHaveWidths}
use Rattle.oer_model.specs.declared.fault.SchemaFault.TheVariants.{TooManyParts}
use Rattle.oer_model.specs.declared.size.Size.{Size}
use Rattle.oer_units.specs.Laws.{HasTagNumber}
use Rattle.oer_units.specs.declared.tagging.Tag.{Tag}
use Rattle.oer_model.proofs.fitting.Leaves.{some_node}
use Rattle.oer_notation.proofs.LeafFacts.{HasNodes, KeepsWidths, form_nodes, form_widths}
use Rattle.oer_value_notation.specs.Leaves.{LeafForm, bounded, leaf_form, listed, plain, sized}
use Rattle.oer_notation.specs.Grammar.{IsInteger, an_integer, IsNatural, a_natural, IsBound, no_bound, a_bound, AreBounds, no_bounds, one_number, range, IsSizeEnd, no_end, an_end, IsSize, one_size, sizes, IsBracketedSize, any_size, bracketed, IsListSize, in_brackets, bare, IsItemNumber, own_number, number_by_place, AreItems, no_items, item, items_marker, IsTag, own_tag, tag_by_place, IsDefined, this_definition, later_definition, IsLeaf, bounds_behind, items_behind, nothing_behind, size_behind, IsType, leaf_type, named_type, empty_sequence_type, sequence_type, extensible_sequence_type, sequence_of_type, choice_type, AreComponents, no_components, component, components_marker, AreAdditions, none_added, added, AreAlternatives, none_left, an_alternative, alternatives_marker, AreLater, none_later, a_later}
use Rattle.oer_notation.specs.Reading.{Known}

pub few_nodes : NoFaultFound → (T : AsnType) → first_fault T ≡ None → type_nodes T ≤ 4096
few_nodes law T e = ⊎_elim (λ l. absurd ((law T).0 e TooManyParts l)) (λ g. g) (cases_lt 4096 (type_nodes T))

natural_below : {limit n : ℕ} {t : Token} → IsNatural limit n t → n < limit
natural_below (a_natural d e l) = l

integer_fits : {width : Width} {z : ℤ} {t : Token} → IsInteger width z t → FitsSigned width z
integer_fits (an_integer d e f) = f

bound_width : {w : List ℕ} {o : Option ℤ} {t : Token} → IsBound w o t → HasBoundWidth o
bound_width no_bound = tt
bound_width (a_bound i) = integer_fits i

bound_widths : {low high : Option ℤ} {ts : List Token} → AreBounds low high ts → HasBoundWidth low × HasBoundWidth high
bound_widths no_bounds = (tt, tt)
bound_widths (one_number i) = (integer_fits i, integer_fits i)
bound_widths (range s t) = (bound_width s, bound_width t)

end_width : {o : Option ℕ} {t : Token} → IsSizeEnd o t → HasEndWidth o
end_width no_end = tt
end_width (an_end n) = natural_below n

size_widths : {z : Size} {ts : List Token} → IsSize z ts → HasSizeWidths z
size_widths (one_size d) = (natural_below d, natural_below d)
size_widths (sizes d e) = (natural_below d, end_width e)

bracketed_widths : {z : Size} {ts : List Token} → IsBracketedSize z ts → HasSizeWidths z
bracketed_widths any_size = (omega arith, tt)
bracketed_widths (bracketed d) = size_widths d

list_widths : {z : Size} {ts : List Token} → IsListSize z ts → HasSizeWidths z
list_widths (in_brackets d) = bracketed_widths d
list_widths (bare d) = size_widths d

number_width : {numbered : Bool} {place : ℕ} {z : ℤ} {ts : List Token} → IsItemNumber numbered place z ts → place ≤ 4096 → FitsSigned w64 z
number_width (own_number i) few = integer_fits i
number_width number_by_place few = record { sfits = omega arith }

item_widths : {numbered : Bool} {place : ℕ} {is : List NamedNumber} {marker : Bool} {ts : List Token} → AreItems numbered place is marker ts → place + length is ≤ 4096 → HaveItemWidths is
item_widths no_items few = tt
item_widths (item i n r) few = (number_width n (omega arith), item_widths r (omega arith))
item_widths (items_marker r) few = item_widths r few

tag_width : {tagged : Bool} {place : ℕ} {t : Tag} {ts : List Token} → IsTag tagged place t ts → place ≤ 4096 → HasTagNumber t
tag_width (own_tag c n) few = natural_below n
tag_width tag_by_place few = omega arith

all_later : {known : List Known} {tagged : Bool} {place : ℕ} {more : Alternatives} {ts : List Token} → AreLater known tagged place more ts → AllLater more
all_later none_later = tt
all_later (a_later i g d a) = all_later a

later_order : (more : Alternatives) → AllLater more → AreInOrder true more
later_order no_alternatives h = tt
later_order (alternative name t T more) h = absurd h
later_order (later name t T more) h = (refl, h)

order : {known : List Known} {tagged : Bool} {place : ℕ} {more : Alternatives} {marker : Bool} {ts : List Token} → AreAlternatives known tagged place more marker ts → AreInOrder marker more
order none_left = tt
order (an_alternative i g d a) = order a
order (alternatives_marker {more = more} a) = later_order more (all_later a)

abbrev added_nodes : Option Additions → ℕ
added_nodes None = 0
added_nodes (Some more) = additions_nodes more

abbrev AddedHaveWidths : Option Additions → Type 0
AddedHaveWidths None = Unit {0}
AddedHaveWidths (Some more) = AdditionsHaveWidths more

abbrev pub AllHaveWidths : List Known → Type 0
AllHaveWidths [] = Unit {0}
AllHaveWidths (k ∷ ks) = HasWidths k.type × AllHaveWidths ks

pub one_more : (known : List Known) (k : Known) → AllHaveWidths known → HasWidths k.type → AllHaveWidths (known ++ k ∷ [])
one_more [] k a h = (h, tt)
one_more (j ∷ js) k a h = (a.0, one_more js k a.1 h)

defined_widths : {w : List ℕ} {T : AsnType} {ks : List Known} → IsDefined w T ks → AllHaveWidths ks → HasWidths T
defined_widths (this_definition e) a = a.0
defined_widths (later_definition n d) a = defined_widths d a.1

leaf_widths : (n : LeafForm) → HasNodes n → KeepsWidths n → {L : LeafType} {ts : List Token} → IsLeaf n L ts → leaf_nodes L ≤ 4096 → LeafHasWidths L
leaf_widths (plain L) nodes keeps nothing_behind few = keeps tt tt
leaf_widths (bounded make) nodes keeps (bounds_behind {low} {high} b) few = let w = bound_widths b in keeps low high w.0 w.1
leaf_widths (listed make) nodes keeps (items_behind {marker = marker} {items = is} i) few = let n = nodes is marker in keeps is marker (item_widths i (omega arith))
leaf_widths (sized make) nodes keeps (size_behind {size} z) few = keeps size (bracketed_widths z)

module _ (known : List Known) (all : AllHaveWidths known) where
  mutual
    pub type_widths : {T : AsnType} {ts : List Token} → IsType known T ts → type_nodes T ≤ 4096 → HasWidths T
    type_widths (leaf_type k d) few = leaf_widths (leaf_form k) (form_nodes k) (form_widths k) d few
    type_widths (named_type n d) few = defined_widths d all
    type_widths empty_sequence_type few = tt
    type_widths (sequence_type c) few = (component_widths c (omega arith)).0
    type_widths (extensible_sequence_type {fs} {more} c) few = component_widths c (omega arith)
    type_widths (sequence_of_type z d) few = (list_widths z, type_widths d (omega arith))
    type_widths (choice_type a) few = (order a, alternative_widths a (omega arith))

    component_widths : {fs : Fields} {more : Option Additions} {ts : List Token} → AreComponents known fs more ts → fields_nodes fs + added_nodes more ≤ 4096 → FieldsHaveWidths fs × AddedHaveWidths more
    component_widths no_components few = (tt, tt)
    component_widths (component i d n c) few = let r = component_widths c (omega arith) in ((type_widths d (omega arith), r.0), r.1)
    component_widths (components_marker a) few = (tt, addition_widths a (omega arith))

    addition_widths : {more : Additions} {ts : List Token} → AreAdditions known more ts → additions_nodes more ≤ 4096 → AdditionsHaveWidths more
    addition_widths none_added few = tt
    addition_widths (added i d o a) few = (type_widths d (omega arith), addition_widths a (omega arith))

    alternative_widths : {tagged : Bool} {place : ℕ} {more : Alternatives} {marker : Bool} {ts : List Token} → AreAlternatives known tagged place more marker ts → place + alternatives_nodes more ≤ 4096 → AlternativesHaveWidths more
    alternative_widths none_left few = tt
    alternative_widths (an_alternative {T = T} i g d a) few = let n = some_node T in (tag_width g (omega arith), type_widths d (omega arith), alternative_widths a (omega arith))
    alternative_widths (alternatives_marker a) few = later_widths a few

    later_widths : {tagged : Bool} {place : ℕ} {more : Alternatives} {ts : List Token} → AreLater known tagged place more ts → place + alternatives_nodes more ≤ 4096 → AlternativesHaveWidths more
    later_widths none_later few = tt
    later_widths (a_later {T = T} i g d a) few = let n = some_node T in (tag_width g (omega arith), type_widths d (omega arith), later_widths a (omega arith))
