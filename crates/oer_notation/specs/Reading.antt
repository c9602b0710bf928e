-- Reading a type from tokens: what is read and what is left, or the first fault.
use Rattle.std.specs.Prelude.{ℕ, zero, suc, ◌+◌, ◌-◌, nat_lt, ℤ, pos, List, [], ◌∷◌, ◌++◌, Bool, true, false, not, ◌&&◌, ◌||◌, Option, Some, None, Ok, Err, codes, if◌then◌else◌}
use Rattle.std.specs.Str.{bytes_eq}
use Rattle.oer_lexer.specs.LeafWords.{words_of}
use Rattle.oer_lexer.specs.Token.{Token, word, number, bits, digits, text, sign}
use Rattle.oer_lexer.specs.declared.leaf.LeafWord.{LeafWord}
use Rattle.oer_lexer.specs.declared.token.Sign.TheVariants.{OpenBrace, CloseBrace, OpenParenthesis, CloseParenthesis, OpenBracket, CloseBracket, Comma, Ellipsis}
use Rattle.oer_units.specs.declared.tagging.Tag.{Tag}
use Rattle.oer_units.specs.declared.tagging.Class.{Class}
use Rattle.oer_units.specs.declared.tagging.Class.TheVariants.{Universal, Application, Context, Private}
use Rattle.oer_model.specs.AsnType.{NamedNumber, AsnType, leaf, sequence, extensible_sequence, sequence_of, choice, no_alternatives}
use Rattle.oer_model.specs.Nodes.{type_nodes}
use Rattle.oer_values.specs.ShapeView.{SeenField, SeenAddition, SeenAlternative, fields_from, additions_from, later_from, root_from}
use Rattle.oer_model.specs.WellFormed.{depth}
use Rattle.oer_model.specs.declared.fault.SchemaFault.TheVariants.{TooDeep}
use Rattle.oer_literals.specs.Numbers.{item_number_of, tag_number_of}
use Rattle.oer_value_notation.specs.Leaves.{LeafForm, bounded, leaf_form, listed, plain, sized}
use Rattle.oer_value_notation.specs.Numbers.{number_at, bounds_at, bracketed_size_at, list_size_at}
use Rattle.oer_value_notation.specs.State.{State, Read, ◌>>=◌, first, fault, bump, at_sign, at_word, skip_sign, skip_word, id_at, part_at, full}
use Rattle.oer_value_notation.specs.Values.{need_at}
use Rattle.oer_value_notation.specs.Words.{is_name, type_word}
use Rattle.oer_value_notation.specs.declared.fault.TextFault.{TextFault}
use Rattle.oer_value_notation.specs.declared.fault.TextWhy.TheVariants as why
use Rattle.oer_value_notation.specs.declared.word.TypeWord.{TypeWord}
use Rattle.oer_value_notation.specs.declared.word.TypeWord.TheVariants as tw

-- a Name and the type that a definition gave it
pub record Known : Type 0 where
  pub name : List ℕ
  pub type : AsnType

abbrev pub find : List Known → List ℕ → Option AsnType
find [] w = None
find (k ∷ ks) w = if bytes_eq k.name w then Some k.type else find ks w

-- with what a type begins: a word of its own, or a Name
pub data Start : Type 0 where
  nothing : Start
  of_word : TypeWord → Start
  of_name : List ℕ → Start

abbrev pub start_word : Option TypeWord → List ℕ → Start
start_word (Some k) w = of_word k
start_word None w = if is_name w then of_name w else nothing

abbrev pub start_by : Option Token → Start
start_by None = nothing
start_by (Some (word w)) = start_word (type_word w) w
start_by (Some (number w)) = nothing
start_by (Some (bits w)) = nothing
start_by (Some (digits w)) = nothing
start_by (Some (text w)) = nothing
start_by (Some (sign u)) = nothing

unfoldable pub start_at : State → Start
start_at s = start_by (first s)

abbrev pub is_start : Start → Bool
is_start nothing = false
is_start (of_word k) = true
is_start (of_name w) = true

-- more components, alternatives or items than a type may have
abbrev pub most : ℕ
most = 65535

-- whether the extension marker was seen, and what is left: it stands behind a comma
abbrev pub past_marker : Bool → State → Bool × State
past_marker seen s = if not seen && (at_sign Comma s && at_sign Ellipsis (bump s)) then (true, bump (bump s)) else (seen, s)

-- a list goes on behind a comma, or is whole
abbrev pub go_on : {A : Type 0} → (A → State → Read A) → A → State → Read A
go_on more found s = if at_sign Comma s then more found (bump s) else Ok (found, s)

-- ---- items

-- the items so far, and whether the marker was seen
abbrev pub NamedItems : Type 0
NamedItems = List NamedNumber × Bool

-- the number of an item, if it is missing where the others have one
abbrev pub missing_number : State → TextFault
missing_number s = if at_sign Comma s || at_sign CloseBrace s then fault why.Mixed s else fault why.Syntax s

-- the number in brackets
unfoldable pub item_number_at : State → Read ℤ
item_number_at s = if not (at_sign OpenParenthesis s) then Err (missing_number s) else (do
  n ← number_at item_number_of (bump s)
  rest ← skip_sign CloseParenthesis n.1
  Ok (n.0, rest.1))

-- the number of the item at a place, where all have one in brackets or none has
unfoldable pub numbered_at : Bool → ℕ → State → Read ℤ
numbered_at numbered place s =
    if numbered then item_number_at s
    else if at_sign OpenParenthesis s then Err (fault why.Mixed s)
    else Ok (pos place, s)

unfoldable pub item_at : Bool → ℕ → State → Read NamedNumber
item_at numbered place s = do
  called ← id_at s
  counted ← part_at (full s) called.1
  n ← numbered_at numbered place counted.1
  Ok (record { name = called.0; number = n.0 }, n.1)

-- items joined by commas, with the marker behind one of them, after those found; the first number bounds the turns
unfoldable pub items_more : Bool → ℕ → ℕ → NamedItems → State → Read NamedItems
items_more numbered zero place found s = Err s.stop
items_more numbered (suc n) place found s =
    item_at numbered place s
    >>= λ i. go_on (items_more numbered n (place + 1)) (found.0 ++ i.0 ∷ [], (past_marker found.1 i.1).0) (past_marker found.1 i.1).1

-- the items of an enumeration, in braces
unfoldable pub items_at : State → Read NamedItems
items_at s = do
  body ← skip_sign OpenBrace s
  found ← items_more (at_sign OpenParenthesis (bump body.1)) most 0 ([], false) body.1
  rest ← skip_sign CloseBrace found.1
  Ok (found.0, rest.1)

-- ---- tags

-- the class word of a tag, or none
abbrev pub class_at : State → Class × State
class_at s =
    if at_word (codes "UNIVERSAL") s then (Universal, bump s)
    else if at_word (codes "APPLICATION") s then (Application, bump s)
    else if at_word (codes "PRIVATE") s then (Private, bump s)
    else (Context, s)

-- a tag, behind its opening bracket
unfoldable pub tag_at : State → Read Tag
tag_at s = do
  n ← number_at tag_number_of (class_at s).1
  rest ← skip_sign CloseBracket n.1
  Ok (record { class = (class_at s).0; number = n.0 }, rest.1)

-- where a tag is missing and the other alternatives have one
abbrev pub missing_tag : State → TextFault
missing_tag s = if is_start (start_at s) then fault why.Mixed s else fault why.Syntax s

-- the tag of the alternative at a place, where all have one in brackets or none has
unfoldable pub tagged_at : Bool → ℕ → State → Read Tag
tagged_at tagged place s =
    if tagged then (if at_sign OpenBracket s then tag_at (bump s) else Err (missing_tag s))
    else if at_sign OpenBracket s then Err (fault why.Mixed s)
    else Ok (record { class = Context; number = place }, s)

-- ---- types that hold no other

-- the second word of a type, if it has one
abbrev pub skip_second : Option (List ℕ) → State → Read (Unit {0})
skip_second None s = Ok (tt, s)
skip_second (Some w) s = skip_word w s

-- what stands behind the words
unfoldable pub leaf_at : LeafForm → State → Read AsnType
leaf_at (plain L) s = Ok (leaf L, s)
leaf_at (bounded make) s = bounds_at s >>= λ b. Ok (leaf (make b.0.0 b.0.1), b.1)
leaf_at (listed make) s = items_at s >>= λ i. Ok (leaf (make i.0.0 i.0.1), i.1)
leaf_at (sized make) s = bracketed_size_at s >>= λ z. Ok (leaf (make z.0), z.1)

-- behind the first word
unfoldable pub leaf_type_at : LeafWord → State → Read AsnType
leaf_type_at k s = skip_second (words_of k).1 s >>= λ r. leaf_at (leaf_form k) r.1

-- ---- components and alternatives

-- the components and additions so far, and whether the marker was seen
pub record Components : Type 0 where
  pub root : List SeenField
  pub added : List SeenAddition
  pub extensible : Bool

abbrev pub with_field : SeenField → Components → Components
with_field f c = record { root = c.root ++ f ∷ []; added = c.added; extensible = c.extensible }

abbrev pub with_addition : SeenAddition → Components → Components
with_addition a c = record { root = c.root; added = c.added ++ a ∷ []; extensible = c.extensible }

abbrev pub with_marker : Bool → Components → Components
with_marker seen c = record { root = c.root; added = c.added; extensible = seen }

-- the alternatives before the marker and behind it so far, and whether it was seen
pub record Choices : Type 0 where
  pub root : List SeenAlternative
  pub added : List SeenAlternative
  pub extensible : Bool

abbrev pub with_alternative : SeenAlternative → Choices → Choices
with_alternative a c =
    if c.extensible then record { root = c.root; added = c.added ++ a ∷ []; extensible = c.extensible }
    else record { root = c.root ++ a ∷ []; added = c.added; extensible = c.extensible }

abbrev pub with_choice_marker : Bool → Choices → Choices
with_choice_marker seen c = record { root = c.root; added = c.added; extensible = seen }

abbrev pub sequence_of_components : Components → AsnType
sequence_of_components c =
    if c.extensible then extensible_sequence (fields_from c.root) (additions_from c.added) else sequence (fields_from c.root)

abbrev pub choice_of_choices : Choices → AsnType
choice_of_choices c = if c.extensible then choice true (root_from c.root (later_from c.added))
    else choice false (root_from c.root no_alternatives)

abbrev pub no_components : Bool → Components
no_components seen = record { root = []; added = []; extensible = seen }

abbrev pub no_choices : Choices
no_choices = record { root = []; added = []; extensible = false }

-- OPTIONAL behind an addition makes no difference
abbrev pub past_optional : State → State
past_optional s = if at_word (codes "OPTIONAL") s then bump s else s

-- parts of types, where a type is read so
module _ (type : State → Read AsnType) where
  unfoldable pub field_at : State → Read SeenField
  field_at s = do
    called ← id_at s
    t ← type called.1
    need ← need_at t.0 t.1
    Ok (record { name = called.0; need = need.0; type = t.0 }, need.1)

  unfoldable pub addition_at : State → Read SeenAddition
  addition_at s = do
    called ← id_at s
    t ← type called.1
    Ok (record { name = called.0; type = t.0 }, past_optional t.1)

  unfoldable pub alternative_at : Bool → ℕ → State → Read SeenAlternative
  alternative_at tagged place s = do
    called ← id_at s
    tag ← tagged_at tagged place called.1
    t ← type tag.1
    Ok (record { name = called.0; tag = tag.0; type = t.0 }, t.1)

  -- a component, or an addition behind the marker
  unfoldable pub component_at : Components → State → Read Components
  component_at found s =
      if found.extensible then (addition_at s >>= λ a. Ok (with_addition a.0 found, a.1))
      else (field_at s >>= λ f. Ok (with_field f.0 found, f.1))

  -- components joined by commas, after those found; the number bounds the turns
  unfoldable pub components_more : ℕ → Components → State → Read Components
  components_more zero found s = Err s.stop
  components_more (suc n) found s =
      component_at found s >>= λ c. go_on (components_more n) (with_marker
      (past_marker c.0.extensible c.1).0 c.0) (past_marker c.0.extensible c.1).1

  unfoldable pub alternatives_more : Bool → ℕ → ℕ → Choices → State → Read Choices
  alternatives_more tagged zero place found s = Err s.stop
  alternatives_more tagged (suc n) place found s =
      alternative_at tagged place s
      >>= λ a. go_on (alternatives_more tagged n (place + 1))
      (with_choice_marker (past_marker found.extensible a.1).0 (with_alternative a.0 found)) (past_marker found.extensible a.1).1

  -- what stands in the braces of a sequence: nothing, components, or the marker first
  unfoldable pub body_at : State → Read Components
  body_at s =
      if at_sign CloseBrace s then Ok (no_components false, s)
      else if at_sign Ellipsis s then go_on (components_more most) (no_components true) (bump s)
      else components_more most (no_components false) s

  unfoldable pub structure_at : State → Read AsnType
  structure_at s = do
    body ← body_at s
    rest ← skip_sign CloseBrace body.1
    Ok (sequence_of_components body.0, rest.1)

  unfoldable pub list_at : State → Read AsnType
  list_at s = do
    size ← list_size_at s
    item ← skip_word (codes "OF") size.1
    t ← type item.1
    Ok (sequence_of size.0 t.0, t.1)

  -- behind the word SEQUENCE
  unfoldable pub sequence_at : State → Read AsnType
  sequence_at s = if at_sign OpenBrace s then structure_at (bump s) else list_at s

  -- behind the word CHOICE
  unfoldable pub choice_at : State → Read AsnType
  choice_at s = do
    body ← skip_sign OpenBrace s
    found ← alternatives_more (at_sign OpenBracket (bump body.1)) most 0 no_choices body.1
    rest ← skip_sign CloseBrace found.1
    Ok (choice_of_choices found.0, rest.1)

  -- behind the word with which a type begins
  unfoldable pub word_type : TypeWord → State → Read AsnType
  word_type (tw.Leaf k) s = leaf_type_at k s
  word_type tw.Sequence s = sequence_at s
  word_type tw.Choice s = choice_at s

-- ---- types

-- a type of which so many parts are left
abbrev pub with_parts : ℕ → State → State
with_parts n s = record { left = s.left; parts = n; stop = s.stop }

-- a Name's type, as if it were written out
unfoldable pub named_at : ℕ → Option AsnType → State → Read AsnType
named_at levels None s = Err (fault why.Name s)
named_at levels (Some T) s =
    if nat_lt levels (depth T) then Err (fault (why.Schema TooDeep) s)
    else if nat_lt s.parts (type_nodes T) then Err (full s)
    else Ok (T, bump (with_parts (s.parts - type_nodes T) s))

module _ (known : List Known) where
  abbrev pub type_by : (TypeWord → State → Read AsnType) → ℕ → Start → State → Read AsnType
  type_by inner levels nothing s = Err (fault why.Syntax s)
  type_by inner levels (of_word k) s = inner k s
  type_by inner levels (of_name w) s = named_at levels (find known w) s

  -- no level is left for it
  abbrev pub too_deep : TypeWord → State → Read AsnType
  too_deep k s = Err (fault (why.Schema TooDeep) s)

  -- a part more, and past the word
  abbrev pub entered : (TypeWord → State → Read AsnType) → TypeWord → State → Read AsnType
  entered inner k s = part_at (full s) s >>= λ p. inner k (bump p.1)

  -- A type. The number is how deep types may still nest.
  unfoldable pub type_at : ℕ → State → Read AsnType
  type_at zero s = type_by too_deep zero (start_at s) s
  type_at (suc levels) s = type_by (entered (word_type (type_at levels))) (suc levels) (start_at s) s
