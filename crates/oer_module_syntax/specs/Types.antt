-- Reading a type from tokens (X.680, clauses 17 to 31): what is read and what is left, or the first fault.
use Rattle.std.specs.Prelude.{ℕ, zero, suc, List, [], ◌∷◌, ◌++◌, length, Bool, true, false, not, ◌&&◌, ◌||◌, Option, Some, None, Ok, Err, if◌then◌else◌}
use Rattle.oer_module_lexer.specs.Token.{Token, word, number, Spot}
use Rattle.oer_module_lexer.specs.declared.token.Sign.TheVariants.{OpenBrace, CloseBrace, OpenParenthesis, OpenBracket, OpenGroup, CloseGroup, Less, Comma, Ellipsis, Colon}
use Rattle.oer_module_syntax.specs.Looks.{at_any_defined, at_field_step, begins_type}
use Rattle.oer_module_syntax.specs.Ranges.{pairs_len, front_of, group_at, constraints_at, value_at, exception_at}
use Rattle.oer_module_syntax.specs.State.{State, Read, ◌>>=◌, first, fault, expected, place, bump, at_sign, at_keyword, skip_sign, skip_keyword, identifier_at}
use Rattle.oer_module_syntax.specs.Tree.{Tree, Element, Need, must, may, default, plain, named, tagged, structure, list_of}
use Rattle.oer_module_syntax.specs.Tree.{selection, instance_of, any_defined_by, marker, group, components_of, component, elements_from}
use Rattle.oer_module_syntax.specs.Words.{builtin_of, builtin_second, is_identifier, is_reference, is_useful_class}
use Rattle.oer_module_syntax.specs.declared.fault.Sought.TheVariants as sought
use Rattle.oer_module_syntax.specs.declared.fault.Why.TheVariants as why
use Rattle.oer_module_syntax.specs.declared.range.Pair.TheVariants.{Step}
use Rattle.oer_module_syntax.specs.declared.tree.Mode.{Mode}
use Rattle.oer_module_syntax.specs.declared.tree.Mode.TheVariants.{Unsaid, Implicit, Explicit}
use Rattle.oer_module_syntax.specs.declared.types.Form.{Form}
use Rattle.oer_module_syntax.specs.declared.types.Form.TheVariants as form
use Rattle.oer_module_syntax.specs.declared.word.Builtin.{Builtin}
use Rattle.oer_module_syntax.specs.declared.word.Builtin.TheVariants as bi
use Rattle.oer_module_syntax.specs.declared.word.Keyword.{Keyword}
use Rattle.oer_module_syntax.specs.declared.word.Keyword.TheVariants as kw

-- what may follow the words of a type
abbrev pub form_of : Builtin → Form
form_of bi.Sequence = form.Components
form_of bi.Set = form.Components
form_of bi.Choice = form.Alternatives
form_of bi.Enumerated = form.Items
form_of bi.Integer = form.MaybeItems
form_of bi.BitString = form.MaybeItems
form_of _ = form.Nothing

-- ---- lists

-- more of a list behind commas, after those found; the number bounds the turns, and the count of the tokens is always enough
unfoldable pub more_listed : {A : Type 0} → (State → Read A) → ℕ → List A → State → Read (List A)
more_listed one zero found s = expected sought.Closing s
more_listed one (suc n) found s =
    if at_sign Comma s then (one (bump s) >>= λ e. more_listed one n (found ++ e.0 ∷ []) e.1) else Ok (found, s)

-- one or more, joined by commas
abbrev pub listed : {A : Type 0} → (State → Read A) → State → Read (List A)
listed one s = one s >>= λ e. more_listed one (suc (length e.1.left)) (e.0 ∷ []) e.1

-- ---- types that hold no other

-- the second word of a type, if it has one
abbrev pub skip_second : Option Keyword → State → Read (Unit {0})
skip_second None s = Ok (tt, s)
skip_second (Some k) s = skip_keyword k s

-- what stands in the braces of INTEGER (19.1), ENUMERATED (20.1) and BIT STRING (22.1)
abbrev pub items_at : Form → State → Read (List Spot)
items_at form.Items s = if at_sign OpenBrace s then group_at OpenBrace s else expected (sought.Sign OpenBrace) s
items_at form.MaybeItems s = group_at OpenBrace s
items_at _ s = Ok ([], s)

-- behind the first word
unfoldable pub plain_at : ℕ → Builtin → State → Read Tree
plain_at at b s = do
  words ← skip_second (builtin_second b) s
  items ← items_at (form_of b) words.1
  constraints ← constraints_at items.1
  Ok (plain at b items.0 constraints.0, constraints.1)

-- the name of a type (14.1), of a field of a class (X.681, 14), or of a parameterized type (X.683, 9)
unfoldable pub named_at : List ℕ → State → Read Tree
named_at name s = do
  path ← front_of (pairs_len Step (bump s).left) (bump s)
  parameters ← group_at OpenBrace path.1
  constraints ← constraints_at parameters.1
  Ok (named (place s) name path.0 parameters.0 constraints.0, constraints.1)

-- the name of a class, or of its module (X.681, 8.1)
abbrev pub is_class : List ℕ → Bool
is_class w = is_reference w || is_useful_class w

abbrev pub class_by : Option Token → State → Read (List ℕ)
class_by (Some (word w)) s = if is_class w then Ok (w, bump s) else expected sought.Reference s
class_by _ s = expected sought.Reference s

unfoldable pub class_at : State → Read (List ℕ)
class_at s = class_by (first s) s

-- INSTANCE OF, at the first word (X.681, annex C)
unfoldable pub instance_at : State → Read Tree
instance_at s = do
  of ← skip_keyword kw.Of (bump s)
  class ← class_at of.1
  path ← front_of (pairs_len Step class.1.left) class.1
  constraints ← constraints_at path.1
  Ok (instance_of (place s) class.0 path.0 constraints.0, constraints.1)

-- ANY DEFINED BY, at the first word (X.208, 28)
unfoldable pub any_defined_at : State → Read Tree
any_defined_at s = identifier_at (bump (bump (bump s))) >>= λ name. Ok (any_defined_by (place s) name.0, name.1)

-- how a tag is applied (31.2)
abbrev pub mode_at : State → Mode × State
mode_at s = if at_keyword kw.Implicit s then (Implicit, bump s) else if at_keyword kw.Explicit s then (Explicit, bump s) else (Unsaid, s)

-- ---- components

-- what makes a component optional (25.1); an alternative of a CHOICE has nothing here (29.1)
unfoldable pub need_at : Bool → State → Read Need
need_at alternatives s =
    if alternatives then Ok (must, s)
    else if at_keyword kw.Optional s then Ok (may, bump s)
    else if at_keyword kw.Default s then (value_at (bump s) >>= λ v. Ok (default v.0, v.1))
    else Ok (must, s)

abbrev pub is_number : Option Token → Bool
is_number (Some (number w)) = true
is_number _ = false

-- the number of a group, if it has one (25.1)
unfoldable pub version_at : State → Read (Unit {0})
version_at s = if is_number (first s) then skip_sign Colon (bump s) else Ok (tt, s)

-- the constraint before OF, behind the word SIZE if that is there (49)
unfoldable pub size_at : Bool → State → Read (List Spot)
size_at sized s = if sized && not (at_sign OpenParenthesis s) then expected (sought.Sign OpenParenthesis) s else constraints_at s

-- the name of the elements, if they have one (26.1, 28.1)
abbrev pub item_name_by : Option Token → State → Option (List ℕ) × State
item_name_by (Some (word w)) s = if is_identifier w && not (begins_type s) then (Some w, bump s) else (None, s)
item_name_by _ s = (None, s)

abbrev pub item_name_at : State → Option (List ℕ) × State
item_name_at s = item_name_by (first s) s

-- the marker and its exception, if it has one (25.1, 53.1)
unfoldable pub marker_at : State → Read Element
marker_at s = exception_at (bump s) >>= λ x. Ok (marker (place s) x.0, x.1)

-- parts of types, where a type is read so; alternatives: of a CHOICE
module _ (type : State → Read Tree) where
  unfoldable pub component_at : Bool → State → Read Element
  component_at alternatives s = do
    name ← identifier_at s
    t ← type name.1
    need ← need_at alternatives t.1
    Ok (component (place s) name.0 t.0 need.0, need.1)

  unfoldable pub components_of_at : State → Read Element
  components_of_at s = do
    of ← skip_keyword kw.Of (bump s)
    t ← type of.1
    Ok (components_of (place s) t.0, t.1)

  -- what may stand in a group
  unfoldable pub member_at : Bool → State → Read Element
  member_at alternatives s = if not alternatives && at_keyword kw.Components s then components_of_at s else component_at alternatives s

  -- behind `[[`, where that began at a place
  unfoldable pub members_at : ℕ → Bool → State → Read Element
  members_at at alternatives s = do
    version ← version_at s
    found ← listed (member_at alternatives) version.1
    rest ← skip_sign CloseGroup found.1
    Ok (group at (elements_from found.0), rest.1)

  -- what may stand in the braces of a SEQUENCE, SET or CHOICE
  unfoldable pub element_at : Bool → State → Read Element
  element_at alternatives s =
      if at_sign Ellipsis s then marker_at s
      else if at_sign OpenGroup s then members_at (place s) alternatives (bump s)
      else member_at alternatives s

  -- within a group, or not
  abbrev pub one_at : Bool → Bool → State → Read Element
  one_at grouped alternatives s = if grouped then member_at alternatives s else element_at alternatives s

  -- behind the opening brace
  unfoldable pub braces_at : Bool → State → Read (List Element)
  braces_at alternatives s = if at_sign CloseBrace s then Ok ([], s) else listed (one_at false alternatives) s

  -- a SEQUENCE (25), SET (27) or CHOICE (29), behind the opening brace
  unfoldable pub structure_at : ℕ → Builtin → Bool → State → Read Tree
  structure_at at b alternatives s = do
    found ← braces_at alternatives s
    rest ← skip_sign CloseBrace found.1
    constraints ← constraints_at rest.1
    Ok (structure at b (elements_from found.0) constraints.0, constraints.1)

  -- a SEQUENCE OF (26) or SET OF (28), behind the first word and behind SIZE
  unfoldable pub list_at : ℕ → Builtin → Bool → State → Read Tree
  list_at at b sized s = do
    size ← size_at sized s
    of ← skip_keyword kw.Of size.1
    t ← type (item_name_at of.1).1
    Ok (list_of at b sized size.0 (item_name_at of.1).0 t.0, t.1)

  -- behind the word SEQUENCE or SET
  unfoldable pub sequence_at : ℕ → Builtin → State → Read Tree
  sequence_at at b s =
      if at_sign OpenBrace s then structure_at at b false (bump s)
      else if at_keyword kw.Size s then list_at at b true (bump s)
      else list_at at b false s

  -- behind the word CHOICE
  unfoldable pub choice_at : ℕ → Builtin → State → Read Tree
  choice_at at b s = skip_sign OpenBrace s >>= λ body. structure_at at b true body.1

  -- a type with a tag (31.1)
  unfoldable pub tagged_at : State → Read Tree
  tagged_at s = do
    tag ← group_at OpenBracket s
    t ← type (mode_at tag.1).1
    Ok (tagged (place s) tag.0 (mode_at tag.1).0 t.0, t.1)

  -- behind the first word of a type that has words of its own
  abbrev pub formed_at : Form → ℕ → Builtin → State → Read Tree
  formed_at form.Components at b s = sequence_at at b s
  formed_at form.Alternatives at b s = choice_at at b s
  formed_at form.Items at b s = plain_at at b s
  formed_at form.MaybeItems at b s = plain_at at b s
  formed_at form.Nothing at b s = plain_at at b s

  -- a name, `<` and a type (30.1)
  unfoldable pub selection_at : List ℕ → State → Read Tree
  selection_at name s = type (bump (bump s)) >>= λ t. Ok (selection (place s) name t.0, t.1)

  -- a type that begins with a small letter
  unfoldable pub small_at : List ℕ → State → Read Tree
  small_at w s =
      if at_sign Less (bump s) then selection_at w s
      else if at_field_step s then named_at w s
      else expected sought.Type s

  -- a type that begins with a word of none that is built in
  unfoldable pub unbuilt_at : List ℕ → State → Read Tree
  unbuilt_at w s =
      if at_keyword kw.Instance s then instance_at s
      else if at_any_defined s then any_defined_at s
      else if is_identifier w then small_at w s
      else if is_class w then named_at w s
      else expected sought.Type s

  abbrev pub worded_at : Option Builtin → List ℕ → State → Read Tree
  worded_at (Some b) w s = formed_at (form_of b) (place s) b (bump s)
  worded_at None w s = unbuilt_at w s

  abbrev pub begun_at : Option Token → State → Read Tree
  begun_at (Some (word w)) s = worded_at (builtin_of w) w s
  begun_at _ s = expected sought.Type s

  unfoldable pub any_type_at : State → Read Tree
  any_type_at s = if at_sign OpenBracket s then tagged_at s else begun_at (first s) s

-- A type (17.1). The number is how many levels of types may nest.
unfoldable pub type_at : ℕ → State → Read Tree
type_at zero s = Err (fault why.TooDeep s)
type_at (suc levels) s = any_type_at (type_at levels) s
