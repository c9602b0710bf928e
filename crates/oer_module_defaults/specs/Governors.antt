-- What governs a value (X.680, 3.8): a type whose values are taken.
use Rattle.std.specs.Prelude.{ℕ, List, [], ◌==◌, Bool, true, false, not, ◌&&◌, ◌||◌, Option, Some, None, Ok, if◌then◌else◌}
use Rattle.oer_module_lexer.specs.Token.{Spot, spots_of}
use Rattle.oer_module_names.specs.declared.error.Place.{Place}
use Rattle.oer_module_syntax.specs.Tree.{Module, Tree, plain, structure, list_of, tree_of}
use Rattle.oer_module_syntax.specs.declared.word.Builtin.{Builtin}
use Rattle.oer_module_syntax.specs.declared.word.Builtin.TheVariants as bi
use Rattle.oer_module_text.specs.Errors.{Read, error, not_taken, no_such_value, told_by, ◌>>=◌}
use Rattle.oer_module_text.specs.declared.error.Part.TheVariants as part
use Rattle.oer_module_values.specs.Looks.{place_of}
use Rattle.oer_module_values.specs.Types.{TypeIn, meaning}
use Rattle.oer_module_defaults.specs.declared.governor.Governor.{Governor as RawGovernor}
use Rattle.oer_module_defaults.specs.declared.governor.Kind.{Kind}
use Rattle.oer_module_defaults.specs.declared.governor.Kind.TheVariants.{Boolean, Null, Integer, Enumerated, Octets, Bits, Text, Arcs}
use Rattle.oer_module_defaults.specs.declared.governor.Kind.TheVariants.{Sequence, SequenceOf, Choice}

-- a type that is no reference, its module, the kind of its values, and the items in its braces
pub record Governor : Type 0 where
  pub «module» : ℕ
  pub type : Tree
  pub kind : Kind
  pub items : List Spot

abbrev pub governor_of : RawGovernor → Governor
governor_of g = record { «module» = g.«module»; type = tree_of g.syntax.now; kind = g.kind; items = spots_of g.items.now }

-- the five types of strings have one kind
abbrev pub kind_of : Builtin → Option Kind
kind_of bi.Boolean = Some Boolean
kind_of bi.Null = Some Null
kind_of bi.Integer = Some Integer
kind_of bi.Enumerated = Some Enumerated
kind_of bi.OctetString = Some Octets
kind_of bi.BitString = Some Bits
kind_of bi.Ia5String = Some Text
kind_of bi.Iso646String = Some Text
kind_of bi.NumericString = Some Text
kind_of bi.PrintableString = Some Text
kind_of bi.Utf8String = Some Text
kind_of bi.VisibleString = Some Text
kind_of bi.ObjectIdentifier = Some Arcs
kind_of _ = None

-- SEQUENCE and CHOICE, and SEQUENCE OF
abbrev pub structure_kind : Builtin → Option Kind
structure_kind bi.Sequence = Some Sequence
structure_kind bi.Choice = Some Choice
structure_kind _ = None

abbrev pub list_kind : Builtin → Option Kind
list_kind bi.Sequence = Some SequenceOf
list_kind _ = None

abbrev pub kind_in : Tree → Option Kind
kind_in (plain at b items cs) = kind_of b
kind_in (structure at b es cs) = structure_kind b
kind_in (list_of at b sized ss w t) = list_kind b
kind_in _ = None

abbrev pub items_in : Tree → List Spot
items_in (plain at b items cs) = items
items_in _ = []

abbrev pub governed_by : ℕ → Tree → Option Kind → Option Governor
governed_by m t None = None
governed_by m t (Some k) = Some (record { «module» = m; type = t; kind = k; items = items_in t })

-- what a type that is no reference governs
abbrev pub governed : ℕ → Tree → Option Governor
governed m t = governed_by m t (kind_in t)

abbrev pub or_refused : Place → Option Governor → Read Governor
or_refused p None = error p (not_taken part.Value)
or_refused p (Some g) = Ok g

-- what a type governs where a value stands at a place
unfoldable pub governor_at : List Module → Place → TypeIn → Read Governor
governor_at ms p t = told_by (meaning ms t) >>= λ r. or_refused p (governed r.of.«module» r.of.type)

-- a number for each kind, by which kinds are compared
abbrev pub kind_number : Kind → ℕ
kind_number Boolean = 0
kind_number Null = 1
kind_number Integer = 2
kind_number Enumerated = 3
kind_number Octets = 4
kind_number Bits = 5
kind_number Text = 6
kind_number Arcs = 7
kind_number Sequence = 8
kind_number SequenceOf = 9
kind_number Choice = 10

abbrev pub same_kind : Kind → Kind → Bool
same_kind k l = kind_number k == kind_number l

abbrev pub of_kind : Place → Kind → Governor → Read Governor
of_kind p k g = if same_kind k g.kind then Ok g else error p no_such_value

-- values that hold others
abbrev pub holds_others : Kind → Bool
holds_others Sequence = true
holds_others SequenceOf = true
holds_others Choice = true
holds_others _ = false

-- both stand at one place
abbrev pub is_same_type : Governor → Governor → Bool
is_same_type g h = g.«module» == h.«module» && place_of g.type == place_of h.type

-- Whether a value that the second governs can be one of the first. What holds others is read by the names, tags and numbers
-- of its own type, so this has to be the same definition.
abbrev pub is_taken_by : Governor → Governor → Bool
is_taken_by g h = not (holds_others h.kind) || is_same_type g h
