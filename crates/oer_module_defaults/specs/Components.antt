-- The components of a SEQUENCE, with those for which COMPONENTS OF stands, and the alternatives of a CHOICE (X.680, 25 and 29).
use Rattle.std.specs.Prelude.{ℕ, zero, suc, List, [], ◌∷◌, ◌++◌, Bool, true, false, ◌&&◌, ◌||◌, Option, Some, None, Ok, if◌then◌else◌}
use Rattle.oer_module_names.specs.declared.error.Place.{Place}
use Rattle.oer_module_syntax.specs.Tree.{Module, Tree, structure, list_of, Elements, no_elements, element, Element, marker, group}
use Rattle.oer_module_syntax.specs.Tree.{components_of, component, Need, must, may, default}
use Rattle.oer_module_syntax.specs.declared.word.Builtin.TheVariants as bi
use Rattle.oer_module_text.specs.Errors.{Read, error, place_in, refused, told_by, too_deep, ◌>>=◌}
use Rattle.oer_module_text.specs.Room.{Room, take_part}
use Rattle.oer_module_text.specs.declared.error.Part.TheVariants as parts
use Rattle.oer_module_values.specs.Types.{type_in, meaning}
use Rattle.oer_module_defaults.specs.Atoms.{none_such}
use Rattle.oer_module_defaults.specs.declared.component.Listing.{Listing}

-- its name and type, and the module that they stand in; whether a value may be without it, and whether it stands behind the marker
pub record Component : Type 0 where
  pub «module» : ℕ
  pub name : List ℕ
  pub type : Tree
  pub optional : Bool
  pub added : Bool

abbrev pub is_optional : Need → Bool
is_optional must = false
is_optional may = true
is_optional (default v) = true

abbrev pub component_in : Listing → List ℕ → Tree → Need → Component
component_in l w t need =
    record { «module» = l.«module»; name = w; type = t; optional = l.marked || is_optional need; added = l.marked }

-- ---- what is listed: the elements of a type in a module, or those of its root alone; whether the marker stands before

abbrev pub whole : ℕ → Listing
whole m = record { «module» = m; root = false; marked = false }

abbrev pub root_of : ℕ → Listing
root_of m = record { «module» = m; root = true; marked = false }

abbrev pub is_marker : Element → Bool
is_marker (marker at x) = true
is_marker (group at es) = false
is_marker (components_of at t) = false
is_marker (component at w t need) = false

abbrev pub behind : Listing → Element → Listing
behind l e = record { «module» = l.«module»; root = l.root; marked = l.marked || is_marker e }

-- ---- parts of types

-- the elements of a SEQUENCE or CHOICE that governs a value at a place
abbrev pub elements_of : Place → Tree → Read Elements
elements_of p (structure at b es cs) = Ok es
elements_of p t = none_such p

-- the elements of a SEQUENCE
abbrev pub sequence_of : Tree → Option Elements
sequence_of (structure at bi.Sequence es cs) = Some es
sequence_of t = None

-- COMPONENTS OF at a place stands for the root of no other
abbrev pub included_by : Place → Option Elements → Read Elements
included_by p None = refused p.«module» p.at parts.ComponentsOf
included_by p (Some es) = Ok es

-- the type of the items of a SEQUENCE OF
abbrev pub item_in : Tree → Option Tree
item_in (list_of at b sized ss w t) = Some t
item_in t = None

-- ---- the components, behind those found

-- Each takes a part, so that values in which many are absent are bounded too. Those of COMPONENTS OF a type, at a place, are
-- given.
module _ (included : Place → Tree → List Component → Room → Read (List Component × Room)) where
  -- among additions it isn't taken
  abbrev pub included_at : Listing → Place → Tree → List Component → Room → Read (List Component × Room)
  included_at l p t found r = if l.marked then refused p.«module» p.at parts.ComponentsOf else included p t found r

  abbrev pub inner_at : Listing → Element → List Component → Room → Read (List Component × Room)
  inner_at l (marker at x) found r = Ok (found, r)
  inner_at l (group at es) found r = refused l.«module» at parts.Group
  inner_at l (components_of at t) found r = included_at l (place_in l.«module» at) t found r
  inner_at l (component at w t need) found r = take_part (place_in l.«module» at) r >>= λ s. Ok (found ++ component_in l w t need ∷ [], s)

  -- of a root, what stands behind the marker is left out (25.5)
  abbrev pub element_at : Listing → Element → List Component → Room → Read (List Component × Room)
  element_at l (marker at x) found r = if l.marked then refused l.«module» at parts.SecondMarker else Ok (found, r)
  element_at l e found r = if l.root && l.marked then Ok (found, r) else inner_at l e found r

  abbrev pub elements_at : Listing → Elements → List Component → Room → Read (List Component × Room)
  elements_at l no_elements found r = Ok (found, r)
  elements_at l (element e es) found r = element_at l e found r >>= λ x. elements_at (behind l e) es x.0 x.1

module _ (ms : List Module) where
  -- COMPONENTS OF a type takes a part
  abbrev pub meant_at : (Place → Tree → List Component → Room → Read (List Component × Room))
      → Place → Tree → List Component → Room → Read (List Component × Room)
  meant_at included p t found r = do
    u ← told_by (meaning ms (type_in p.«module» t))
    s ← take_part p r
    es ← included_by p (sequence_of u.of.type)
    elements_at included (root_of u.of.«module») es found s

  -- the number is how many levels of COMPONENTS OF may nest
  unfoldable pub roots_at : ℕ → Place → Tree → List Component → Room → Read (List Component × Room)
  roots_at zero p t found r = error p too_deep
  roots_at (suc levels) p t found r = meant_at (roots_at levels) p t found r

  -- all that elements in a module are
  unfoldable pub components_at : ℕ → Elements → Room → Read (List Component × Room)
  components_at m es r = elements_at (roots_at 32) (whole m) es [] r
