-- The alternative of a CHOICE that a value names (X.680, 29), and its tag.
use Rattle.std.specs.Prelude.{ℕ, suc, List, [], ◌∷◌, Option, Some, None, slice_get, Ok, if◌then◌else◌}
use Rattle.std.specs.Str.{bytes_eq}
use Rattle.oer_module_names.specs.declared.error.Place.{Place}
use Rattle.oer_module_syntax.specs.Tree.{Module}
use Rattle.oer_module_tags.specs.Alternatives.{alternative_tags}
use Rattle.oer_module_text.specs.Errors.{Read, ◌>>=◌}
use Rattle.oer_module_text.specs.Room.{Room}
use Rattle.oer_module_values.specs.Types.{TypeIn, type_in}
use Rattle.oer_units.specs.declared.tagging.Tag.{Tag}
use Rattle.oer_module_defaults.specs.Atoms.{none_such}
use Rattle.oer_module_defaults.specs.Components.{Component, components_at, elements_of}
use Rattle.oer_module_defaults.specs.Governors.{Governor}

pub record Alternative : Type 0 where
  pub of : TypeIn
  pub tag : Tag

-- which of them has that name, counted from a number
abbrev pub index_of : ℕ → List ℕ → List Component → Option ℕ
index_of i w [] = None
index_of i w (c ∷ cs) = if bytes_eq c.name w then Some i else index_of (suc i) w cs

abbrev pub alternative_by : Place → Option Component → Option Tag → Read Alternative
alternative_by p (Some c) (Some t) = Ok (record { of = type_in c.«module» c.type; tag = t })
alternative_by p None t = none_such p
alternative_by p (Some c) None = none_such p

abbrev pub alternative_in : Place → List Tag → List Component → Option ℕ → Read Alternative
alternative_in p ts cs None = none_such p
alternative_in p ts cs (Some i) = alternative_by p (slice_get cs i) (slice_get ts i)

-- of a CHOICE that governs a value at a place
unfoldable pub alternative_at : List Module → Place → Governor → List ℕ → Room → Read (Alternative × Room)
alternative_at ms p g w r = do
  es ← elements_of p g.type
  ts ← alternative_tags ms g.«module» es
  x ← components_at ms g.«module» es r
  a ← alternative_in p ts x.0 (index_of 0 w x.0)
  Ok (a, x.1)
