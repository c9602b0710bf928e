-- Where octets are rejected.
use Rattle.std.specs.Prelude.{◌≡◌, ℕ, List, [], Bool, true, false, Option, Some, option_map, string_bytes}
use Rattle.oer_units.specs.Reader.{Outcome, at, got, refused}
use Rattle.oer_units.specs.declared.tagging.Tag.{Tag}
use Rattle.oer_model.specs.AsnType.{AsnType}
use Rattle.oer_model.specs.Checking.{check_value}
use Rattle.oer_model.specs.Parts.{Step}
use Rattle.oer_values.specs.ShapeView.{type_of}
use Rattle.oer_checker.specs.Check.{most}
use Rattle.oer_entries.specs.Ways.{names_text, path_text, type_on}
use Rattle.oer_entries.specs.declared.entry.Place.{Place}

abbrev pub is_refused : {A : Type 0} → Outcome A → Bool
is_refused (got x q) = false
is_refused (refused why rest) = true

-- no encoding of a value of the type stands at the front of the octets
abbrev pub is_rejected : AsnType → List ℕ → Bool
is_rejected T octets = is_refused (check_value T (at octets most))

-- The part at the end of some path from a value of the type: its path, in the spelling of `oer part`, the names on it, and its type, if that is
-- known. tags: those of CHOICEs on the path.
pub record IsPlace (T : AsnType) (place : Place) : Type 0 where
  pub steps : List Step
  pub tags : List Step → Option Tag
  pub path : string_bytes place.path ≡ path_text steps
  pub names : string_bytes place.names ≡ names_text T tags steps
  pub shape : option_map (λ s. type_of s.now) place.shape ≡ type_on tags (Some T) [] steps
