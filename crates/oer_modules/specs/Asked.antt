-- The type that is asked for.
use Rattle.std.specs.Prelude.{ℕ, List, [], ◌∷◌, length, ◌==◌, nat_lt, Bool, slice_get, Result, Ok, if◌then◌else◌}
use Rattle.std.specs.List.{after_first, before_first, position_or_len}
use Rattle.std.specs.Option.{option_map_or}
use Rattle.oer_module_lexer.specs.Token.{Spot}
use Rattle.oer_module_names.specs.Finding.{Fault as NameFault, ◌>>=◌, find, find_anywhere, find_module}
use Rattle.oer_module_names.specs.Tables.{assignments_in}
use Rattle.oer_module_names.specs.declared.error.Found.{Found}
use Rattle.oer_module_syntax.specs.Tree.{Body, Module, Tree, class_body, set_body, type_body, value_body}
use Rattle.oer_module_text.specs.Errors.{Read, error, place_in, refused, unresolved}
use Rattle.oer_module_text.specs.declared.error.Part.TheVariants.{Parameters}
use Rattle.oer_module_values.specs.Errors.{not_a_type}
use Rattle.oer_module_values.specs.Types.{TypeIn, type_in}

abbrev pub is_point : ℕ → Bool
is_point c = c == 46

-- there is a point in it
abbrev pub is_qualified : List ℕ → Bool
is_qualified w = nat_lt (position_or_len is_point w) (length w)

-- `Module.Name` is what the Name stands for in that module; a Name alone is the one assignment of it in all modules
unfoldable pub asked : List Module → List ℕ → Result Found NameFault
asked ms w =
    if is_qualified w then (find_module ms (before_first is_point w) >>= λ k. find ms k (after_first is_point w))
    else find_anywhere ms w

-- a type without parameters
abbrev pub type_without : ℕ → ℕ → List Spot → Tree → Read TypeIn
type_without k at [] t = Ok (type_in k t)
type_without k at (p ∷ ps) t = refused k at Parameters

abbrev pub type_by : ℕ → ℕ → List Spot → Body → Read TypeIn
type_by k at ps (type_body t) = type_without k at ps t
type_by k at ps (class_body fields syntax) = error (place_in k at) (unresolved not_a_type)
type_by k at ps (value_body governor value) = error (place_in k at) (unresolved not_a_type)
type_by k at ps (set_body governor set) = error (place_in k at) (unresolved not_a_type)

-- the type that an assignment gives its name
unfoldable pub type_at : List Module → Found → Read TypeIn
type_at ms x =
    option_map_or (λ a. type_by x.«module» a.at a.parameters a.body)
    (slice_get (assignments_in ms x.«module») x.assignment)
    (error (place_in x.«module» 0) (unresolved not_a_type))
