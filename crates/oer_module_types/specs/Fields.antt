-- Names behind which actual parameters or fields of a class stand (X.681, 14; X.683, 9).
use Rattle.std.specs.Prelude.{ℕ, List, [], ◌∷◌, Bool, false, ◌&&◌, ◌||◌, Option, Some, None, Ok, codes, if◌then◌else◌}
use Rattle.std.specs.Str.{bytes_eq}
use Rattle.oer_model.specs.AsnType.{AsnType, octet_string}
use Rattle.oer_model.specs.Constraints.{any_size}
use Rattle.oer_module_lexer.specs.Token.{Token, Spot, field}
use Rattle.oer_module_lexer.specs.declared.token.Sign.TheVariants.{Point, OpenBrace, CloseBrace, Comma}
use Rattle.oer_module_leaves.specs.Comments.{open_at as open_text}
use Rattle.oer_module_limits.specs.Written.{Written}
use Rattle.oer_module_names.specs.declared.error.Place.{Place}
use Rattle.oer_module_syntax.specs.Modules.{none_left}
use Rattle.oer_module_syntax.specs.State.{is_sign, is_word}
use Rattle.oer_module_syntax.specs.Tree.{Module, Body, class_body, type_body, value_body, set_body}
use Rattle.oer_module_syntax.specs.Words.{is_useful_class}
use Rattle.oer_module_text.specs.Errors.{Read, ◌>>=◌, told_by, refused, place_in}
use Rattle.oer_module_text.specs.Room.{Room}
use Rattle.oer_module_text.specs.declared.error.Part.TheVariants.{Field, Parameters}
use Rattle.oer_module_values.specs.Looks.{own}
use Rattle.oer_module_values.specs.Types.{Referent, referred}

-- the field that the steps behind a class name: `.` and a field
abbrev pub field_by : Token → Token → Option (List ℕ)
field_by t (field w) = if is_sign Point (Some t) then Some w else None
field_by t _ = None

abbrev pub field_of : List Spot → Option (List ℕ)
field_of (t ∷ u ∷ []) = field_by t.token u.token
field_of _ = None

abbrev pub is_field : List ℕ → Token → Bool
is_field w (field v) = bytes_eq v w
is_field w _ = false

-- what stands before a field of a class, and what stands behind one that is a type's: no type or class governs it (X.681, 9.5)
abbrev pub begins_field : Token → Bool
begins_field t = is_sign OpenBrace (Some t) || is_sign Comma (Some t)

abbrev pub ends_field : Token → Bool
ends_field t =
    is_sign Comma (Some t) || is_sign CloseBrace (Some t) || is_word (codes "OPTIONAL") (Some t) || is_word (codes "DEFAULT") (Some t)

abbrev pub is_type_field : List ℕ → Token → Token → Token → Bool
is_type_field w t u v = begins_field t && is_field w u && ends_field v

-- whether the fields of a class have one of this name that is a type's
abbrev pub has_type_field : List ℕ → List Spot → Bool
has_type_field w (t ∷ u ∷ v ∷ more) = is_type_field w t.token u.token v.token || has_type_field w (u ∷ v ∷ more)
has_type_field w _ = false

abbrev pub has_field : List ℕ → Body → Bool
has_field w (class_body fields syntax) = has_type_field w fields
has_field w (type_body t) = false
has_field w (value_body t ts) = false
has_field w (set_body t ts) = false

abbrev pub is_open_by : List ℕ → Option Referent → Bool
is_open_by w None = false
is_open_by w (Some c) = has_field w c.assignment.body

-- an open type stands as its octets, of which there may be any number (X.696, 30)
abbrev pub if_open : Place → Written → Room → Bool → Read (AsnType × Room)
if_open p w r o = if o then Ok (octet_string any_size, open_text w r) else refused p.«module» p.at Field

module _ (ms : List Module) where
  -- whether a field of a class, by its name, is a type's; TYPE-IDENTIFIER and ABSTRACT-SYNTAX have one (X.681, annexes A and B)
  abbrev pub is_open : ℕ → ℕ → List ℕ → List ℕ → Read Bool
  is_open m at class w =
      if is_useful_class class then Ok (bytes_eq w (codes "&Type"))
      else told_by (referred ms (place_in m at) class own) >>= λ c. Ok (is_open_by w c)

  abbrev pub open_at : ℕ → ℕ → List ℕ → Option (List ℕ) → Read Bool
  open_at m at class None = Ok false
  open_at m at class (Some w) = is_open m at class w

  -- a name at a place, with steps, actual parameters and constraints
  unfoldable pub field_at : Place → List ℕ → List Spot → List Spot → Written → Room → Read (AsnType × Room)
  field_at p name steps ps w r =
      if none_left ps then (open_at p.«module» p.at name (field_of steps) >>= if_open p w r)
      else refused p.«module» p.at Parameters
