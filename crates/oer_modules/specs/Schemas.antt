-- The well-formed type that a name has in modules.
use Rattle.std.specs.Prelude.{◌≡◌, ℕ, List, map, Option, Some, None, option_map, slice_get, Result, Ok, Err}
use Rattle.std.specs.Option.{option_map_or}
use Rattle.oer_model.specs.AsnType.{AsnType}
use Rattle.oer_model.specs.FaultTest.{first_fault}
use Rattle.oer_model.specs.declared.fault.SchemaFault.{SchemaFault}
use Rattle.oer_module_lexer.specs.Lexing.{lex}
use Rattle.oer_module_names.specs.Tables.{assignments_in}
use Rattle.oer_module_names.specs.declared.error.Found.{Found}
use Rattle.oer_module_names.specs.declared.error.Place.{Place}
use Rattle.oer_module_syntax.specs.Tree.{Module}
use Rattle.oer_module_syntax.specs.declared.fault.Why.TheVariants as fault
use Rattle.oer_module_text.specs.Errors.{place_in}
use Rattle.oer_module_text.specs.declared.error.Why.TheVariants as raws
use Rattle.oer_module_values.specs.declared.error.Why.TheVariants as told
use Rattle.oer_types.specs.Schema.{the_type}
use Rattle.oer_types.specs.declared.schema.Schema.{Schema}
use Rattle.oer_value_notation.specs.declared.fault.TextWhy.{TextWhy}
use Rattle.oer_value_notation.specs.declared.fault.TextWhy.TheVariants as why
use Rattle.oer_modules.specs.Asked.{asked, type_at}
use Rattle.oer_modules.specs.Causes.{Cause, ◌>>=◌, by_name, by_type}
use Rattle.oer_modules.specs.Listed.{rejected_words}
use Rattle.oer_modules.specs.Nesting.{typed_by}
use Rattle.oer_modules.specs.Places.{Point, point_of}
use Rattle.oer_modules.specs.Refusals.{Refusal, point_place, refusal_of, refuse, unreadable}
use Rattle.oer_modules.specs.Texts.{Library, no_modules, read_each}
use Rattle.oer_modules.specs.Words.{Text, refusal_words}
use Rattle.oer_modules.specs.declared.schema.NoType.{NoType as RawNoType}
use Rattle.oer_modules.specs.declared.schema.NoType.TheVariants as raw
use Rattle.oer_modules.specs.declared.texts.Misread.{Misread}

-- Why there is none: why the Name has no text; or its type isn't well-formed, for this reason, and the point is that of the Name.
pub data NoType : Type 0 where
  refused : Refusal → NoType
  rejected : Option Point → TextWhy → NoType

abbrev pub no_type_of : RawNoType → NoType
no_type_of (raw.Refused r) = refused (refusal_of r)
no_type_of (raw.Rejected r) = rejected (option_map point_of r.point) r.why

abbrev pub no_type_words : NoType → Text
no_type_words (refused r) = refusal_words r
no_type_words (rejected p w) = rejected_words p w

-- where a Name is assigned; it always is
unfoldable pub name_place : List Module → Found → Place
name_place ms x = place_in x.«module» (option_map_or (λ a. a.at) (slice_get (assignments_in ms x.«module») x.assignment) 0)

-- where a Name is assigned, and its type, well-formed or not
unfoldable pub placed_type : List Module → Text → ℕ → Result (Place × AsnType) Cause
placed_type ms w n = do
  x ← by_name (asked ms w)
  t ← by_type (type_at ms x)
  y ← by_type (typed_by ms n t)
  Ok (name_place ms x, y.0)

module _ (ts : List Text) (l : Library) where
  -- a type whose Name is assigned at a place, of which this is the first fault
  abbrev pub sound_by : Place → AsnType → Option SchemaFault → Result AsnType NoType
  sound_by p T None = Ok T
  sound_by p T (Some f) = Err (rejected (point_place ts l.homes p) (why.Schema f))

  abbrev pub sound_in : Result (Place × AsnType) Cause → Result AsnType NoType
  sound_in (Ok x) = sound_by x.0 x.1 (first_fault x.1)
  sound_in (Err c) = Err (refused (refuse ts l c))

abbrev pub schema_by : List Text → Text → ℕ → Result Library Misread → Result AsnType NoType
schema_by ts w n (Ok l) = sound_in ts l (placed_type l.modules w n)
schema_by ts w n (Err e) = Err (refused (unreadable ts e))

unfoldable pub schema_of_modules : List Text → Text → ℕ → Result AsnType NoType
schema_of_modules ts w n = schema_by ts w n (read_each 0 (map lex ts) no_modules)

-- An allocation failed.
abbrev pub IsMemory : RawNoType → Type 0
IsMemory (raw.Refused r) = r.why ≡ raws.Unresolved (told.Unread fault.Memory)
IsMemory (raw.Rejected r) = ⊥

-- What a function returned is what the plain function gives, unless an allocation failed.
abbrev pub GivesType : Result Schema RawNoType → Result AsnType NoType → Type 0
GivesType (Ok s) plain = plain ≡ Ok (the_type s)
GivesType (Err e) plain = (IsMemory e → ⊥) → plain ≡ Err (no_type_of e)
