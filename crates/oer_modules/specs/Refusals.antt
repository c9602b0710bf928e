-- Why modules give no text, and where in the texts that shows.
use Rattle.std.specs.Prelude.{◌≡◌, ℕ, List, [], Option, Some, None, option_map, slice_get, Result, Ok, Err}
use Rattle.std.specs.Option.{option_map_or}
use Rattle.oer_module_names.specs.declared.error.Place.{Place}
use Rattle.oer_module_names.specs.declared.error.Why.{Why as NameWhy}
use Rattle.oer_module_names.specs.declared.error.Why.TheVariants.{InTwoModules}
use Rattle.oer_module_syntax.specs.Tree.{Module}
use Rattle.oer_module_syntax.specs.declared.fault.Why.TheVariants as fault
use Rattle.oer_module_text.specs.Errors.{Why, unresolved, why_of}
use Rattle.oer_module_text.specs.declared.error.Why.TheVariants as raws
use Rattle.oer_module_values.specs.Errors.{Why as Told, unnamed, unread}
use Rattle.oer_module_values.specs.declared.error.Why.TheVariants as told
use Rattle.oer_modules.specs.Causes.{Cause}
use Rattle.oer_modules.specs.Places.{Point, point_at, point_of}
use Rattle.oer_modules.specs.Texts.{Library}
use Rattle.oer_modules.specs.declared.refusal.Refusal.{Refusal as RawRefusal}
use Rattle.oer_modules.specs.declared.texts.Misread.{Misread}

-- The names are those of two modules that assign what was asked for, where that is the reason.
pub record Refusal : Type 0 where
  pub why : Why
  pub point : Option Point
  pub modules : Option (List ℕ × List ℕ)

abbrev pub refusal_of : RawRefusal → Refusal
refusal_of r = record { why = why_of r.why; point = option_map point_of r.point; modules = option_map (λ x. (x.0.now, x.1.now)) r.modules }

abbrev pub name_at : List Module → ℕ → List ℕ
name_at ms k = option_map_or (λ m. m.name) (slice_get ms k) []

abbrev pub names_by : List Module → NameWhy → Option (List ℕ × List ℕ)
names_by ms (InTwoModules a b) = Some (name_at ms a, name_at ms b)
names_by ms _ = None

abbrev pub names_told : List Module → Told → Option (List ℕ × List ℕ)
names_told ms (unnamed e) = names_by ms e.why
names_told ms _ = None

-- the names of the two modules
abbrev pub both_names : List Module → Why → Option (List ℕ × List ℕ)
both_names ms (unresolved w) = names_told ms w
both_names ms _ = None

module _ (ts : List (List ℕ)) where
  -- a text that can't be read
  abbrev pub unreadable : Misread → Refusal
  unreadable e = record { why = unresolved (unread e.fault.why); point = point_at ts e.text e.fault.at; modules = None }

  abbrev pub point_home : ℕ → Option ℕ → Option Point
  point_home at None = None
  point_home at (Some n) = point_at ts n at

  -- a place in a module, as one in its text
  abbrev pub point_place : List ℕ → Place → Option Point
  point_place homes p = point_home p.at (slice_get homes p.«module»)

  abbrev pub point_maybe : List ℕ → Option Place → Option Point
  point_maybe homes None = None
  point_maybe homes (Some p) = point_place homes p

  -- modules that could be read
  abbrev pub refuse : Library → Cause → Refusal
  refuse l c = record { why = c.why; point = point_maybe l.homes c.place; modules = both_names l.modules c.why }

-- What a function returned, seen by view, is what the plain function gives, unless memory ran out.
abbrev pub Gives : {X Y : Type 0} → (X → Y) → Result X RawRefusal → Result Y Refusal → Type 0
Gives view (Ok x) plain = plain ≡ Ok (view x)
Gives view (Err e) plain = (e.why ≡ raws.Unresolved (told.Unread fault.Memory) → ⊥) → plain ≡ Err (refusal_of e)
