-- Why a type has no limits, and what a function returned beside what the plain function gives.
use Rattle.std.specs.Prelude.{◌≡◌, Result, Ok, Err}
use Rattle.oer_module_names.specs.declared.error.Place.{Place}
use Rattle.oer_module_syntax.specs.declared.fault.Why.TheVariants as fault
use Rattle.oer_module_values.specs.Errors.{Why as Told, why_of as told_of, Error as ToldError}
use Rattle.oer_module_values.specs.declared.error.Why.TheVariants as told
use Rattle.oer_module_limits.specs.declared.error.Error.{Error as RawError}
use Rattle.oer_module_limits.specs.declared.error.Why as raw
use Rattle.oer_module_limits.specs.declared.error.Why.TheVariants as raws

pub data Why : Type 0 where
  unresolved : Told → Why
  too_deep inapplicable not_a_number open_end too_large value_set contained empty differs : Why

pub record Error : Type 0 where
  pub place : Place
  pub why : Why

abbrev pub Read : Type 0 → Type 0
Read A = Result A Error

abbrev pub why_of : raw.Why → Why
why_of (raws.Unresolved w) = unresolved (told_of w)
why_of raws.TooDeep = too_deep
why_of raws.Inapplicable = inapplicable
why_of raws.NotANumber = not_a_number
why_of raws.OpenEnd = open_end
why_of raws.TooLarge = too_large
why_of raws.ValueSet = value_set
why_of raws.Contained = contained
why_of raws.Empty = empty
why_of raws.Differs = differs

abbrev pub error_of : RawError → Error
error_of e = record { place = e.place; why = why_of e.why }

abbrev pub refused : {A : Type 0} → Place → Why → Read A
refused p y = Err (record { place = p; why = y })

infixl 10 ◌>>=◌
abbrev pub ◌>>=◌ : {A B : Type 0} → Read A → (A → Read B) → Read B
(Ok x) >>= f = f x
(Err e) >>= f = Err e

-- what is told of references
abbrev pub told_by : {A : Type 0} → Result A ToldError → Read A
told_by (Ok x) = Ok x
told_by (Err e) = refused e.place (unresolved e.why)

-- what a function returned, seen by view
abbrev pub seen : {X Y : Type 0} → (X → Y) → Result X RawError → Read Y
seen view (Ok x) = Ok (view x)
seen view (Err e) = Err (error_of e)

-- What a function returned, seen by view, is what the plain function gives, unless memory ran out.
abbrev pub Gives : {X Y : Type 0} → (X → Y) → Result X RawError → Read Y → Type 0
Gives view (Ok x) plain = plain ≡ Ok (view x)
Gives view (Err e) plain = (e.why ≡ raws.Unresolved (told.Unread fault.Memory) → ⊥) → plain ≡ Err (error_of e)
