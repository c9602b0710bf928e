-- Why there is no text, and where in the modules that shows.
use Rattle.std.specs.Prelude.{◌≡◌, Option, Some, Result, Ok, Err}
use Rattle.oer_module_names.specs.Finding.{Fault as NameFault}
use Rattle.oer_module_names.specs.declared.error.Place.{Place}
use Rattle.oer_module_syntax.specs.declared.fault.Why.TheVariants as fault
use Rattle.oer_module_text.specs.Errors.{Why, Error, unresolved, why_of}
use Rattle.oer_module_text.specs.declared.error.Why.TheVariants as raws
use Rattle.oer_module_values.specs.Errors.{unnamed}
use Rattle.oer_module_values.specs.declared.error.Why.TheVariants as told
use Rattle.oer_modules.specs.declared.cause.Cause.{Cause as RawCause}

-- the place is none where the reason is all that was asked for
pub record Cause : Type 0 where
  pub why : Why
  pub place : Option Place

abbrev pub cause_of : RawCause → Cause
cause_of c = record { why = why_of c.why; place = c.place }

infixl 10 ◌>>=◌
abbrev pub ◌>>=◌ : {A B : Type 0} → Result A Cause → (A → Result B Cause) → Result B Cause
(Ok x) >>= f = f x
(Err e) >>= f = Err e

-- what a Name stands for
abbrev pub by_name : {A : Type 0} → Result A NameFault → Result A Cause
by_name (Ok x) = Ok x
by_name (Err e) = Err (record { why = unresolved (unnamed e); place = e.place })

-- what is told of a type
abbrev pub by_type : {A : Type 0} → Result A Error → Result A Cause
by_type (Ok x) = Ok x
by_type (Err e) = Err (record { why = e.why; place = Some e.place })

-- What a function returned, seen by view, is what the plain function gives, unless memory ran out.
abbrev pub IsGiven : {X Y : Type 0} → (X → Y) → Result X RawCause → Result Y Cause → Type 0
IsGiven view (Ok x) plain = plain ≡ Ok (view x)
IsGiven view (Err e) plain = (e.why ≡ raws.Unresolved (told.Unread fault.Memory) → ⊥) → plain ≡ Err (cause_of e)
