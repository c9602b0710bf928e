-- Why a type of a module has no text, and what a function returned beside what the plain function gives.
use Rattle.std.specs.Prelude.{◌≡◌, ℕ, Result, Ok, Err}
use Rattle.oer_module_limits.specs.Errors.{Why as Limited, Error as LimitedError, unresolved as limited_unresolved, why_of as limited_of}
use Rattle.oer_module_limits.specs.declared.error.Why as limits
use Rattle.oer_module_limits.specs.declared.error.Why.TheVariants as limit
use Rattle.oer_module_names.specs.declared.error.Place.{Place}
use Rattle.oer_module_syntax.specs.declared.fault.Fault.{Fault}
use Rattle.oer_module_syntax.specs.declared.fault.Why.TheVariants as fault
use Rattle.oer_module_values.specs.Errors.{Why as Told, Error as ToldError, unread, why_of as told_of}
use Rattle.oer_module_values.specs.declared.error.Why.TheVariants as told
use Rattle.oer_module_text.specs.declared.error.Error.{Error as RawError}
use Rattle.oer_module_text.specs.declared.error.Part.{Part}
use Rattle.oer_module_text.specs.declared.error.Why as raw
use Rattle.oer_module_text.specs.declared.error.Why.TheVariants as raws

pub data Why : Type 0 where
  unresolved : Told → Why
  unlimited : Limited → Why
  not_taken : Part → Why
  misnumbered tag_number no_such_value too_deep too_many_parts too_long too_wide : Why

pub record Error : Type 0 where
  pub place : Place
  pub why : Why

abbrev pub Read : Type 0 → Type 0
Read A = Result A Error

abbrev pub why_of : raw.Why → Why
why_of (raws.Unresolved w) = unresolved (told_of w)
why_of (raws.Unlimited w) = unlimited (limited_of w)
why_of (raws.NotTaken p) = not_taken p
why_of raws.Misnumbered = misnumbered
why_of raws.TagNumber = tag_number
why_of raws.NoSuchValue = no_such_value
why_of raws.TooDeep = too_deep
why_of raws.TooManyParts = too_many_parts
why_of raws.TooLong = too_long
why_of raws.TooWide = too_wide

abbrev pub error_of : RawError → Error
error_of e = record { place = e.place; why = why_of e.why }

abbrev pub place_in : ℕ → ℕ → Place
place_in m at = record { «module» = m; at = at }

abbrev pub error : {A : Type 0} → Place → Why → Read A
error p y = Err (record { place = p; why = y })

-- a part that isn't taken, in a module at a byte
abbrev pub refused : {A : Type 0} → ℕ → ℕ → Part → Read A
refused m at part = error (place_in m at) (not_taken part)

infixl 10 ◌>>=◌
abbrev pub ◌>>=◌ : {A B : Type 0} → Read A → (A → Read B) → Read B
(Ok x) >>= f = f x
(Err e) >>= f = Err e

-- what is told of references
abbrev pub told_by : {A : Type 0} → Result A ToldError → Read A
told_by (Ok x) = Ok x
told_by (Err e) = error e.place (unresolved e.why)

-- what tokens of a module read, or their fault
abbrev pub in_module : {A : Type 0} → ℕ → Result A Fault → Read A
in_module m (Ok x) = Ok x
in_module m (Err e) = error (place_in m e.at) (unresolved (unread e.why))

-- what is told of limits
abbrev pub from_limits : Limited → Why
from_limits (limited_unresolved w) = unresolved w
from_limits w = unlimited w

abbrev pub limited_by : {A : Type 0} → Result A LimitedError → Read A
limited_by (Ok x) = Ok x
limited_by (Err e) = error e.place (from_limits e.why)

-- the same of what the code has
abbrev pub by_limits : limits.Why → raw.Why
by_limits (limit.Unresolved w) = raws.Unresolved w
by_limits w = raws.Unlimited w

-- what a function returned, seen by view
abbrev pub seen : {X Y : Type 0} → (X → Y) → Result X RawError → Read Y
seen view (Ok x) = Ok (view x)
seen view (Err e) = Err (error_of e)

-- What a function returned, seen by view, is what the plain function gives, unless memory ran out.
abbrev pub Gives : {X Y : Type 0} → (X → Y) → Result X RawError → Read Y → Type 0
Gives view (Ok x) plain = plain ≡ Ok (view x)
Gives view (Err e) plain = (e.why ≡ raws.Unresolved (told.Unread fault.Memory) → ⊥) → plain ≡ Err (error_of e)
