-- Why a reference stands for nothing, and what a function returned beside what the plain function gives.
use Rattle.std.specs.Prelude.{◌≡◌, ℕ, Result, Ok, Err}
use Rattle.oer_module_names.specs.Finding.{Fault as NameFault}
use Rattle.oer_module_names.specs.Views.{fault_of}
use Rattle.oer_module_names.specs.declared.error.Place.{Place}
use Rattle.oer_module_syntax.specs.declared.fault.Fault.{Fault}
use Rattle.oer_module_syntax.specs.declared.fault.Why.{Why as SyntaxWhy}
use Rattle.oer_module_syntax.specs.declared.fault.Why.TheVariants as syntax
use Rattle.oer_module_values.specs.declared.error.Error.{Error as RawError}
use Rattle.oer_module_values.specs.declared.error.Why as raw
use Rattle.oer_module_values.specs.declared.error.Why.TheVariants as raws

pub data Why : Type 0 where
  unread : SyntaxWhy → Why
  unnamed : NameFault → Why
  circular not_a_type not_a_value not_a_number unnumbered unsettled too_large : Why

pub record Error : Type 0 where
  pub place : Place
  pub why : Why

abbrev pub why_of : raw.Why → Why
why_of (raws.Unread w) = unread w
why_of (raws.Unnamed e) = unnamed (fault_of e)
why_of raws.Circular = circular
why_of raws.NotAType = not_a_type
why_of raws.NotAValue = not_a_value
why_of raws.NotANumber = not_a_number
why_of raws.Unnumbered = unnumbered
why_of raws.Unsettled = unsettled
why_of raws.TooLarge = too_large

abbrev pub error_of : RawError → Error
error_of e = record { place = e.place; why = why_of e.why }

abbrev pub error : {A : Type 0} → Place → Why → Result A Error
error p y = Err (record { place = p; why = y })

abbrev pub place_in : ℕ → ℕ → Place
place_in m at = record { «module» = m; at = at }

infixl 10 ◌>>=◌
abbrev pub ◌>>=◌ : {A B : Type 0} → Result A Error → (A → Result B Error) → Result B Error
(Ok x) >>= f = f x
(Err e) >>= f = Err e

-- what tokens of a module read, or their fault
abbrev pub in_module : {A : Type 0} → ℕ → Result A Fault → Result A Error
in_module m (Ok x) = Ok x
in_module m (Err e) = error (place_in m e.at) (unread e.why)

-- what a function returned, seen by view
abbrev pub seen : {X Y : Type 0} → (X → Y) → Result X RawError → Result Y Error
seen view (Ok x) = Ok (view x)
seen view (Err e) = Err (error_of e)

-- What a function returned, seen by view, is what the plain function gives, unless memory ran out.
abbrev pub Gives : {X Y : Type 0} → (X → Y) → Result X RawError → Result Y Error → Type 0
Gives view (Ok x) plain = plain ≡ Ok (view x)
Gives view (Err e) plain = (e.why ≡ raws.Unread syntax.Memory → ⊥) → plain ≡ Err (error_of e)
