-- Whether the text of a type stands for it.
use Rattle.std.specs.Prelude.{ℕ, List, Bool, false, Option, Some, None, Result, Ok, Err, if◌then◌else◌}
use Rattle.std.specs.Str.{bytes_eq}
use Rattle.oer_model.specs.AsnType.{AsnType}
use Rattle.oer_model.specs.FaultTest.{first_fault}
use Rattle.oer_model.specs.declared.fault.SchemaFault.{SchemaFault}
use Rattle.oer_printer.specs.Printing.{printed}
use Rattle.oer_value_notation.specs.declared.fault.TextFault.{TextFault}
use Rattle.oer_value_notation.specs.declared.fault.TextWhy.TheVariants as why
use Rattle.oer_modules.specs.declared.unlisted.Unlisted.{Unlisted}
use Rattle.oer_modules.specs.declared.unlisted.Unlisted.TheVariants.{Rejected, Unspelled}

-- both types are printed, and alike (docs/NOTATION.md, "Printing")
abbrev pub are_alike : Option (List ℕ) → Option (List ℕ) → Bool
are_alike (Some one) (Some other) = bytes_eq one other
are_alike one other = false

-- The text may be of a type that isn't well-formed, of another type, or of none, as where a default holds other values.
abbrev pub unlisted_by : Option SchemaFault → AsnType → Result AsnType TextFault → Option Unlisted
unlisted_by (Some f) T r = Some (Rejected (why.Schema f))
unlisted_by None T (Err e) = Some Unspelled
unlisted_by None T (Ok U) = if are_alike (printed T) (printed U) then None else Some Unspelled

-- Why a definition of a type has no line, if it has none. This is what is read of its text.
abbrev pub unlisted_in : AsnType → Result AsnType TextFault → Option Unlisted
unlisted_in T r = unlisted_by (first_fault T) T r
