-- Why nothing is printed, the status then, and what is told.
use Rattle.std.specs.Prelude.{ℕ, List, Option, codes}
use Rattle.oer_cmd.specs.Ending.{IsMachineLine, refusal_line}
use Rattle.oer_cmd.specs.Expected.{Refusal, refusal_of}
use Rattle.oer_cmd.specs.Faults.{AppendsFront}
use Rattle.oer_module_cmd.specs.Errors.{Error, error_of, status_of, text_of}
use Rattle.oer_module_options.specs.Words.{Text}
use Rattle.oer_types_cmd.specs.declared.stop.Stop.{Stop}
use Rattle.oer_types_cmd.specs.declared.stop.Stop.TheVariants as raw

-- The words are at fault, or the modules, or the machine;
abbrev pub by_error : Error → Refusal
by_error e = record { status = status_of e; text = text_of e }

-- or a default has no text in the notation;
abbrev pub no_notation : Refusal
no_notation = record { status = 2; text = codes "type: NoNotation" }

-- or the definitions are at fault.
abbrev pub stop_of : Stop → Refusal
stop_of (raw.Modules e) = by_error (error_of e)
stop_of (raw.Types fault) = refusal_of fault
stop_of raw.NoNotation = no_notation

-- A writer got a front of the line that tells why,
abbrev pub Tells : Refusal → Option (List ℕ) → Option (List ℕ) → Type 0
Tells r old new = AppendsFront old new (refusal_line r.text)

-- or of the line of a machine that fails.
abbrev pub TellsMachine : Option (List ℕ) → Option (List ℕ) → Type 0
TellsMachine old new = (line : Text) × IsMachineLine line × AppendsFront old new line
