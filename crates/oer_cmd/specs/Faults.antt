-- What refusals of the crates below come to, the status of each, and the line that tells of it.
use Rattle.std.specs.Prelude.{◌≡◌, ◌≢◌, ◌≤◌, ◌⊎◌, ℕ, List, [], ◌∷◌, ◌++◌, length, take, codes, Option, Result, Ok, Err, ⊤}
use Rattle.std.specs.Fmt.{decimal}
use Rattle.std.specs.Io.KnownBytes.{Appends, Keeps}
use Rattle.clap.specs.Words.{Text}
use Rattle.oer_units.specs.Faults.{why_name}
use Rattle.oer_units.specs.declared.fault.ReadFault.{ReadFault}
use Rattle.oer_units.specs.declared.fault.Why.TheVariants as why
use Rattle.oer_value_notation.specs.declared.fault.TextFault.{TextFault}
use Rattle.oer_value_notation.specs.declared.fault.TextWhy.TheVariants as text
use Rattle.oer_writer.specs.declared.fault.WriteFault.TheVariants as write
use Rattle.oer_decoder.specs.declared.fault.RewriteFault.{RewriteFault}
use Rattle.oer_decoder.specs.declared.fault.RewriteFault.TheVariants as rewrite
use Rattle.oer_value_notation.specs.Faults.{text_why_name}
use Rattle.oer_json.specs.Faults.{json_fault_name}
use Rattle.oer_cmd.specs.declared.fault.Fault.{Fault}
use Rattle.oer_cmd.specs.declared.fault.Fault.TheVariants.{Read, Nesting, Follows, NotCanonical, Longer, NoSuchStep, Absent, OneType, NoName, NoTypes, NoSource, «Type», Unnamed, Hex, Path, NotJson, Json, Input, Output, Memory}

-- the notation was refused
pub record IsOfText (e : TextFault) (fault : Fault) : Type 0 where
  pub memory : e.why ≡ text.Memory → fault ≡ Memory
  pub other : e.why ≢ text.Memory → fault ≡ «Type» e

-- the reader refused its octets, or its input failed
pub record IsOfRead (e : ReadFault) (fault : Fault) : Type 0 where
  pub input : e.why ≡ why.Device → fault ≡ Input
  pub memory : e.why ≡ why.Memory → fault ≡ Memory
  pub other : e.why ≢ why.Device → e.why ≢ why.Memory → fault ≡ Read e
  pub none_follows : (n : ℕ) → fault ≢ Follows n

-- Octets were not rewritten. They go to memory, so a sink that fails has no more of it.
abbrev pub IsOfRewrite : RewriteFault → Fault → Type 0
IsOfRewrite (rewrite.Read e) fault = IsOfRead e fault
IsOfRewrite (rewrite.Write (write.Device n)) fault = fault ≡ Memory
IsOfRewrite (rewrite.Write write.TooLong) fault = fault ≡ Output

-- the status of the program: 1 where the octets are refused, 2 where the words are, 3 where the machine fails
abbrev pub status_of : Fault → ℕ
status_of (Read e) = 1
status_of (Nesting n) = 1
status_of (Follows n) = 1
status_of NotCanonical = 1
status_of (Longer n) = 1
status_of NoSuchStep = 1
status_of Absent = 1
status_of OneType = 2
status_of NoName = 2
status_of NoTypes = 2
status_of NoSource = 2
status_of («Type» e) = 2
status_of (Unnamed name) = 2
status_of Hex = 2
status_of Path = 2
status_of NotJson = 2
status_of (Json e) = 2
status_of Input = 3
status_of Output = 3
status_of Memory = 3

-- the text of a fault, as it stands in its line
abbrev pub text_of : Fault → Text
text_of (Read e) = why_name e.why ++ codes " at " ++ decimal e.taken
text_of (Nesting n) = codes "Nesting at " ++ decimal n
text_of (Follows n) = codes "octets follow the value at " ++ decimal n
text_of NotCanonical = codes "not canonical"
text_of (Longer n) = codes "input longer than " ++ decimal n
text_of NoSuchStep = codes "NoSuchStep"
text_of Absent = codes "Absent"
text_of OneType = codes "one of --type and --types"
text_of NoName = codes "--types needs --name"
text_of NoTypes = codes "--name needs --types"
text_of NoSource = codes "--types=- needs --hex or --json"
text_of («Type» e) = codes "type: " ++ text_why_name e.why ++ codes " at " ++ decimal e.at
text_of (Unnamed name) = codes "no type " ++ name.now
text_of Hex = codes "hex refused"
text_of Path = codes "path refused"
text_of NotJson = codes "json: not JSON"
text_of (Json e) = codes "json: " ++ json_fault_name e
text_of Input = codes "input failed"
text_of Output = codes "output failed"
text_of Memory = codes "out of memory"

-- the line on the standard error, with its line feed
abbrev pub error_line : Fault → Text
error_line fault = codes "oer: " ++ text_of fault ++ 10 ∷ []

-- the line that tells of a fault by this status: its own, or where memory for that was refused, the line of `Memory`
abbrev pub IsLineFor : Fault → ℕ → Text → Type 0
IsLineFor fault status line = ((status ≡ status_of fault) × (line ≡ error_line fault)) ⊎ ((status ≡ 3) × (line ≡ error_line Memory))

-- known bytes grew by a front of the text, which may be all of it or nothing
abbrev pub AppendsFront : Option (List ℕ) → Option (List ℕ) → Text → Type 0
AppendsFront old new text = (n : ℕ) × (n ≤ length text) × Appends old new (take n text)

-- A writer got a front of the line of the fault.
abbrev pub Reports : Fault → ℕ → Option (List ℕ) → Option (List ℕ) → Type 0
Reports fault status old new = (line : Text) × IsLineFor fault status line × AppendsFront old new line

-- A writer got the line and a line feed; where it failed, a front of them; and nothing where memory was refused.
abbrev pub Printed : Text → Option (List ℕ) → Option (List ℕ) → Result ⊤ Fault → Type 0
Printed line old new (Ok done) = Appends old new (line ++ 10 ∷ [])
Printed line old new (Err Output) = AppendsFront old new (line ++ 10 ∷ [])
Printed line old new (Err Memory) = Keeps old new
Printed line old new (Err fault) = ⊥
