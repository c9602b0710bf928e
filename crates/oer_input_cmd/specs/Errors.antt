-- Why no octets are taken, the status of the program then, and the line that tells of it.
use Rattle.std.specs.Prelude.{◌≡◌, ◌⊎◌, ℕ, List, [], ◌∷◌, ◌++◌, Option, codes, Result, Ok, Err}
use Rattle.oer_input.specs.Faults.{text_of as fault_text}
use Rattle.oer_input.specs.declared.fault.Fault.{Fault}
use Rattle.oer_input.specs.declared.fault.Fault.TheVariants as fault
use Rattle.oer_words.specs.Rejected.{AppendsFront}
use Rattle.oer_input_cmd.specs.declared.error.Error.{Error}
use Rattle.oer_input_cmd.specs.declared.error.Error.TheVariants.{NoValue, Twice, Coding, Command, Hex, Lines, Framed, Text, Input, Memory}

abbrev pub error_by : Fault → Error
error_by fault.Memory = Memory
error_by f = Text f

-- 2 where the words or the text are at fault, 3 where the machine fails
abbrev pub status_of : Error → ℕ
status_of Input = 3
status_of Memory = 3
status_of _ = 2

abbrev pub Read : Type 0 → Type 0
Read A = Result A Error

infixl 10 ◌>>=◌
abbrev pub ◌>>=◌ : {A B : Type 0} → Read A → (A → Read B) → Read B
(Ok x) >>= f = f x
(Err e) >>= f = Err e

-- What a function returned, seen by view, is what the plain function gives, unless the machine failed.
abbrev pub Gives : {X Y : Type 0} → (X → Y) → Result X Error → Read Y → Type 0
Gives view (Ok x) plain = plain ≡ Ok (view x)
Gives view (Err e) plain = status_of e ≡ 2 → plain ≡ Err e

-- what is said of an error
abbrev pub text_of : Error → List ℕ
text_of NoValue = codes "--in needs a value"
text_of Twice = codes "--in is given twice"
text_of Coding = codes "--in takes hex, raw or base64"
text_of Command = codes "--in needs canon, show, check or part"
text_of Hex = codes "--in reads standard input, not --hex"
text_of Lines = codes "one of --in and --lines"
text_of Framed = codes "one of --in and --framed"
text_of (Text f) = codes "input: " ++ fault_text f
text_of Input = codes "input failed"
text_of Memory = codes "out of memory"

-- the line on standard error, with its line feed
abbrev pub line_of : Error → List ℕ
line_of e = codes "oer: " ++ text_of e ++ 10 ∷ []

-- the line that tells of an error by this status: its own, or where memory for that was refused, the line of that
abbrev pub IsLineFor : Error → ℕ → List ℕ → Type 0
IsLineFor e status line = ((status ≡ status_of e) × (line ≡ line_of e)) ⊎ ((status ≡ 3) × (line ≡ line_of Memory))

-- A writer got a front of the line of the error.
abbrev pub Reports : Error → ℕ → Option (List ℕ) → Option (List ℕ) → Type 0
Reports e status old new = (line : List ℕ) × IsLineFor e status line × AppendsFront old new line
