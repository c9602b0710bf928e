-- What the steps of an answer write.
use Rattle.std.specs.Prelude.{◌≡◌, ℕ, List, [], ◌∷◌, Option, Result, Ok, Err, String, string_bytes, ⊤}
use Rattle.std.specs.Io.KnownBytes.{Appends, Keeps}
use Rattle.clap.specs.Words.{Text}
use Rattle.std.specs.Global.{Global}
use Rattle.oer_cmd.specs.Ending.{Streams}
use Rattle.oer_cmd.specs.Expected.{Expected, Meets, Refusal, refusal, refusal_of, unknown, value}
use Rattle.oer_cmd.specs.Faults.{AppendsFront}
use Rattle.oer_cmd.specs.declared.fault.Fault.{Fault}
use Rattle.oer_lines_cmd.specs.Answers.{Answered, cut_refusal, rejection, rejection_at}
use Rattle.oer_lines_cmd.specs.declared.failure.Failure.{Failure}
use Rattle.oer_lines_cmd.specs.declared.rejection.Rejection.{Rejection}
use Rattle.oer_lines_cmd.specs.declared.rejection.Rejection.TheVariants.{Cut, Told}
use Rattle.oer_lines_cmd.specs.declared.way.Place.{Place}

-- A writer got the text, or a front of it where the machine failed.
abbrev pub Put : Text → Option (List ℕ) → Option (List ℕ) → Result ⊤ Failure → Type 0
Put text old new (Ok done) = Appends old new text
Put text old new (Err failure) = AppendsFront old new text

-- why a message is rejected
abbrev pub refusal_by : Rejection → Refusal
refusal_by (Told fault) = refusal_of fault
refusal_by (Cut there) = cut_refusal there

-- The output and the errors got the lines of a rejected message, by its status; where the machine failed, the output a front of its line,
-- and the errors nothing.
abbrev pub Rejected : Place → Refusal → Result ℕ Failure → Option (List ℕ) → Option (List ℕ) → Option (List ℕ) → Option (List ℕ) → Type 0
Rejected place r (Ok status) output output' errors errors' = (status ≡ r.status) × Appends output output' (rejection r.text)
    × AppendsFront errors errors' (rejection_at place r.text)
Rejected place r (Err failure) output output' errors errors' = AppendsFront output output' (rejection r.text) × Keeps errors errors'

-- what is expected is known
abbrev pub IsKnown : {A : Type 0} → Expected A → Type 0
IsKnown unknown = ⊥
IsKnown (refusal r) = ⊤
IsKnown (value x) = ⊤

-- The output and the errors got what an answer comes to that is as expected, whatever that is.
abbrev pub Puts : Place → Result (String Global) Fault → Result ℕ Failure → Streams → Type 0
Puts place answer result s =
    (x : Expected Text) → IsKnown x → Meets string_bytes x answer → Answered (record { place = place; answer = x } ∷ []) result s
