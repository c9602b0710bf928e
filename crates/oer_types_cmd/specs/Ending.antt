-- How `oer types` ends: its status, what stands on its output and its errors, and what it takes of its input.
use Rattle.std.specs.Prelude.{◌≡◌, ◌≤◌, ◌⊎◌, ℕ, List, MatchBool, Option, Ok, Result, Err, ⊤}
use Rattle.std.specs.Io.KnownBytes.{Appends, Keeps}
use Rattle.oer_checker.specs.Check.{most}
use Rattle.oer_cmd.specs.Ending.{MayPrint, Streams}
use Rattle.oer_cmd.specs.Expected.{Expected, refusal, unknown, value}
use Rattle.oer_cmd.specs.Faults.{AppendsFront}
use Rattle.oer_cmd.specs.Taking.{GivesFront, IsGathered}
use Rattle.oer_module_cmd.specs.Input.{MayBeLeft, input_for}
use Rattle.oer_module_options.specs.Asked.{Listing, listing_asked}
use Rattle.oer_module_options.specs.Scan.{Scan, scanned}
use Rattle.oer_module_options.specs.Words.{Text}
use Rattle.oer_module_options.specs.declared.words.Command.TheVariants.{Types}
use Rattle.oer_types_cmd.specs.Answer.{printed_of}
use Rattle.oer_types_cmd.specs.Asking.{asks_for_help, texts_of}
use Rattle.oer_types_cmd.specs.Stops.{Tells, TellsMachine, stop_of}
use Rattle.oer_types_cmd.specs.declared.stop.Stop.{Stop}

-- ---- the end

-- The answer is given, if it is known: the text on the output and nothing on the errors; or nothing on the output, and on the
-- errors the line that tells why, or a front of it, where they fail.
abbrev pub Delivers : Expected Text → ℕ → Streams → Type 0
Delivers unknown status s = ⊤
Delivers (value text) status s = (status ≡ 0) × Appends s.output s.output' text × Keeps s.errors s.errors'
Delivers (refusal r) status s = (status ≡ r.status) × Keeps s.output s.output' × Tells r s.errors s.errors'

-- The output is as it was; or it failed, and grew by a front of the text.
abbrev pub HoldsFront : Expected Text → Streams → Type 0
HoldsFront answer s = Keeps s.output s.output' ⊎ ((text : Text) × MayPrint answer text × AppendsFront s.output s.output' text)

-- The machine failed, and the errors say so.
abbrev pub Breaks : Expected Text → ℕ → Streams → Type 0
Breaks answer status s = (status ≡ 3) × HoldsFront answer s × TellsMachine s.errors s.errors'

abbrev pub EndsIn : Expected Text → ℕ → Streams → Type 0
EndsIn answer status s = Delivers answer status s ⊎ Breaks answer status s

abbrev pub Ends : Expected Text → ℕ → Option (List ℕ) → Option (List ℕ) → Option (List ℕ) → Option (List ℕ) → Type 0
Ends answer status output output' errors errors' =
    EndsIn answer status (record { output = output; output' = output'; errors = errors; errors' = errors' })

-- ---- what is printed, whatever standard input had left

-- The given text is that on standard input, where one of the texts is `-`: all that it had left, where that is known.
abbrev pub IsGiven : Option (List ℕ) → List Text → Text → Type 0
IsGiven told ts given = (xs : List ℕ) × MayBeLeft told xs × (input_for ts xs ≡ Ok given)

abbrev pub Prints : Option (List ℕ) → Listing → List Text → Option (List ℕ) → Option (List ℕ) → Type 0
Prints told l ts old new =
    (given : Text) × (text : Text) × IsGiven told (texts_of l ts) given × (printed_of l ts given ≡ value text) × Appends old new text

-- What a scan of the words behind `types` has printed: this help, where it asks for that, and else what it asks for.
abbrev pub PrintsBy : Text → Option (List ℕ) → Scan → Option (List ℕ) → Option (List ℕ) → Type 0
PrintsBy help told s old new = MatchBool (asks_for_help s.kept)
    (Appends old new help)
    ((l : Listing) × (listing_asked s ≡ Ok l) × Prints told l s.modules old new)

abbrev pub PrintsFor : Text → Option (List ℕ) → List Text → Option (List ℕ) → Option (List ℕ) → Type 0
PrintsFor help told ws old new = PrintsBy help told (scanned Types ws) old new

-- ---- what is taken

-- the status of the program after this answer
abbrev pub status_after : {X : Type 0} → Result X Stop → ℕ
status_after (Ok x) = 0
status_after (Err e) = (stop_of e).status

-- The input gave a front of what it had left: all of it, or 2^64 octets or more, unless the machine failed.
abbrev pub GivesText : ℕ → Option (List ℕ) → Option (List ℕ) → Type 0
GivesText status told told' = GivesFront told told' (λ b n. status ≤ 2 → IsGathered most b n)
