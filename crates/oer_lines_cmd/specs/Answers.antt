-- The answers to messages, and what stands on the output and the errors after them.
use Rattle.std.specs.Prelude.{◌≡◌, ◌≤◌, ℕ, ◌+◌, max, List, [], ◌∷◌, ◌++◌, length, take, leb, Bool, Option, Result, Ok, Err, codes, if◌then◌else◌}
use Rattle.std.specs.Fmt.{decimal}
use Rattle.std.specs.Io.KnownBytes.{Appends, Keeps}
use Rattle.clap.specs.Words.{Text}
use Rattle.oer_units.specs.Width.{octets_of_width}
use Rattle.oer_model.specs.AsnType.{AsnType}
use Rattle.oer_model.specs.Parts.{Step}
use Rattle.oer_cmd.specs.Ending.{Streams}
use Rattle.oer_cmd.specs.Expected.{Expected, Refusal, refusal, unknown, value}
use Rattle.oer_cmd.specs.Faults.{AppendsFront}
use Rattle.oer_lines_cmd.specs.Frames.{Frame, cut, frames, whole}
use Rattle.oer_lines_cmd.specs.Lines.{is_message, lines}
use Rattle.oer_lines_cmd.specs.Stream.{Piece, piece_answer, pieces}
use Rattle.oer_lines_cmd.specs.Tasks.{answer_told, long_answer, octets_told}
use Rattle.oer_lines_cmd.specs.declared.failure.Failure.{Failure}
use Rattle.oer_lines_cmd.specs.declared.frames.Taken.{Taken}
use Rattle.oer_lines_cmd.specs.declared.frames.Taken.TheVariants.{Cut, End, Long}
use Rattle.oer_lines_cmd.specs.declared.frames.Taken.TheVariants as taken
use Rattle.oer_lines_cmd.specs.declared.task.LineTask.{LineTask}
use Rattle.oer_lines_cmd.specs.declared.way.Place.{Place}
use Rattle.oer_lines_cmd.specs.declared.way.Place.TheVariants.{Line, Message}
use Rattle.oer_lines_cmd.specs.declared.way.Way.{Way}
use Rattle.oer_lines_cmd.specs.declared.way.Way.TheVariants.{Framed, Lines, Stream}

-- where a message stands, as the errors say it
abbrev pub place_text : Place → Text
place_text (Line n) = codes "line " ++ decimal n
place_text (Message n) = codes "message " ++ decimal n

-- an answer, and where its message stands
pub record Numbered : Type 0 where
  pub place : Place
  pub answer : Expected Text

-- the answers to what stands one after the other, the first of this number. to: those to one of these
abbrev pub answers_from : {X : Type 0} → (ℕ → X → List Numbered) → ℕ → List X → List Numbered
answers_from to n [] = []
answers_from to n (x ∷ xs) = to n x ++ answers_from to (n + 1) xs

-- the answer to the message on the line of this number, if one is there
abbrev pub to_line : (Text → Expected Text) → ℕ → Text → List Numbered
to_line ask n line = if is_message line then record { place = Line n; answer = ask line } ∷ [] else []

-- the refusal of a message that is cut after so many octets
abbrev pub cut_refusal : ℕ → Refusal
cut_refusal there = record { status = 1; text = codes "Cut at " ++ decimal there }

-- the answer to a message of octets. long: that to one longer than the limit
abbrev pub octets_within : (List ℕ → Expected Text) → ℕ → Expected Text → List ℕ → Expected Text
octets_within ask limit long b = if leb (length b) limit then ask b else long

abbrev pub frame_answer : (List ℕ → Expected Text) → ℕ → Expected Text → Frame → Expected Text
frame_answer ask limit long (whole b) = octets_within ask limit long b
frame_answer ask limit long (cut there) = refusal (cut_refusal there)

-- the answer to the message of the frame of this number
abbrev pub to_frame : (List ℕ → Expected Text) → ℕ → Expected Text → ℕ → Frame → List Numbered
to_frame ask limit long n frame = record { place = Message n; answer = frame_answer ask limit long frame } ∷ []

-- the answers to what was taken of the input, of which these octets are the message if it is whole
abbrev pub to_taken : (List ℕ → Expected Text) → Expected Text → ℕ → Taken → List ℕ → List Numbered
to_taken ask long n End b = []
to_taken ask long n taken.Whole b = record { place = Message n; answer = ask b } ∷ []
to_taken ask long n Long b = record { place = Message n; answer = long } ∷ []
to_taken ask long n (Cut there) b = record { place = Message n; answer = refusal (cut_refusal there) } ∷ []

-- the answers to the messages that octets are, each on a line
abbrev pub line_answers : Bool → LineTask → AsnType → ℕ → Expected (List Step) → List ℕ → List Numbered
line_answers nests task T limit path octets = answers_from (to_line (answer_told nests task T limit path)) 1 (lines octets)

-- the same, each behind its length of n octets
abbrev pub framed_answers : ℕ → Bool → LineTask → AsnType → ℕ → Expected (List Step) → List ℕ → List Numbered
framed_answers n nests task T limit path octets =
    answers_from (to_frame (octets_told nests task T limit path) limit (long_answer task limit path)) 1 (frames n octets)

-- the answer to the message of this number
abbrev pub to_piece : (Piece → Expected Text) → ℕ → Piece → List Numbered
to_piece ask n p = record { place = Message n; answer = ask p } ∷ []

-- the same, one right behind the other
abbrev pub stream_answers : Bool → LineTask → AsnType → ℕ → Expected (List Step) → List ℕ → List Numbered
stream_answers nests task T limit path octets = answers_from (to_piece (piece_answer nests task T limit path)) 1 (pieces T limit octets)

-- the same, by the way in which they stand there
abbrev pub answers : Way → Bool → LineTask → AsnType → ℕ → Expected (List Step) → List ℕ → List Numbered
answers Lines nests task T limit path octets = line_answers nests task T limit path octets
answers (Framed width) nests task T limit path octets = framed_answers (octets_of_width width) nests task T limit path octets
answers Stream nests task T limit path octets = stream_answers nests task T limit path octets

-- the line of a rejected message on the output
abbrev pub rejected_text : Text → Text
rejected_text text = codes "! " ++ text

abbrev pub rejection : Text → Text
rejection text = rejected_text text ++ 10 ∷ []

-- and that on the errors
abbrev pub rejection_at : Place → Text → Text
rejection_at place text = codes "oer: " ++ place_text place ++ codes ": " ++ text ++ 10 ∷ []

-- the line of an answer on the output
abbrev pub output_line : Expected Text → Text
output_line unknown = []
output_line (value line) = line ++ 10 ∷ []
output_line (refusal r) = rejection r.text

-- all of them
abbrev pub output_of : List Numbered → Text
output_of [] = []
output_of (a ∷ xs) = output_line a.answer ++ output_of xs

-- the line of an answer on the errors, if it is a refusal
abbrev pub error_line_at : Place → Expected Text → List Text
error_line_at place unknown = []
error_line_at place (value line) = []
error_line_at place (refusal r) = rejection_at place r.text ∷ []

abbrev pub error_lines : List Numbered → List Text
error_lines [] = []
error_lines (a ∷ xs) = error_line_at a.place a.answer ++ error_lines xs

-- the status of an answer, and the worst of them
abbrev pub status_of_answer : Expected Text → ℕ
status_of_answer unknown = 0
status_of_answer (value line) = 0
status_of_answer (refusal r) = r.status

abbrev pub worst : List Numbered → ℕ
worst [] = 0
worst (a ∷ xs) = max (status_of_answer a.answer) (worst xs)

-- a front of each line, which may be all of it or nothing, one after another
abbrev pub AreFronts : List Text → Text → Type 0
AreFronts [] text = text ≡ []
AreFronts (line ∷ ls) text = (n : ℕ) × (rest : Text) × (n ≤ length line) × (text ≡ take n line ++ rest) × AreFronts ls rest

-- known bytes grew by a front of each line: of those that a writer took no more of
abbrev pub AppendsFronts : Option (List ℕ) → Option (List ℕ) → List Text → Type 0
AppendsFronts old new ls = (text : Text) × AreFronts ls text × Appends old new text

-- The status is the worst, the output got the line of each answer, and the errors those of the refusals; where the machine failed, the
-- output got a front of that, and the errors nothing.
abbrev pub Answered : List Numbered → Result ℕ Failure → Streams → Type 0
Answered xs (Ok status) s =
    (status ≡ worst xs) × Appends s.output s.output' (output_of xs) × AppendsFronts s.errors s.errors' (error_lines xs)
Answered xs (Err failure) s = AppendsFront s.output s.output' (output_of xs) × Keeps s.errors s.errors'

-- The same of the answers to all messages, where those before the failure are told of on the errors.
abbrev pub AnsweredAll : List Numbered → Result ℕ Failure → Streams → Type 0
AnsweredAll xs (Ok status) s = Answered xs (Ok status) s
AnsweredAll xs (Err failure) s = (done : List Numbered) × (left : List Numbered) × (xs ≡ done ++ left)
    × AppendsFront s.output s.output' (output_of xs) × AppendsFronts s.errors s.errors' (error_lines done)
