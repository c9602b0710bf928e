-- Laws of the messages that stand right behind one another.
use Rattle.std.specs.Prelude.{◌≡◌, ◌≤◌, ◌<◌, ℕ, ◌+◌, ◌^◌, List, [], ◌∷◌, ◌++◌, length, Bool}
use Rattle.clap.specs.Words.{Text}
use Rattle.oer_units.specs.Octets.{IsOctets}
use Rattle.oer_model.specs.AsnType.{AsnType}
use Rattle.oer_model.specs.AsnValue.{AsnValue}
use Rattle.oer_model.specs.Constraints.{KeepsLimits}
use Rattle.oer_model.specs.Encoding.{Encodes}
use Rattle.oer_model.specs.Fits.{DefaultsFit}
use Rattle.oer_model.specs.Parts.{Step}
use Rattle.oer_cmd.specs.Expected.{Expected, value}
use Rattle.oer_lines_cmd.specs.Stream.{Piece, first_piece, long, message, piece_answer, pieces, rejected}
use Rattle.oer_lines_cmd.specs.declared.task.LineTask.{LineTask}

-- Octets are a message: an encoding of a value, of one octet at least and no more than the limit.
abbrev pub IsMessage : AsnType → ℕ → List ℕ → Type 0
IsMessage T limit b = (v : AsnValue) × Encodes T v b × (1 ≤ length b) × (length b ≤ limit)

-- None stands at the front of octets.
abbrev pub BeginsWithNone : AsnType → ℕ → List ℕ → Type 0
BeginsWithNone T limit xs = (b rest : List ℕ) → xs ≡ b ++ rest → IsMessage T limit b → ⊥

-- The octets are these messages, one right behind the other, and then those that are left, at whose front none stands.
abbrev pub AreMessages : AsnType → ℕ → List ℕ → List (List ℕ) → List ℕ → Type 0
AreMessages T limit xs [] left = (xs ≡ left) × BeginsWithNone T limit left
AreMessages T limit xs (b ∷ bs) left = IsMessage T limit b × ((rest : List ℕ) × (xs ≡ b ++ rest) × AreMessages T limit rest bs left)

-- the messages among what octets are
abbrev pub messages_in : List Piece → List (List ℕ)
messages_in [] = []
messages_in (message b ∷ ps) = b ∷ messages_in ps
messages_in (rejected b ∷ ps) = messages_in ps
messages_in (long b ∷ ps) = messages_in ps

-- how many more answers there are than messages: one, if octets are left
abbrev pub more_answers : List ℕ → ℕ
more_answers [] = 0
more_answers (x ∷ xs) = 1

-- Octets are their messages, and no others; and if some are left, there is one answer more.
abbrev pub MessagesAreOne : Type 0
MessagesAreOne = (T : AsnType) → KeepsLimits T → (limit : ℕ) (xs : List ℕ) → IsOctets xs
    → ((left : List ℕ) × AreMessages T limit xs (messages_in (pieces T limit xs)) left
    × (length (pieces T limit xs) ≡ length (messages_in (pieces T limit xs)) + more_answers left))
    × ((bs : List (List ℕ)) (left : List ℕ) → AreMessages T limit xs bs left → bs ≡ messages_in (pieces T limit xs))

-- What is no message is rejected by the task, too: the run with these octets has no line.
abbrev pub NoneIsRejected : Type 0
NoneIsRejected = (T : AsnType) → KeepsLimits T → DefaultsFit T → (nests : Bool) (task : LineTask) (limit : ℕ) (path : Expected (List Step)) (xs : List ℕ)
    → IsOctets xs → length xs < 2 ^ 64 → 1 ≤ length xs → BeginsWithNone T limit xs
    → (line : Text) → piece_answer nests task T limit path (first_piece T limit xs) ≡ value line → ⊥
