-- The messages of the input that stand right behind one another.
use Rattle.std.specs.Prelude.{ℕ, zero, suc, ◌-◌, List, [], ◌∷◌, length, take, drop, Bool, true, Option, Some, None, if◌then◌else◌}
use Rattle.clap.specs.Words.{Text}
use Rattle.oer_units.specs.Reader.{Outcome, at, got, refused}
use Rattle.oer_units.specs.declared.fault.Why.{Why}
use Rattle.oer_units.specs.declared.fault.Why.TheVariants.{Limit}
use Rattle.oer_model.specs.AsnType.{AsnType}
use Rattle.oer_model.specs.AsnValue.{AsnValue}
use Rattle.oer_model.specs.Parts.{Step}
use Rattle.oer_model.specs.Reading.{read_value}
use Rattle.oer_cmd.specs.Expected.{Expected}
use Rattle.oer_lines_cmd.specs.Tasks.{long_answer, octets_told}
use Rattle.oer_lines_cmd.specs.declared.task.LineTask.{LineTask}
use Rattle.oer_lines_cmd.specs.declared.task.LineTask.TheVariants.{Canon, Check, Part, Show}

-- what stands at the front of octets: a message; octets with which none begins; or those with which none begins within the limit, though
-- a longer one may
pub data Piece : Type 0 where
  message : List ℕ → Piece
  rejected : List ℕ → Piece
  long : List ℕ → Piece

-- the octets before those that are left
abbrev pub front_before : List ℕ → List ℕ → List ℕ
front_before xs rest = take (length xs - length rest) xs

-- A value was read of this front. Where that is empty, the next octet is of no message.
abbrev pub by_front : List ℕ → List ℕ → Piece
by_front xs [] = rejected (take 1 xs)
by_front xs (y ∷ b) = message (y ∷ b)

-- None was read, by this reason, behind this front.
abbrev pub by_reason : Why → List ℕ → Piece
by_reason Limit b = long b
by_reason why b = rejected b

abbrev pub by_outcome : List ℕ → Outcome AsnValue → Piece
by_outcome xs (got v q) = by_front xs (front_before xs q.input)
by_outcome xs (refused why rest) = by_reason why (front_before xs rest)

-- what stands at the front of octets, of which there is one at least
abbrev pub first_piece : AsnType → ℕ → List ℕ → Piece
first_piece T limit xs = by_outcome xs (read_value T (at xs limit))

-- this one, and those of the octets behind it
abbrev pub and_next : List ℕ → (List ℕ → List Piece) → Piece → List Piece
and_next xs next (message b) = message b ∷ next (drop (length b) xs)
and_next xs next (rejected b) = rejected b ∷ []
and_next xs next (long b) = long b ∷ []

-- the first k of them, or all, where they are fewer
abbrev pub first_pieces : AsnType → ℕ → ℕ → List ℕ → List Piece
first_pieces T limit zero xs = []
first_pieces T limit (suc k) [] = []
first_pieces T limit (suc k) (x ∷ xs) = and_next (x ∷ xs) (first_pieces T limit k) (first_piece T limit (x ∷ xs))

-- What octets are: messages of the type, one right behind the other. What is no message is the last, since it has no end.
abbrev pub pieces : AsnType → ℕ → List ℕ → List Piece
pieces T limit xs = first_pieces T limit (length xs) xs

-- whether a run reads all octets before it looks at them
abbrev pub reads_first : Bool → LineTask → Bool
reads_first nests (Show style) = nests
reads_first nests Canon = nests
reads_first nests Check = true
reads_first nests (Part text) = true

-- The answer: that of a run with these octets. Where the limit ends them, it is that of one whose message goes on.
abbrev pub piece_answer : Bool → LineTask → AsnType → ℕ → Expected (List Step) → Piece → Expected Text
piece_answer nests task T limit path (message b) = octets_told nests task T limit path b
piece_answer nests task T limit path (rejected b) = octets_told nests task T limit path b
piece_answer nests task T limit path (long b) =
    if reads_first nests task then long_answer task limit path else octets_told nests task T limit path b
