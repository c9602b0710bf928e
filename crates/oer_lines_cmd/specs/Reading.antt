-- How the messages that stand right behind one another are taken of the input.
use Rattle.std.specs.Prelude.{◌≡◌, ◌≤◌, ℕ, List, [], ◌++◌, length, take, drop, Bool, false, Option, Some, None, Result, Ok, Err, ⊤}
use Rattle.std.specs.Io.KnownBytes.{Consumes, IsAtEnd, prepend_known}
use Rattle.oer_units.specs.declared.fault.ReadFault.{ReadFault}
use Rattle.oer_model.specs.AsnType.{AsnType}
use Rattle.oer_model.specs.AsnValue.{AsnValue}
use Rattle.oer_model.specs.Reading.{read_value}
use Rattle.oer_decoder.specs.Front.{ReadsAndCounts}
use Rattle.oer_lines_cmd.specs.Stream.{Piece, first_piece, long, message, rejected}
use Rattle.oer_lines_cmd.specs.declared.ahead.Ahead.{Ahead}
use Rattle.oer_lines_cmd.specs.declared.failure.Failure.{Failure}
use Rattle.oer_lines_cmd.specs.declared.pieces.Piece.{Piece as RawPiece}
use Rattle.oer_lines_cmd.specs.declared.pieces.Piece.TheVariants as raw

-- the octets that were read, and that no message took
abbrev pub ahead_of : Ahead → List ℕ
ahead_of a = drop a.at a.octets.items

-- Some octets more were read, unless the input has none left.
abbrev pub ReadsMore : Option (List ℕ) → Option (List ℕ) → List ℕ → List ℕ → Bool → Type 0
ReadsMore left left' ahead ahead' more =
    ((t : List ℕ) × Consumes left left' t × (ahead' ≡ ahead ++ t)) × (more ≡ false → (ahead' ≡ ahead) × IsAtEnd left')

-- how many octets a piece takes
abbrev pub count_of : RawPiece → ℕ
count_of (raw.Message n) = n
count_of (raw.Rejected n) = n
count_of (raw.Long n) = n

-- the piece that stands at the front of octets
abbrev pub piece_of : List ℕ → RawPiece → Piece
piece_of xs (raw.Message n) = message (take n xs)
piece_of xs (raw.Rejected n) = rejected (take n xs)
piece_of xs (raw.Long n) = long (take n xs)

-- A call reads a value at the front of a source, under a limit, and answers how many octets that has.
abbrev pub ReadsSize : AsnType → ℕ → Option (List ℕ) → ℕ → Result ℕ ReadFault → Option (List ℕ) → ℕ → Type 0
ReadsSize T limit had failed (Ok m) had' failed' = (v : AsnValue) × ReadsAndCounts (read_value T) limit had failed (Ok (v, m)) had' failed'
ReadsSize T limit had failed (Err e) had' failed' = ReadsAndCounts {A = AsnValue} (read_value T) limit had failed (Err e) had' failed'

-- What was found is the first piece of xs, and within so many octets.
abbrev pub FindsPiece : AsnType → ℕ → List ℕ → ℕ → Result (Option RawPiece) Failure → Type 0
FindsPiece T limit xs there (Ok (Some p)) = (count_of p ≤ there) × (piece_of xs p ≡ first_piece T limit xs)
FindsPiece T limit xs there (Ok None) = ⊤
FindsPiece T limit xs there (Err failure) = ⊤

-- It stands at the front of octets, behind which there are more.
pub record IsFirst (T : AsnType) (limit : ℕ) (octets more : List ℕ) (p : RawPiece) : Type 0 where
  pub some : 1 ≤ length octets
  pub within : count_of p ≤ length octets
  pub first : piece_of octets p ≡ first_piece T limit (octets ++ more)

abbrev pub FindsAhead : AsnType → ℕ → List ℕ → List ℕ → Result (Option RawPiece) Failure → Type 0
FindsAhead T limit octets more (Ok (Some p)) = IsFirst T limit octets more p
FindsAhead T limit octets more (Ok None) = ⊤
FindsAhead T limit octets more (Err failure) = ⊤

-- The same of octets behind which there are no more: nothing is found only where there are none.
abbrev pub FindsLast : AsnType → ℕ → List ℕ → Result (Option RawPiece) Failure → Type 0
FindsLast T limit octets (Ok (Some p)) = IsFirst T limit octets [] p
FindsLast T limit octets (Ok None) = octets ≡ []
FindsLast T limit octets (Err failure) = ⊤

-- what the input has left, if it is known, else nothing
abbrev pub known : Option (List ℕ) → List ℕ
known None = []
known (Some xs) = xs

-- The octets that were ahead, and those that the input had left, are those that are now; and this is what stands at their front. told: the
-- octets before; left: what the input has left.
abbrev pub TakesPiece : AsnType → ℕ → Option (List ℕ) → List ℕ → Option (List ℕ) → Result (Option RawPiece) Failure → Type 0
TakesPiece T limit told ahead left (Ok (Some p)) = Consumes told (prepend_known ahead left) [] × IsFirst T limit ahead (known left) p
TakesPiece T limit told ahead left (Ok None) = Consumes told (prepend_known ahead left) [] × (ahead ≡ []) × IsAtEnd left
TakesPiece T limit told ahead left (Err failure) = ⊤
