-- The lines of the input, and which of them are messages.
use Rattle.std.specs.Prelude.{◌≡◌, ◌≢◌, ◌==◌, ℕ, List, [], ◌∷◌, ◌++◌, All, Bool, true, false, not, Option, Result, Ok, Err, IfSome, if◌then◌else◌, ⊤}
use Rattle.std.specs.Io.{StopsAt}
use Rattle.std.specs.Io.BufRead.{ends_with_byte, strip_last}
use Rattle.std.specs.Io.KnownBytes.{Consumes, IsAtEnd}
use Rattle.clap.specs.Words.{Text}
use Rattle.oer_lines_cmd.specs.declared.failure.Failure.{Failure}

-- the lines of octets, of which the first begins with this front
abbrev pub lines_from : Text → List ℕ → List Text
lines_from front [] = front ∷ []
lines_from front (x ∷ xs) = if x == 10 then strip_last 13 front ∷ lines_from [] xs else lines_from (front ++ x ∷ []) xs

-- The lines of octets. Each ends at a line feed, which is no part of it, and neither is a carriage return before that. The last one is what
-- stands behind the last line feed, which may be nothing.
abbrev pub lines : List ℕ → List Text
lines xs = lines_from [] xs

-- A line is a message, but for empty ones, and those that begin with `#`.
abbrev pub is_message : Text → Bool
is_message [] = false
is_message (x ∷ xs) = not (x == 35)

-- no octet is a line feed
abbrev pub HasNoFeed : List ℕ → Type 0
HasNoFeed xs = All (λ x. x ≢ 10) xs

-- Known octets lost their first line and its line feed. Where none ends it, no octet is left.
abbrev pub TakesPiece : Option (List ℕ) → Option (List ℕ) → List ℕ → Type 0
TakesPiece old new piece = StopsAt piece 10 × Consumes old new piece × (ends_with_byte 10 piece ≡ false → IfSome old (λ xs. IsAtEnd new))

-- Known octets lost their first line, which is this one. Whether a line feed ended it: if none did, no octet is left.
abbrev pub TakesLine : Option (List ℕ) → Option (List ℕ) → Text → Result Bool Failure → Type 0
TakesLine old new line (Ok true) = (q : List ℕ) × HasNoFeed q × (line ≡ strip_last 13 q) × Consumes old new (q ++ 10 ∷ [])
TakesLine old new line (Ok false) = HasNoFeed line × Consumes old new line × IfSome old (λ xs. IsAtEnd new)
TakesLine old new line (Err failure) = ⊤
