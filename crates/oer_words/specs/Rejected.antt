-- What is said where the words of a command line are rejected.
use Rattle.std.specs.Prelude.{◌≡◌, ◌≤◌, ◌⊎◌, ℕ, List, [], ◌∷◌, ◌++◌, length, take, Option, Some, None, Result, Ok, Err, codes}
use Rattle.std.specs.Borrow.{Bor}
use Rattle.std.specs.Io.KnownBytes.{Appends, Keeps}
use Rattle.oer_words.specs.Words.{Text}

-- the line on the errors, with its line feed
abbrev pub line_of : Text → Text
line_of why = codes "oer: " ++ why ++ 10 ∷ []

-- what a function answers, or the line that it has in place of that
abbrev pub with_line : {A : Type 0} → Result A (Bor Text) → Result A Text
with_line (Ok x) = Ok x
with_line (Err line) = Err line.now

-- known bytes grew by a front of the text, which may be all of it or nothing
abbrev pub AppendsFront : Option (List ℕ) → Option (List ℕ) → Text → Type 0
AppendsFront old new text = (n : ℕ) × (n ≤ length text) × Appends old new (take n text)

-- Memory ran out, and the errors say so.
abbrev pub IsLost : ℕ → Option (List ℕ) → Option (List ℕ) → Type 0
IsLost status old new = (status ≡ 3) × AppendsFront old new (line_of (codes "out of memory"))

-- The errors have the line; or memory ran out.
abbrev pub IsRejected : Text → ℕ → Option (List ℕ) → Option (List ℕ) → Type 0
IsRejected line status old new = ((status ≡ 2) × AppendsFront old new line) ⊎ IsLost status old new

-- What a function returned is what the plain function gives, and nothing is on the errors; or these have the line that says why the words are
-- rejected, with status 2; or memory ran out.
abbrev pub EndsAsked : {X Y : Type 0} → (X → Y) → Result X ℕ → Result Y Text → Option (List ℕ) → Option (List ℕ) → Type 0
EndsAsked view (Ok x) plain old new = (plain ≡ Ok (view x)) × Keeps old new
EndsAsked view (Err status) plain old new =
    ((line : Text) × (plain ≡ Err line) × (status ≡ 2) × AppendsFront old new line) ⊎ IsLost status old new

abbrev pub or_line : {A : Type 0} → Option Text → A → Result (Option A) Text
or_line None x = Ok (Some x)
or_line (Some line) x = Err line

-- What was asked for, unless there is a line that says why it is rejected.
abbrev pub unless_misused : {A : Type 0} → (A → Option Text) → Result (Option A) Text → Result (Option A) Text
unless_misused misuse (Ok None) = Ok None
unless_misused misuse (Ok (Some x)) = or_line (misuse x) x
unless_misused misuse (Err line) = Err line
