-- The text of modules on standard input.
use Rattle.std.specs.Prelude.{◌≡◌, ◌≤◌, List, [], ◌∷◌, ◌||◌, map, ℕ, Bool, false, Option, Some, None, Result, Ok, Err, ⊤, if◌then◌else◌}
use Rattle.std.specs.Io.KnownBytes.{Consumes, IsAtEnd}
use Rattle.std.specs.Str.{is_utf8}
use Rattle.oer_module_options.specs.Asked.{is_input}
use Rattle.oer_module_options.specs.Words.{Text}
use Rattle.oer_module_cmd.specs.Errors.{Read, error_of, not_text, status_of}
use Rattle.oer_module_cmd.specs.declared.error.Error.{Error as RawError}

-- These octets may be what the input had left: they are, where that is known.
abbrev pub MayBeLeft : Option (List ℕ) → List ℕ → Type 0
MayBeLeft None xs = ⊤
MayBeLeft (Some ys) xs = ys ≡ xs

-- the status of the program after this answer
abbrev pub status_after : {X : Type 0} → Result X RawError → ℕ
status_after (Ok x) = 0
status_after (Err e) = status_of (error_of e)

-- The input gave a front of what it had left: all of it, unless the machine failed.
abbrev pub GivesAll : ℕ → Option (List ℕ) → Option (List ℕ) → Type 0
GivesAll status old new = ((bs : List ℕ) × Consumes old new bs) × (status ≤ 2 → IsAtEnd new)

-- the text that octets are
abbrev pub text_in : List ℕ → Read Text
text_in xs = if is_utf8 xs then Ok xs else Err not_text

-- whether one of the texts is that on standard input
abbrev pub reads_input : List Text → Bool
reads_input [] = false
reads_input (t ∷ ts) = is_input t || reads_input ts

-- the text on standard input, where it is asked for
abbrev pub input_for : List Text → List ℕ → Read Text
input_for ts xs = if reads_input ts then text_in xs else Ok []

abbrev pub text_or : Text → Text → Text
text_or given t = if is_input t then given else t

-- the texts, with that on standard input in the place of `-`
abbrev pub with_input : Text → List Text → List Text
with_input given ts = map (text_or given) ts
