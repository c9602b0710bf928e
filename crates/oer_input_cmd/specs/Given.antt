-- The octets that `--in` gives, and the words without it.
use Rattle.std.specs.Prelude.{◌≡◌, ℕ, List, Bool, true, false, Option, Some, None, Result, Ok, Err, Vec, codes, option_map}
use Rattle.std.specs.Io.KnownBytes.{Keeps}
use Rattle.std.specs.declared.alloc.Global.{Global}
use Rattle.oer_input.specs.Octets.{octets_of}
use Rattle.oer_input.specs.declared.coding.Coding.{Coding}
use Rattle.oer_input.specs.declared.coding.Coding.TheVariants as coding
use Rattle.oer_words.specs.Setting.{without_option}
use Rattle.oer_words.specs.Words.{Text, words_of}
use Rattle.oer_input_cmd.specs.Asked.{Asked, asked_by}
use Rattle.oer_input_cmd.specs.Errors.{Read, Reports, ◌>>=◌, status_of}
use Rattle.oer_input_cmd.specs.Input.{by_fault, items_of}
use Rattle.oer_input_cmd.specs.declared.asked.Program.{Program}
use Rattle.oer_input_cmd.specs.declared.error.Error.{Error}
use Rattle.oer_input_cmd.specs.declared.given.Given.{Given}

-- the octets, where they aren't those of standard input as they are, and the words that stay
abbrev pub Plain : Type 0
Plain = Option (List ℕ) × List Text

abbrev pub octets_seen : Option (Vec ℕ Global) → Option (List ℕ)
octets_seen = option_map items_of

abbrev pub given_of : Given → Plain
given_of g = (octets_seen g.octets, words_of g.words)

-- xs is what the input had left.
abbrev pub octets_for : Coding → List ℕ → Read (Option (List ℕ))
octets_for coding.Raw xs = Ok None
octets_for k xs = by_fault (octets_of k xs) >>= λ os. Ok (Some os)

abbrev pub given_by : List ℕ → Asked → Read Plain
given_by xs (k, ws) = octets_for k xs >>= λ os. Ok (os, ws)

abbrev pub by_asked : List ℕ → Option Asked → Read (Option Plain)
by_asked xs None = Ok None
by_asked xs (Some a) = given_by xs a >>= λ g. Ok (Some g)

-- what `--in` among the words gives, of which the first is the program's name; none where there is no `--in`
abbrev pub given : Program → List Text → List ℕ → Read (Option Plain)
given p ws xs = asked_by p (without_option (codes "--in") ws) >>= by_asked xs

-- whether standard input is read
abbrev pub is_read : Coding → Bool
is_read coding.Raw = false
is_read _ = true

abbrev pub asks_for : Read (Option Asked) → Bool
asks_for (Ok (Some (k, ws))) = is_read k
asks_for _ = false

abbrev pub asks_input : Program → List Text → Bool
asks_input p ws = asks_for (asked_by p (without_option (codes "--in") ws))

-- the status of the program after this answer
abbrev pub status_with : {X : Type 0} → Result X ℕ → ℕ
status_with (Ok x) = 0
status_with (Err status) = status

-- What a function returned is what the plain function gives, and nothing is on the errors; or these tell of an error, and the
-- status is that of it: the one that the plain function gives, unless the machine failed.
abbrev pub Ends : {X Y : Type 0} → (X → Y) → Result X ℕ → Read Y → Option (List ℕ) → Option (List ℕ) → Type 0
Ends view (Ok x) plain old new = (plain ≡ Ok (view x)) × Keeps old new
Ends view (Err status) plain old new = (e : Error) × (status_of e ≡ 2 → plain ≡ Err e) × Reports e status old new
