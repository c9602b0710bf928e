-- What `--in` asks for.
use Rattle.std.specs.Prelude.{ℕ, List, Bool, true, not, Option, Some, None, Ok, Err, codes, if◌then◌else◌}
use Rattle.std.specs.Str.{bytes_eq}
use Rattle.oer_input.specs.declared.coding.Coding.{Coding}
use Rattle.oer_input.specs.declared.coding.Coding.TheVariants as coding
use Rattle.oer_words.specs.Setting.{Setting, missing, no_value, once, twice}
use Rattle.oer_words.specs.Words.{Text, asks_octets, has_flag, has_option, words_of}
use Rattle.oer_input_cmd.specs.Errors.{Read, ◌>>=◌}
use Rattle.oer_input_cmd.specs.declared.asked.Asked.{Asked as RawAsked}
use Rattle.oer_input_cmd.specs.declared.asked.Program.{Program}
use Rattle.oer_input_cmd.specs.declared.asked.Program.TheVariants as program
use Rattle.oer_input_cmd.specs.declared.error.Error.TheVariants as error

abbrev pub coding_of : Text → Option Coding
coding_of v =
    if bytes_eq v (codes "raw") then Some coding.Raw
    else if bytes_eq v (codes "hex") then Some coding.Hex
    else if bytes_eq v (codes "base64") then Some coding.Base64
    else None

abbrev pub takes_octets : Program → List Text → Bool
takes_octets program.Dump ws = true
takes_octets program.Oer ws = asks_octets ws

abbrev pub with_coding : Program → List Text → Option Coding → Read Coding
with_coding p ws None = Err error.Coding
with_coding p ws (Some k) =
    if not (takes_octets p ws) then Err error.Command
    else if has_option (codes "--hex") ws then Err error.Hex
    else if has_flag (codes "--lines") ws then Err error.Lines
    else if has_option (codes "--framed") ws then Err error.Framed
    else Ok k

-- how the octets are written, by this value of `--in` beside these words
abbrev pub coding_in : Program → List Text → Text → Read Coding
coding_in p ws v = with_coding p ws (coding_of v)

-- how the octets are written, and the words that stay, the program's name first
abbrev pub Asked : Type 0
Asked = Coding × List Text

abbrev pub asked_of : RawAsked → Asked
asked_of a = (a.coding, words_of a.words)

-- what is asked for, by what became of `--in`
abbrev pub asked_by : Program → Setting → Read (Option Asked)
asked_by p missing = Ok None
asked_by p no_value = Err error.NoValue
asked_by p twice = Err error.Twice
asked_by p (once v ws) = coding_in p ws v >>= λ k. Ok (Some (k, ws))
