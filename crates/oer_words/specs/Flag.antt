-- A flag, taken out of the words of a command line.
use Rattle.std.specs.Prelude.{ℕ, zero, suc, List, [], ◌∷◌, ◌++◌, Option, Some, None, Result, Ok, Err, codes, if◌then◌else◌}
use Rattle.std.specs.Str.{bytes_eq}
use Rattle.oer_words.specs.Rejected.{line_of}
use Rattle.oer_words.specs.Words.{Text, times, words_of}
use Rattle.oer_words.specs.declared.flag.Flag.{Flag as RawFlag}
use Rattle.oer_words.specs.declared.flag.Flag.TheVariants as raw

pub data Flag : Type 0 where
  missing : Flag
  twice : Flag
  -- the other words, the program's name first
  once : List Text → Flag

abbrev pub flag_of : RawFlag → Flag
flag_of raw.Missing = missing
flag_of raw.Twice = twice
flag_of (raw.Once ws) = once (words_of ws)

-- the words without the flag, before a word `--`
abbrev pub others : Text → List Text → List Text
others flag [] = []
others flag (w ∷ ws) = if bytes_eq w (codes "--") then w ∷ ws else if bytes_eq w flag then others flag ws else w ∷ others flag ws

abbrev pub by_times : ℕ → List Text → Flag
by_times zero ws = missing
by_times (suc zero) ws = once ws
by_times (suc (suc n)) ws = twice

abbrev pub without_flag : Text → List Text → Flag
without_flag flag [] = missing
without_flag flag (program ∷ ws) = by_times (times flag ws) (program ∷ others flag ws)

abbrev pub asked_by : Text → Flag → Result (Option (List Text)) Text
asked_by flag missing = Ok None
asked_by flag twice = Err (line_of (flag ++ codes " is given twice"))
asked_by flag (once ws) = Ok (Some ws)

-- The words without the flag; none where it isn't among them; or the line that says why it is rejected.
unfoldable pub flag_asked : Text → List Text → Result (Option (List Text)) Text
flag_asked flag ws = asked_by flag (without_flag flag ws)
