-- An option with a value, taken out of the words of a command line.
use Rattle.std.specs.Prelude.{List, [], ◌∷◌, ◌++◌, Option, Some, None, Result, Ok, Err, codes}
use Rattle.oer_words.specs.Rejected.{line_of}
use Rattle.oer_words.specs.Scan.{Scan, scanned}
use Rattle.oer_words.specs.Words.{Text, words_of}
use Rattle.oer_words.specs.declared.scan.Next.{Next}
use Rattle.oer_words.specs.declared.scan.Next.TheVariants as expects
use Rattle.oer_words.specs.declared.setting.Given.{Given as RawGiven}
use Rattle.oer_words.specs.declared.setting.Setting.{Setting as RawSetting}
use Rattle.oer_words.specs.declared.setting.Setting.TheVariants as raw

pub data Setting : Type 0 where
  missing : Setting
  no_value : Setting
  twice : Setting
  -- the value, and the other words, the program's name first
  once : Text → List Text → Setting

abbrev pub setting_of : RawSetting → Setting
setting_of raw.Missing = missing
setting_of raw.NoValue = no_value
setting_of raw.Twice = twice
setting_of (raw.Once value ws) = once value.now (words_of ws)

abbrev pub by_values : List Text → List Text → Setting
by_values ws [] = missing
by_values ws (v ∷ []) = once v ws
by_values ws (v ∷ w ∷ vs) = twice

abbrev pub by_next : Next → List Text → List Text → Setting
by_next expects.Value ws values = no_value
by_next _ ws values = by_values ws values

-- of these words behind the program's name
abbrev pub setting_in : Text → Scan → Setting
setting_in program s = by_next s.next (program ∷ s.kept) s.values

abbrev pub without_option : Text → List Text → Setting
without_option option [] = missing
without_option option (program ∷ ws) = setting_in program (scanned option ws)

-- the value of an option, and the other words, the program's name first
abbrev pub Given : Type 0
Given = Text × List Text

abbrev pub given_of : RawGiven → Given
given_of g = (g.value.now, words_of g.words)

abbrev pub asked_by : Text → Setting → Result (Option Given) Text
asked_by option missing = Ok None
asked_by option no_value = Err (line_of (option ++ codes " needs a value"))
asked_by option twice = Err (line_of (option ++ codes " is given twice"))
asked_by option (once value ws) = Ok (Some (value, ws))

-- The value of the option, and the words without both; none where it isn't among them; or the line that says why it is rejected.
unfoldable pub option_asked : Text → List Text → Result (Option Given) Text
option_asked option ws = asked_by option (without_option option ws)
