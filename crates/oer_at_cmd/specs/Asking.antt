-- What `--at` asks for.
use Rattle.std.specs.Prelude.{List, Option, Some, None, Result, Ok, Err, codes, if◌then◌else◌}
use Rattle.clap.specs.Words.{Text}
use Rattle.oer_options.specs.Words.{behind}
use Rattle.oer_options.specs.declared.options.Task.{Task}
use Rattle.oer_options.specs.declared.options.Task.TheVariants.{Part}
use Rattle.oer_words.specs.Rejected.{line_of, unless_misused}
use Rattle.oer_words.specs.Setting.{option_asked}
use Rattle.oer_words.specs.Words.{asks_many, words_of}
use Rattle.oer_at_cmd.specs.declared.asked.Asked.{Asked as RawAsked}
use Rattle.oer_at_cmd.specs.declared.misuse.Misuse.{Misuse}
use Rattle.oer_at_cmd.specs.declared.misuse.Misuse.TheVariants as misuse

-- the text of the names, and the words that stay, the program's name first
abbrev pub Asked : Type 0
Asked = Text × List Text

abbrev pub asked_of : RawAsked → Asked
asked_of a = (a.names.now, words_of a.words)

-- the line that says why `--at` is rejected beside these words
abbrev pub misuse_in : Asked → Option Text
misuse_in (names, ws) = if asks_many ws then Some (line_of (codes "--at takes one message, without --lines and --framed")) else None

-- What `--at` asks for, and the words without it and its value; none where it isn't among them; or the line that says why it is rejected.
abbrev pub at_asked : List Text → Result (Option Asked) Text
at_asked ws = unless_misused misuse_in (option_asked (codes "--at") ws)

-- the text of `--hex`; the task has to be `part` without `--path`
abbrev pub hex_of : Task → Result (Option Text) Misuse
hex_of (Part hex None) = Ok (behind hex)
hex_of (Part hex (Some path)) = Err misuse.Path
hex_of task = Err misuse.Subcommand
