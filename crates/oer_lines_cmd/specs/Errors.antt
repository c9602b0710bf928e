-- What is said where the subcommand doesn't take many messages.
use Rattle.std.specs.Prelude.{◌++◌, codes}
use Rattle.clap.specs.Words.{Text}
use Rattle.oer_words.specs.Rejected.{line_of}
use Rattle.oer_lines_cmd.specs.declared.misuse.Misuse.{Misuse}
use Rattle.oer_lines_cmd.specs.declared.misuse.Misuse.TheVariants.{Hex, Subcommand}
use Rattle.oer_lines_cmd.specs.declared.way.Word.{Word}
use Rattle.oer_lines_cmd.specs.declared.way.Word.TheVariants as word

abbrev pub word_text : Word → Text
word_text word.Lines = codes "--lines"
word_text word.Framed = codes "--framed"
word_text word.Stream = codes "--stream"

abbrev pub misuse_text : Misuse → Text
misuse_text (Subcommand w) = word_text w ++ codes " needs canon, show, check or part"
misuse_text (Hex w) = word_text w ++ codes " reads standard input, not --hex"

abbrev pub misuse_line : Misuse → Text
misuse_line m = line_of (misuse_text m)
