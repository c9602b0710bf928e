-- The words that ask for many messages.
use Rattle.oer_lines_cmd.specs.declared.way.Way.{Way}
use Rattle.oer_lines_cmd.specs.declared.way.Way.TheVariants as way
use Rattle.oer_lines_cmd.specs.declared.way.Word.{Word}
use Rattle.oer_lines_cmd.specs.declared.way.Word.TheVariants.{Framed, Lines, Stream}

-- the word that asks for messages that stand there in this way
abbrev pub word_of : Way → Word
word_of way.Lines = Lines
word_of (way.Framed width) = Framed
word_of way.Stream = Stream
