-- The words of a command line, with `--explain` taken out.
use Rattle.std.specs.Prelude.{List, not, ◌||◌, Option, Some, None, Result, codes, if◌then◌else◌}
use Rattle.oer_words.specs.Flag.{flag_asked}
use Rattle.oer_words.specs.Rejected.{line_of, unless_misused}
use Rattle.oer_words.specs.Words.{Text, asks_for, asks_many, asks_octets, has_flag}

-- the line that says why the flag is rejected beside these words
abbrev pub misuse_in : List Text → Option Text
misuse_in ws =
    if not (asks_octets ws || asks_for (codes "make") ws) then Some (line_of (codes "--explain needs canon, show, check, part or make"))
    else if asks_many ws || has_flag (codes "--stream") ws
    then Some (line_of (codes "--explain takes one message, without --lines, --framed and --stream"))
    else None

-- The words without `--explain`, the program's name first; none where it isn't among them; or the line that says why it is rejected.
abbrev pub explain_asked : List Text → Result (Option (List Text)) Text
explain_asked ws = unless_misused misuse_in (flag_asked (codes "--explain") ws)
