-- The words of a command line, with `--canonical` taken out.
use Rattle.std.specs.Prelude.{List, not, Option, Some, None, Result, codes, if◌then◌else◌}
use Rattle.oer_words.specs.Flag.{flag_asked}
use Rattle.oer_words.specs.Rejected.{line_of, unless_misused}
use Rattle.oer_words.specs.Words.{Text, asks_for, asks_many}

-- the line that says why the flag is rejected beside these words
abbrev pub misuse_in : List Text → Option Text
misuse_in ws =
    if not (asks_for (codes "check") ws) then Some (line_of (codes "--canonical needs check"))
    else if asks_many ws then Some (line_of (codes "--canonical takes one message, without --lines and --framed"))
    else None

-- The words without `--canonical`, the program's name first; none where it isn't among them; or the line that says why it is rejected.
abbrev pub canonical_asked : List Text → Result (Option (List Text)) Text
canonical_asked ws = unless_misused misuse_in (flag_asked (codes "--canonical") ws)
