-- The words of a command line, with `--lines` or `--stream` taken out.
use Rattle.std.specs.Prelude.{List, not, Option, Some, None, Result, codes, if◌then◌else◌}
use Rattle.clap.specs.Words.{Text}
use Rattle.oer_words.specs.Flag.{flag_asked}
use Rattle.oer_words.specs.Rejected.{line_of, unless_misused}
use Rattle.oer_words.specs.Words.{asks_many, asks_octets}
use Rattle.oer_lines_cmd.specs.Errors.{misuse_line}
use Rattle.oer_lines_cmd.specs.declared.misuse.Misuse.TheVariants.{Subcommand}
use Rattle.oer_lines_cmd.specs.declared.way.Word.TheVariants.{Lines, Stream}

-- the line that says why `--lines` is rejected beside these words
abbrev pub lines_misuse : List Text → Option Text
lines_misuse ws = if asks_octets ws then None else Some (misuse_line (Subcommand Lines))

-- The words without `--lines`, the program's name first; none where it isn't among them; or the line that says why it is rejected.
abbrev pub lines_asked : List Text → Result (Option (List Text)) Text
lines_asked ws = unless_misused lines_misuse (flag_asked (codes "--lines") ws)

-- the line that says why `--stream` is rejected beside these words
abbrev pub stream_misuse : List Text → Option Text
stream_misuse ws =
    if asks_many ws then Some (line_of (codes "one of --stream, --framed and --lines"))
    else if not (asks_octets ws) then Some (misuse_line (Subcommand Stream))
    else None

-- The same with `--stream`.
abbrev pub stream_asked : List Text → Result (Option (List Text)) Text
stream_asked ws = unless_misused stream_misuse (flag_asked (codes "--stream") ws)
