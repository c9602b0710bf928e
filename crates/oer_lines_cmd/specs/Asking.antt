-- What `--framed` asks for.
use Rattle.std.specs.Prelude.{List, Option, Some, None, Result, Ok, Err, codes, not, if◌then◌else◌}
use Rattle.std.specs.Str.{bytes_eq}
use Rattle.clap.specs.Words.{Text}
use Rattle.oer_units.specs.declared.width.Width.{Width}
use Rattle.oer_units.specs.declared.width.Width.TheVariants as width
use Rattle.oer_words.specs.Rejected.{line_of}
use Rattle.oer_words.specs.Setting.{Given, option_asked}
use Rattle.oer_words.specs.Words.{asks_octets, has_flag, words_of}
use Rattle.oer_lines_cmd.specs.Errors.{misuse_line}
use Rattle.oer_lines_cmd.specs.declared.framed.Framed.{Framed as RawFramed}
use Rattle.oer_lines_cmd.specs.declared.misuse.Misuse.TheVariants.{Subcommand}
use Rattle.oer_lines_cmd.specs.declared.way.Word.TheVariants as word

-- how many octets a length has, by the value of `--framed`
abbrev pub width_of : Text → Option Width
width_of v =
    if bytes_eq v (codes "1") then Some width.One
    else if bytes_eq v (codes "2") then Some width.Two
    else if bytes_eq v (codes "4") then Some width.Four
    else if bytes_eq v (codes "8") then Some width.Eight
    else None

-- the width of the lengths, and the words that stay, the program's name first
abbrev pub Framed : Type 0
Framed = Width × List Text

abbrev pub framed_of : RawFramed → Framed
framed_of f = (f.width, words_of f.words)

abbrev pub by_width : List Text → Option Width → Result Width Text
by_width ws None = Err (line_of (codes "--framed takes 1, 2, 4 or 8"))
by_width ws (Some width) =
    if has_flag (codes "--lines") ws then Err (line_of (codes "one of --framed and --lines"))
    else if not (asks_octets ws) then Err (misuse_line (Subcommand word.Framed))
    else Ok width

abbrev pub with_words : List Text → Result Width Text → Result (Option Framed) Text
with_words ws (Ok width) = Ok (Some (width, ws))
with_words ws (Err line) = Err line

abbrev pub framed_by : Result (Option Given) Text → Result (Option Framed) Text
framed_by (Ok None) = Ok None
framed_by (Ok (Some (v, ws))) = with_words ws (by_width ws (width_of v))
framed_by (Err line) = Err line

-- What `--framed` asks for, and the words without it and its value; none where it isn't among them; or the line that says why it is rejected.
abbrev pub framed_asked : List Text → Result (Option Framed) Text
framed_asked ws = framed_by (option_asked (codes "--framed") ws)
