-- The words of a command line, read one after the other for an option with a value.
use Rattle.std.specs.Prelude.{List, [], ◌∷◌, ◌++◌, map, Option, Some, None, codes, if◌then◌else◌}
use Rattle.std.specs.Borrow.{Bor}
use Rattle.std.specs.Str.{bytes_eq}
use Rattle.oer_words.specs.Words.{Text, value_of}
use Rattle.oer_words.specs.declared.scan.Next.{Next}
use Rattle.oer_words.specs.declared.scan.Next.TheVariants as expects
use Rattle.oer_words.specs.declared.scan.Scan.{Scan as RawScan}
use Rattle.oer_words.specs.declared.scan.Found.{Found as RawFound}
use Rattle.oer_words.specs.declared.scan.Found.TheVariants as raw

-- the words so far: the values of the option in their order, and what stays
pub record Scan : Type 0 where
  pub next : Next
  pub values : List Text
  pub kept : List Text

abbrev pub text_behind : Bor Text → Text
text_behind t = t.now

abbrev pub scan_of : RawScan → Scan
scan_of s = record { next = s.next; values = map text_behind s.values.items; kept = map text_behind s.kept.items }

-- before the first word
abbrev pub start : Scan
start = record { next = expects.Option; values = []; kept = [] }

-- what a word is where an option may stand: `--`, the option alone, that with `=` and a value, or another
pub data Found : Type 0 where
  rest : Found
  alone : Found
  with_value : Text → Found
  other : Found

abbrev pub found_seen : RawFound → Found
found_seen raw.Rest = rest
found_seen raw.Alone = alone
found_seen (raw.WithValue v) = with_value v.now
found_seen raw.Other = other

abbrev pub or_other : Option Text → Found
or_other (Some v) = with_value v
or_other None = other

unfoldable pub found_of : Text → Text → Found
found_of option w =
    if bytes_eq w (codes "--") then rest else if bytes_eq w option then alone else or_other (value_of w option)

-- a word stays
abbrev pub keep : Text → Scan → Scan
keep w s = record s { kept = s.kept ++ w ∷ [] }

-- a value of the option
abbrev pub add : Text → Scan → Scan
add v s = record s { values = s.values ++ v ∷ [] }

abbrev pub by_found : Found → Text → Scan → Scan
by_found rest w s = keep w (record s { next = expects.Rest })
by_found alone w s = record s { next = expects.Value }
by_found (with_value v) w s = add v s
by_found other w s = keep w s

-- a word where an option may stand
abbrev pub at_option : Text → Text → Scan → Scan
at_option option w s = by_found (found_of option w) w s

abbrev pub at_next : Next → Text → Text → Scan → Scan
at_next expects.Option option w s = at_option option w s
at_next expects.Value option w s = add w (record s { next = expects.Option })
at_next expects.Rest option w s = keep w s

unfoldable pub step : Text → Text → Scan → Scan
step option w s = at_next s.next option w s

-- what the words are, behind those of the scan s
abbrev pub scanned_from : Text → Scan → List Text → Scan
scanned_from option s [] = s
scanned_from option s (w ∷ ws) = scanned_from option (step option w s) ws

abbrev pub scanned : Text → List Text → Scan
scanned option ws = scanned_from option start ws
