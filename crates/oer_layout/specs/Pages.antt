-- What is printed of octets: a text of their entries, as lines or as an array.
use Rattle.std.specs.Prelude.{◌≡◌, ℕ, List, Option}
use Rattle.std.specs.Io.KnownBytes.{Appends}
use Rattle.oer_model.specs.AsnType.{AsnType}
use Rattle.oer_rows.specs.Listing.{rows_of}
use Rattle.oer_entries.specs.Entries.{AreOfRows}
use Rattle.oer_entries.specs.declared.entry.Entry.{Entry}
use Rattle.oer_layout.specs.Array.{array_text}
use Rattle.oer_layout.specs.Layout.{AreWidths, lines_text}
use Rattle.oer_layout.specs.Text.{Text}
use Rattle.oer_layout.specs.declared.columns.Widths.{Widths}

-- ---- lines, each of so many characters at most; 0 is no bound

-- the lines of entries that octets have
abbrev pub AreLinesOf : ℕ → AsnType → List ℕ → List Entry → Text → Type 0
AreLinesOf width T b es text = (w : Widths) × AreWidths width T b w × (text ≡ lines_text w es)

-- The text is the lines of entries of the octets b: of one for each row that they have by the type T, and behind these of at most one more.
abbrev pub IsLines : ℕ → AsnType → List ℕ → Text → Type 0
IsLines width T b text = (es : List Entry) × AreOfRows (rows_of T b) es × AreLinesOf width T b es text

-- Such lines of the octets are on the output.
abbrev pub PrintsLinesOf : ℕ → AsnType → List ℕ → Option (List ℕ) → Option (List ℕ) → Type 0
PrintsLinesOf width T b output output' = (text : Text) × IsLines width T b text × Appends output output' text

-- ---- the array

-- The text is the array of such entries.
abbrev pub IsArray : AsnType → List ℕ → Text → Type 0
IsArray T b text = (es : List Entry) × AreOfRows (rows_of T b) es × (text ≡ array_text es)

-- The array of the octets is on the output.
abbrev pub PrintsArrayOf : AsnType → List ℕ → Option (List ℕ) → Option (List ℕ) → Type 0
PrintsArrayOf T b output output' = (text : Text) × IsArray T b text × Appends output output' text
