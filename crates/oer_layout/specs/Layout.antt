-- The lines that are printed without `--json`: cells in columns, as a plain function of the entries and of how wide the columns are. Paths,
-- names, kinds and notes are of ASCII, so of these the octets are counted.
use Rattle.std.specs.Prelude.{◌≡◌, ℕ, zero, suc, ◌+◌, ◌-◌, ◌/◌, ◌%◌, ◌^◌, ◌==◌, List, [], ◌∷◌, ◌++◌, length, map, max, min, replicate, Bool, cond, nat_lt, ◌&&◌, codes}
use Rattle.std.specs.Fmt.{decimal}
use Rattle.oer_layout.specs.Text.{Text}
use Rattle.oer_model.specs.AsnType.{AsnType}
use Rattle.oer_rows.specs.Listing.{rows_of}
use Rattle.oer_entries.specs.Entries.{AreOfRows}
use Rattle.oer_entries.specs.declared.entry.Entry.{Entry}
use Rattle.oer_entries.specs.declared.extents.Extents.{Extents}
use Rattle.oer_layout.specs.Cells.{Cells, cells_of}
use Rattle.oer_places.specs.Parts.{count_of, first_of, last_of}
use Rattle.oer_places.specs.Visible.{visible}
use Rattle.oer_layout.specs.declared.columns.Widths.{Widths}

-- ---- widths

-- how many digits a number has
abbrev pub digits_of : ℕ → ℕ
digits_of n = length (decimal n)

-- how many characters the other columns leave of a line of so many: ten stand between the columns
abbrev pub room : Widths → ℕ → ℕ
room w width = width - (10 + w.offset + w.count + w.path + w.kind)

-- The widths for lines of so many characters. Names and values share the room that the other columns leave, and each has half of it if it
-- needs that, but names leave room for the longest note and twelve characters of a value. Both have twelve characters at least.
abbrev pub within : ℕ → Widths → Widths
within width w =
    let all = room w width in
    let names = min w.names (max (min (max (all / 2) (all - w.value)) (all - w.note - 12)) 12) in
    record w { names = names; value = max (all - names) 12 }

-- the largest of numbers; 0 where there are none
abbrev pub largest : List ℕ → ℕ
largest [] = 0
largest (n ∷ ns) = max n (largest ns)

-- how many characters a value has with its note
abbrev pub value_count : Cells → ℕ
value_count c = count_of c.value + length c.note

-- the largest of the numbers, and the most characters of the texts
abbrev pub most_of : List Cells → Widths
most_of cs = record {
  offset = largest (map (λ c. c.offset) cs);
  count = largest (map (λ c. c.count) cs);
  path = largest (map (λ c. length c.path) cs);
  names = largest (map (λ c. length c.names) cs);
  kind = largest (map (λ c. length c.kind) cs);
  note = largest (map (λ c. length c.note) cs);
  value = largest (map value_count cs);
}

-- how wide the columns are for cells of which none is cut
abbrev pub widest : List Cells → Widths
widest cs = record (most_of cs) { offset = digits_of (most_of cs).offset; count = digits_of (most_of cs).count }

-- the same for entries of these extents: an empty text has a dash in its place, and no value is so long that it is cut
abbrev pub unbounded : Extents → Widths
unbounded x = record { offset = digits_of x.offset; count = digits_of x.count; path = max x.path 1; names = max x.names 1; kind = x.kind; note = 0; value = 2 ^ 64 - 1 }

-- The widths for lines of octets, with a bound on their characters: those within the bound of the widest cells that entries of the octets
-- have. 0 is no bound: those of some extents.
abbrev pub AreWidths : ℕ → AsnType → List ℕ → Widths → Type 0
AreWidths zero T b w = (x : Extents) × (w ≡ unbounded x)
AreWidths (suc n) T b w = (es : List Entry) × AreOfRows (rows_of T b) es × (w ≡ within (suc n) (widest (map cells_of es)))

-- the largest of the numbers, and the most characters, of cells before and of one more
abbrev pub with_cells : Widths → Cells → Widths
with_cells w c = record {
  offset = max w.offset c.offset;
  count = max w.count c.count;
  path = max w.path (length c.path);
  names = max w.names (length c.names);
  kind = max w.kind (length c.kind);
  note = max w.note (length c.note);
  value = max w.value (value_count c);
}

-- ---- what is cut

-- how many characters stand beside `+`, the number of what is left out, and `..`; it has as many digits as the number of all has
abbrev pub beside_mark : ℕ → ℕ → ℕ
beside_mark room most = room - (digits_of most + 3)

-- how many of the names' characters are left out
abbrev pub names_left : ℕ → Text → ℕ
names_left room names = length names - beside_mark room (length names)

-- the last of them, behind the number of those left out
abbrev pub cut_names : ℕ → Text → Text
cut_names room names = codes "+" ++ (decimal (names_left room names) ++ (codes ".." ++ last_of (names_left room names) names))

-- names in so much room
abbrev pub names_shown : ℕ → Text → Text
names_shown room names = cond (nat_lt room (length names)) (cut_names room names) names

-- how many characters of a value are kept: of digits, behind the quotation mark, two for each octet
abbrev pub kept_of : Bool → ℕ → Text → ℕ
kept_of is_digits room value = let most = beside_mark room (length value) in cond (is_digits && most % 2 == 0) (most - 1) most

-- 1 for a text that begins with a quotation mark, and so ends with one
abbrev pub quote_of : Text → ℕ
quote_of [] = 0
quote_of (x ∷ xs) = cond (x == 34) 1 0

-- how many octets of a value are left out where so many are shown; of digits, how many that they write
abbrev pub left_out : Bool → Text → ℕ → ℕ
left_out is_digits value shown = let left = length value - shown - quote_of value in cond is_digits (left / 2) left

-- the first characters, and how many octets are left out
abbrev pub cut_value : Bool → ℕ → Text → Text
cut_value is_digits room value =
    let shown : Text = first_of (kept_of is_digits room value) value in
    shown ++ (codes "..+" ++ decimal (left_out is_digits value (length shown)))

-- a value in so much room
abbrev pub value_shown : Bool → ℕ → Text → Text
value_shown is_digits room value = cond (nat_lt room (count_of value)) (cut_value is_digits room value) value

-- ---- lines

abbrev pub spaces : ℕ → Text
spaces n = replicate n 32

-- what stands between two columns
abbrev pub gap : Text
gap = spaces 2

-- a cell at the right of its column
abbrev pub right : ℕ → Text → Text
right width cell = spaces (width - length cell) ++ cell

-- and at the left
abbrev pub left : ℕ → Text → Text
left width cell = cell ++ spaces (width - length cell)

-- The whole line. The value has the room that its note leaves it, twelve characters at least.
abbrev pub line_text : Widths → Cells → Text
line_text w c = right w.offset (decimal c.offset) ++ (gap ++ (right w.count (decimal c.count) ++ (gap ++ (left w.path c.path ++ (gap
    ++ (left w.names (names_shown w.names c.names) ++ (gap ++ (left w.kind c.kind ++ (gap
    ++ (value_shown c.is_digits (max (w.value - length c.note) 12) c.value ++ c.note))))))))))

-- a line for each entry, in their order: printed as Visible.antt says, and behind it a line feed
abbrev pub lines_text : Widths → List Entry → Text
lines_text w [] = []
lines_text w (e ∷ es) = visible (line_text w (cells_of e)) ++ 10 ∷ lines_text w es
