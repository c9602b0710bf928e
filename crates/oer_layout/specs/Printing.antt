-- What is printed of entries.
use Rattle.std.specs.Prelude.{ℕ, List, [], ◌∷◌, ◌++◌, Bool, Option}
use Rattle.serde_json.specs.Written.{compact_text}
use Rattle.oer_model.specs.AsnType.{AsnType}
use Rattle.oer_rows.specs.Listing.{rows_of}
use Rattle.oer_entries.specs.Entries.{AreOfRows}
use Rattle.oer_entries.specs.declared.entry.Entry.{Entry}
use Rattle.oer_layout.specs.Array.{object_of, objects_text, separator}
use Rattle.oer_layout.specs.Cells.{cells_of}
use Rattle.oer_layout.specs.Layout.{line_text, lines_text}
use Rattle.oer_layout.specs.Outgoing.{Grows}
use Rattle.oer_places.specs.Visible.{visible}
use Rattle.oer_layout.specs.declared.columns.Widths.{Widths}
use Rattle.oer_layout.specs.declared.outgoing.Outgoing.{Outgoing}

-- the line of the entry, in columns of these widths
abbrev pub PrintsLine : {W : Type 0} → (W → Option (List ℕ)) → Widths → Outgoing W → Entry → Outgoing W → Type 0
PrintsLine contents w s e t = Grows contents s (visible (line_text w (cells_of e)) ++ 10 ∷ []) t

-- the object of the entry
abbrev pub PrintsObject : {W : Type 0} → (W → Option (List ℕ)) → Bool → Outgoing W → Entry → Outgoing W → Type 0
PrintsObject contents is_first s e t = Grows contents s (separator is_first ++ visible (compact_text (object_of e))) t

-- the lines of the entries of octets
abbrev pub PrintsLines : {W : Type 0} → (W → Option (List ℕ)) → Widths → AsnType → List ℕ → Outgoing W → Outgoing W → Type 0
PrintsLines contents w T b s t = (es : List Entry) × AreOfRows (rows_of T b) es × Grows contents s (lines_text w es) t

-- the objects of the entries of octets
abbrev pub PrintsObjects : {W : Type 0} → (W → Option (List ℕ)) → Bool → AsnType → List ℕ → Outgoing W → Outgoing W → Type 0
PrintsObjects contents is_first T b s t = (es : List Entry) × AreOfRows (rows_of T b) es × Grows contents s (objects_text is_first es) t
