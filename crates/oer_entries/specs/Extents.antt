-- How far entries reach.
use Rattle.std.specs.Prelude.{◌≡◌, ◌≤◌, ◌⊎◌, ℕ, List, [], ◌∷◌, length, drop, max, codes, Result, Ok, Err}
use Rattle.oer_units.specs.declared.fault.ReadFault.{ReadFault}
use Rattle.oer_model.specs.AsnType.{AsnType}
use Rattle.oer_checker.specs.Check.{Tells}
use Rattle.oer_checker.specs.declared.verdict.Verdict.{Verdict}
use Rattle.oer_rows.specs.Listing.{rows_of}
use Rattle.oer_rows.specs.Rows.{Line, line}
use Rattle.oer_entries.specs.Entries.{AreOfRows, ArePlaced, tag_at}
use Rattle.oer_entries.specs.Ways.{kind_at, names_text, path_text}
use Rattle.oer_entries.specs.declared.entry.Entry.{Entry}
use Rattle.oer_entries.specs.declared.extents.Extents.{Extents}

-- those of no entries
abbrev pub no_extents : Extents
no_extents = record { offset = 0; count = 0; path = 0; names = 0; kind = 0 }

-- those of an entry with these numbers and texts
abbrev pub of_entry : ℕ → ℕ → List ℕ → List ℕ → List ℕ → Extents
of_entry offset count path names kind = record { offset = offset; count = count; path = length path; names = length names; kind = length kind }

-- of each the greater
abbrev pub wider : Extents → Extents → Extents
wider x y = record {
  offset = max x.offset y.offset;
  count = max x.count y.count;
  path = max x.path y.path;
  names = max x.names y.names;
  kind = max x.kind y.kind;
}

-- those of the entry of a row of a value of the type; before: the rows before it, the last first
abbrev pub row_extents : AsnType → List Line → Line → Extents
row_extents T before (line offset path role b) =
    of_entry offset (length b) (path_text path) (names_text T (tag_at before) path) (kind_at T (tag_at before) path)

-- x, and those of the entries of rows
abbrev pub extents_from : AsnType → List Line → Extents → List Line → Extents
extents_from T before x [] = x
extents_from T before x (l ∷ ls) = extents_from T (l ∷ before) (wider x (row_extents T before l)) ls

-- x, and those of the entry of the octets after the value, if there are any; so many octets are before them
abbrev pub with_rest : ℕ → List ℕ → Extents → Extents
with_rest offset [] x = x
with_rest offset (y ∷ rest) x = wider x (of_entry offset (length (y ∷ rest)) [] [] (codes "-"))

-- x, and those of at most one more entry
abbrev pub WithOneMore : Extents → Extents → Type 0
WithOneMore x y = (y ≡ x) ⊎ ((more : Extents) × (y ≡ wider x more))

-- The extents of the entries of these rows, and of that of the octets after the value; or of at most one more, where the octets are
-- rejected.
abbrev pub AreExtentsBy : List ℕ → Result Verdict ReadFault → Extents → Extents → Type 0
AreExtentsBy octets (Ok verdict) of_rows x = x ≡ with_rest verdict.octets (drop verdict.octets octets) of_rows
AreExtentsBy octets (Err fault) of_rows x = WithOneMore of_rows x

-- the extents of the entries of octets, by the type of the value
abbrev pub AreExtentsOf : AsnType → List ℕ → Extents → Type 0
AreExtentsOf T octets x = (verdict : Result Verdict ReadFault) × Tells T octets verdict
    × AreExtentsBy octets verdict (extents_from T [] no_extents (rows_of T octets)) x

-- ---- the law

-- no number of the entry is above the extents, and no text longer
abbrev pub IsWithin : Extents → Entry → Type 0
IsWithin x e = (e.offset ≤ x.offset) × (length e.octets.now ≤ x.count) × (length e.path.now ≤ x.path) × (length e.names.now ≤ x.names)
    × (length e.kind.now ≤ x.kind)

-- the entry of each of these rows
abbrev pub AreWithin : Extents → List Line → List Entry → Type 0
AreWithin x [] es = Unit {0}
AreWithin x (l ∷ ls) [] = ⊥
AreWithin x (l ∷ ls) (e ∷ es) = IsWithin x e × AreWithin x ls es

-- The entries of all rows of octets are within the extents of the octets.
abbrev pub ReachOverRows : Type 0
ReachOverRows = (T : AsnType) (octets : List ℕ) (x : Extents) (es : List Entry) → AreExtentsOf T octets x
    → AreOfRows (rows_of T octets) es → ArePlaced T [] (rows_of T octets) es → AreWithin x (rows_of T octets) es
