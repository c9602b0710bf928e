-- Which entries are taken.
use Rattle.std.specs.Prelude.{◌≡◌, ◌≤◌, ℕ, Bool, true, List, [], ◌∷◌, ◌++◌, length, map, Option, None, if◌then◌else◌}
use Rattle.std.specs.List.{FoldsTo}
use Rattle.oer_units.specs.declared.tagging.Tag.{Tag}
use Rattle.oer_model.specs.AsnType.{AsnType}
use Rattle.oer_model.specs.Parts.{Step}
use Rattle.oer_rows.specs.Naming.{starts_with}
use Rattle.oer_rows.specs.Rows.{Line, line}
use Rattle.oer_rows.specs.declared.row.Role.{Role}
use Rattle.oer_rows.specs.declared.row.Role.TheVariants.{Tag as TagRole}
use Rattle.oer_entries.specs.Frames.{tag_of}
use Rattle.oer_entries.specs.Ways.{kind_at, names_text, path_text}
use Rattle.oer_entries.specs.declared.entry.Entry.{Entry}

-- how many octets are before an entry, and its octets
abbrev pub spot_of : Entry → ℕ × List ℕ
spot_of e = (e.offset, e.octets.now)

-- the same of a row
abbrev pub spot_in : Line → ℕ × List ℕ
spot_in (line offset path role b) = (offset, b)

-- There is an entry for each row, in their order and of the same octets, and behind them at most one more.
abbrev pub AreOfRows : List Line → List Entry → Type 0
AreOfRows ls es = (more : List (ℕ × List ℕ)) × (length more ≤ 1) × (map spot_of es ≡ map spot_in ls ++ more)

-- From s to t one entry was taken, or none.
abbrev pub TakesAtMostOne : {E : Type 0} → (E → Entry → E → Type 0) → E → E → Type 0
TakesAtMostOne takes s t = (es : List Entry) × (length es ≤ 1) × FoldsTo takes s es t

-- From s to t the entries of these rows were taken, one after another.
abbrev pub AreTakenFor : {E : Type 0} → (E → Entry → E → Type 0) → List Line → E → E → Type 0
AreTakenFor takes ls s t = (es : List Entry) × AreOfRows ls es × FoldsTo takes s es t

-- ---- what an entry says of where it stands

-- the tag that octets are, where the path is that of the CHOICE
abbrev pub tag_by : Bool → Role → List ℕ → Option Tag → Option Tag
tag_by true TagRole b earlier = tag_of b
tag_by _ role b earlier = earlier

-- the tag that was read of the CHOICE at the path, of which octets are still being read; before: the rows so far, the last first
abbrev pub tag_at : List Line → List Step → Option Tag
tag_at [] path = None
tag_at (line n at role b ∷ before) path =
    if starts_with path at then tag_by (starts_with at path) role b (tag_at before path) else None

-- The entry has the path of its row, in the spelling of `oer part`, the names on that path, and the kind of the type of its part.
abbrev pub IsPlaced : AsnType → List Line → Line → Entry → Type 0
IsPlaced T before (line n path role b) e =
    (e.path.now ≡ path_text path) × (e.names.now ≡ names_text T (tag_at before) path) × (e.kind.now ≡ kind_at T (tag_at before) path)

-- Each row has its entry, placed by the rows before it.
abbrev pub ArePlaced : AsnType → List Line → List Line → List Entry → Type 0
ArePlaced T before [] es = Unit {0}
ArePlaced T before (l ∷ ls) [] = ⊥
ArePlaced T before (l ∷ ls) (e ∷ es) = IsPlaced T before l e × ArePlaced T (l ∷ before) ls es

-- From s to t the entries of these rows of a value of the type were taken, one after another, each with its path, names and kind.
abbrev pub ArePlacedFor : {E : Type 0} → (E → Entry → E → Type 0) → AsnType → List Line → E → E → Type 0
ArePlacedFor takes T ls s t = (es : List Entry) × AreOfRows ls es × ArePlaced T [] ls es × FoldsTo takes s es t
