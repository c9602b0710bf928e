-- What the rows so far say of the way, as entries are made or measured.
use Rattle.std.specs.Prelude.{◌≡◌, ℕ, List, [], ◌∷◌, ◌++◌, drop, map, Option, Some, None, option_map}
use Rattle.oer_units.specs.declared.tagging.Tag.{Tag}
use Rattle.oer_model.specs.AsnType.{AsnType}
use Rattle.oer_model.specs.Parts.{Step}
use Rattle.oer_parts.specs.Walk.{step_of}
use Rattle.oer_rows.specs.Rows.{Line, again, line}
use Rattle.oer_entries.specs.Entries.{IsPlaced, spot_in, spot_of, tag_at}
use Rattle.oer_entries.specs.Extents.{row_extents, wider}
use Rattle.oer_entries.specs.Frames.{Seen}
use Rattle.oer_entries.specs.Trails.{IsWay, parts_of}
use Rattle.oer_entries.specs.declared.entry.Entry.{Entry}
use Rattle.oer_entries.specs.declared.extents.Extents.{Extents}
use Rattle.oer_entries.specs.declared.way.Way.{Way}

-- the step to a part, as the rows have it
abbrev pub taken : Seen → Option Step
taken f = option_map step_of f.step

abbrev pub path_steps : List Step → List (Option Step)
path_steps path = map (λ s. Some s) path

abbrev pub step_list : Option Step → List Step
step_list None = []
step_list (Some s) = s ∷ []

-- The tag of each part is that of its path; front: the path up to the first.
abbrev pub Tagged : (List Step → Option Tag) → List Step → List Seen → Type 0
Tagged tags front [] = Unit {0}
Tagged tags front (f ∷ fs) = (f.tag ≡ tags (front ++ step_list (taken f))) × Tagged tags (front ++ step_list (taken f)) fs

-- The way leads from a value of the type to the part at the path, by the tags in the rows before.
pub record Stands (T : AsnType) (octets : List ℕ) (before : List Line) (path : List Step) (w : Way) : Type 0 where
  pub leads : IsWay T w
  pub reads : w.octets.now ≡ octets
  pub steps : map taken (drop 1 (parts_of w)) ≡ path_steps path
  pub tags : Tagged (tag_at before) [] (parts_of w)

-- the path of the last row
abbrev pub last_path : List Line → List Step
last_path [] = []
last_path (line n path role b ∷ before) = path

abbrev pub path_at : Line → List Step
path_at (line n path role b) = path

-- An entry of the row was taken from s to t, placed by the rows before it, and the way came from v to the row's part at w.
abbrev pub Places : {E : Type 0} → (E → Entry → E → Type 0) → E → Way → Line → E → Way → Type 0
Places takes s v l t w = (T : AsnType) (before : List Line) → Stands T v.octets.now before (last_path before) v
    → Stands T v.octets.now before (path_at l) w × ((e : Entry) × (spot_of e ≡ spot_in l) × IsPlaced T before l e × takes s e t)

-- The same, and the row was noted.
abbrev pub Makes : {E : Type 0} → (E → Entry → E → Type 0) → E → Way → Line → E → Way → Type 0
Makes takes s v l t w = (T : AsnType) (before : List Line) → Stands T v.octets.now before (last_path before) v
    → Stands T v.octets.now (again v.octets.now l ∷ before) (path_at l) w
    × ((e : Entry) × (spot_of e ≡ spot_in l) × IsPlaced T before l e × takes s e t)

-- The way came from v to the row's part at w, and from x to y the entry of the row was measured.
abbrev pub Reaches : Way → Extents → Line → Way → Extents → Type 0
Reaches v x l w y = (T : AsnType) (before : List Line) → Stands T v.octets.now before (last_path before) v
    → Stands T v.octets.now before (path_at l) w × (y ≡ wider x (row_extents T before l))

-- The same, and the row was noted.
abbrev pub Measures : Way → Extents → Line → Way → Extents → Type 0
Measures v x l w y = (T : AsnType) (before : List Line) → Stands T v.octets.now before (last_path before) v
    → Stands T v.octets.now (again v.octets.now l ∷ before) (path_at l) w × (y ≡ wider x (row_extents T before l))
