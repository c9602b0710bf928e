-- Rows name parts: which rows are those of a part of an encoding.
use Rattle.std.specs.Prelude.{◌≡◌, ℕ, List, [], ◌∷◌, ◌++◌, length, Bool, true, false, not, ◌&&◌, Option, Some, None}
use Rattle.std.specs.List.{Contains, filter}
use Rattle.oer_model.specs.AsnType.{AsnType}
use Rattle.oer_model.specs.AsnValue.{AsnValue}
use Rattle.oer_model.specs.Constraints.{KeepsLimits}
use Rattle.oer_model.specs.Encoding.{IsSpelling}
use Rattle.oer_model.specs.Fits.{DefaultsFit}
use Rattle.oer_model.specs.Parts.{Step, Within, same_step}
use Rattle.oer_rows.specs.Lines.{AreLines, IsOne}
use Rattle.oer_rows.specs.Rows.{Line, line}
use Rattle.oer_rows.specs.declared.row.Role.{Role}
use Rattle.oer_rows.specs.declared.row.Role.TheVariants.{Length, Unknown}

-- whether the second path starts with the first
abbrev pub starts_with : List Step → List Step → Bool
starts_with [] path = true
starts_with (step ∷ front) [] = false
starts_with (step ∷ front) (next ∷ path) = same_step step next && starts_with front path

abbrev pub is_length : Role → Bool
is_length Length = true
is_length _ = false

-- The part at a path has the lines of that path, and those of the parts in it. But the length of an open type is outside of
-- the part that the open type holds.
abbrev pub is_of : List Step → Line → Bool
is_of path (line n at role c) = starts_with path at && not (is_length role && starts_with at path)

abbrev pub lines_of_part : List Step → List Line → List Line
lines_of_part path ls = filter (is_of path) ls

-- the octets of the lines, one after another
abbrev pub octets_of_lines : List Line → List ℕ
octets_of_lines [] = []
octets_of_lines (line n path role c ∷ ls) = c ++ octets_of_lines ls

-- the lines of a part whose type may be unknown
abbrev pub ArePart : Option AsnType → List Step → ℕ → List Line → List ℕ → Type 0
ArePart (Some T) path = AreLines T path
ArePart None path = IsOne path Unknown

-- The path names the octets w, of type U where that is known: its lines stand together, their octets are w, the first of them
-- has just that path, and they are the lines of w by U, with as many octets before them as the lines in front have.
abbrev pub Names : List Line → List Step → Option AsnType → List ℕ → Type 0
Names ls path U w = (front : List Line) × (after : List Line) × (role : Role) × (c : List ℕ) × (more : List Line)
    × (ls ≡ front ++ (lines_of_part path ls ++ after)) × (octets_of_lines (lines_of_part path ls) ≡ w)
    × (lines_of_part path ls ≡ line (length (octets_of_lines front)) path role c ∷ more)
    × ArePart U path (length (octets_of_lines front)) (lines_of_part path ls) w

-- Where the lines are those of octets b by T: b spells a value; each path that leads to octets in b names them; and the path of
-- each line leads to octets in b.
abbrev pub NamesParts : Type 0
NamesParts = (T : AsnType) → KeepsLimits T → DefaultsFit T → (ls : List Line) (b : List ℕ) → AreLines T [] 0 ls b
    → ((v : AsnValue) × IsSpelling T v b)
    × ((path : List Step) (U : Option AsnType) (w : List ℕ) → Within (Some T) b path U w → Names ls path U w)
    × ((n : ℕ) (path : List Step) (role : Role) (c : List ℕ) → Contains ls (line n path role c)
    → (U : Option AsnType) × (w : List ℕ) × Within (Some T) b path U w)
