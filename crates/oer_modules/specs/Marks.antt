-- The positions of some bytes of a text.
use Rattle.std.specs.Prelude.{◌≡◌, ◌<◌, ◌*◌, ℕ, List, [], length, slice_index_or}
use Rattle.oer_modules.specs.Places.{position_at}
use Rattle.oer_modules.specs.declared.marks.Marks.{Marks}
use Rattle.oer_modules.specs.declared.place.Position.{Position}

-- each so many bytes from the last, the first at the start
abbrev pub AreMarksBy : ℕ → List ℕ → List Position → Type 0
AreMarksBy stride t ps = (k : ℕ) (d : Position) → k < length ps → slice_index_or ps k d ≡ position_at (k * stride) t

abbrev pub AreMarks : List ℕ → List Position → Type 0
AreMarks t ps = AreMarksBy 4096 t ps

-- those of a text, which is that of the number, if it has any
abbrev pub IsMarked : List ℕ → ℕ → List Marks → Type 0
IsMarked t k ms = (d : Marks) → k < length ms → AreMarks t (slice_index_or ms k d).positions.items

-- those of each text, as far as they have any
abbrev pub AreMarked : List (List ℕ) → List Marks → Type 0
AreMarked ts ms = (k : ℕ) → IsMarked (slice_index_or ts k []) k ms
