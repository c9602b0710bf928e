-- A place of a text, with its line and a sentence.
use Rattle.std.specs.Prelude.{ℕ, List, ◌++◌, take, drop, codes}
use Rattle.std.specs.Fmt.{decimal}
use Rattle.oer_places.specs.Place.{place_of}
use Rattle.oer_places.specs.Quoting.{quoted}
use Rattle.oer_places.specs.declared.place.Place.{Place}

abbrev pub place_line : Place → List ℕ
place_line place = codes "  line " ++ (decimal place.line ++ (codes ", column " ++ (decimal place.column ++ codes ":\n")))

-- the place, the line of it with a mark, a sentence on it, and a hint that may be empty
abbrev pub notes_at : List ℕ → ℕ → List ℕ → List ℕ → List ℕ
notes_at text at sentence hint =
    place_line (place_of (take at text)) ++ (quoted (take at text) (drop at text) ++ (codes "  " ++ (sentence ++ (codes "\n" ++ hint))))
