-- The line of a place, as it is printed.
use Rattle.std.specs.Prelude.{ℕ, ◌-◌, List, [], ◌∷◌, ◌++◌, ltb, replicate, codes, if◌then◌else◌}
use Rattle.std.specs.Str.{is_utf8}
use Rattle.oer_places.specs.Parts.{count_of, first_of, last_of}
use Rattle.oer_places.specs.Place.{first_line, last_line}
use Rattle.oer_places.specs.Visible.{visible}

-- how many characters of a line are printed before a place, and from it on
abbrev pub most_shown : ℕ
most_shown = 40

-- the mark of what is left out, where a text has more characters
abbrev pub mark_of : List ℕ → List ℕ
mark_of text = if ltb most_shown (count_of text) then codes ".." else []

-- what stands in the line before a place: the last characters, if there are more
abbrev pub front_shown : List ℕ → List ℕ
front_shown text = mark_of text ++ visible (last_of (count_of text - most_shown) text)

-- what stands there from the place on: the first characters, if there are more
abbrev pub rest_shown : List ℕ → List ℕ
rest_shown text = visible (first_of most_shown text) ++ mark_of text

-- octets that are no UTF-8 are left out, too
abbrev pub if_text : List ℕ → (List ℕ → List ℕ) → List ℕ
if_text octets shown = if is_utf8 octets then shown octets else codes ".."

abbrev pub spaces : ℕ → List ℕ
spaces n = replicate n 32

-- the line between the front and the rest of a text, and below it a mark under the place between them; each begins with two spaces
abbrev pub quoted : List ℕ → List ℕ → List ℕ
quoted front rest =
    let before : List ℕ = if_text (last_line front) front_shown in
    codes "  " ++ (before ++ (if_text (first_line rest) rest_shown ++ 10 ∷ (codes "  " ++ (spaces (count_of before) ++ codes "^\n"))))
