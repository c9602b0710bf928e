-- Names of a type, and one that a mistyped name is near to.
use Rattle.std.specs.Prelude.{ℕ, ◌-◌, List, [], ◌∷◌, ◌++◌, length, take, map, Bool, ltb, leb, ◌&&◌, nat_eq, Option, Some, None, codes, if◌then◌else◌}
use Rattle.std.specs.Borrow.{Bor}
use Rattle.std.specs.Str.{chars}
use Rattle.oer_places.specs.Parts.{count_of}
use Rattle.strsim.specs.Edits.{levenshtein_row}

abbrev pub text_behind : Bor (List ℕ) → List ℕ
text_behind t = t.now

abbrev pub texts_behind : List (Bor (List ℕ)) → List (List ℕ)
texts_behind ts = map text_behind ts

-- each behind a comma
abbrev pub behind_commas : List (List ℕ) → List ℕ
behind_commas [] = []
behind_commas (x ∷ xs) = codes ", " ++ (x ++ behind_commas xs)

abbrev pub listed : List (List ℕ) → List ℕ
listed [] = []
listed (x ∷ xs) = x ++ behind_commas xs

-- how many names are printed
abbrev pub most_names : ℕ
most_names = 8

-- the names with commas between them; of more the first, and a mark
abbrev pub names_shown : List (List ℕ) → List ℕ
names_shown names = if ltb most_names (length names) then listed (take most_names names) ++ codes ", .." else listed names

-- how many edits lead from one name to the other
abbrev pub edits : List ℕ → List ℕ → ℕ
edits from to = levenshtein_row nat_eq (chars from) (chars to) (length (chars to))

-- so many at most, and fewer than half of those of the count
abbrev pub are_few : ℕ → ℕ → ℕ → Bool
are_few most found count = leb found most && ltb found (count - found)

-- So many edits at most make the name of the key, fewer than half as many as it has characters. Neither has more than 40.
abbrev pub is_near : ℕ → List ℕ → List ℕ → Bool
is_near most key name = leb (count_of key) 40 && leb (count_of name) 40 && are_few most (edits key name) (count_of name)

-- the first name that is near
abbrev pub first_near : ℕ → List ℕ → List (List ℕ) → Option (List ℕ)
first_near most key [] = None
first_near most key (name ∷ names) = if is_near most key name then Some name else first_near most key names

abbrev pub or_near : Option (List ℕ) → Option (List ℕ) → Option (List ℕ)
or_near None other = other
or_near (Some name) other = Some name

-- the first that one edit makes, or else the first that two make
abbrev pub near : List ℕ → List (List ℕ) → Option (List ℕ)
near key names = or_near (first_near 1 key names) (first_near 2 key names)

abbrev pub hint_by : Option (List ℕ) → List ℕ
hint_by None = []
hint_by (Some name) = codes "  Did you mean " ++ (name ++ codes "?\n")

-- what a mistyped name may mean
abbrev pub near_hint : List ℕ → List (List ℕ) → List ℕ
near_hint key names = hint_by (near key names)
