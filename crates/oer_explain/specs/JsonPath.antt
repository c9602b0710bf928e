-- The way to a part of JSON, as it is printed.
use Rattle.std.specs.Prelude.{ℕ, List, [], ◌∷◌, ◌++◌, length, Bool, eqb, ltb, ◌&&◌, codes, flat_map, if◌then◌else◌}
use Rattle.std.specs.Fmt.{decimal}
use Rattle.oer_places.specs.Looks.{word_length}
use Rattle.oer_places.specs.Quoting.{rest_shown}
use Rattle.oer_json_places.specs.Next.{Hop, Wrong, element, itself, key, missing_key, unknown_key}
use Rattle.oer_json_places.specs.Place.{Spot}

-- letters, digits and hyphens, and at least one
abbrev pub is_word : List ℕ → Bool
is_word k = ltb 0 (length k) && eqb (word_length k) (length k)

-- a key behind a point; one that is no word stands in quotes. Of a long key the first characters are there.
abbrev pub key_text : List ℕ → List ℕ
key_text k = if is_word k then codes "." ++ rest_shown k else codes ".\"" ++ (rest_shown k ++ codes "\"")

abbrev pub hop_text : Hop → List ℕ
hop_text (key k) = key_text k
hop_text (element n) = codes "[" ++ (decimal n ++ codes "]")

-- a key that the type doesn't have is the last step
abbrev pub last_text : Wrong → List ℕ
last_text (unknown_key k) = key_text k
last_text (missing_key k) = []
last_text itself = []

abbrev pub path_text : List Hop → List ℕ
path_text hops = flat_map hop_text hops

abbrev pub at_line : List ℕ → List ℕ
at_line [] = codes "  at the whole:\n"
at_line (c ∷ cs) = codes "  at " ++ (c ∷ cs ++ codes ":\n")

-- the line that tells the place
abbrev pub place_line : Spot → List ℕ
place_line spot = at_line (path_text spot.path ++ last_text spot.wrong)
