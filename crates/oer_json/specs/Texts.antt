-- Texts of the JSON form, and what is read of them.
use Rattle.std.specs.Prelude.{ℕ, ◌==◌, ◌&&◌, ◌||◌, nat_lt, List, [], ◌∷◌, ◌++◌, length, drop, slice_index, Bool, true, not, if◌then◌else◌}
use Rattle.std.specs.Fmt.{decimal}
use Rattle.std.specs.Str.{all_ascii_digits}

-- ---- made

-- numbers in decimal, each behind a point
abbrev pub after_points : List ℕ → List ℕ
after_points [] = []
after_points (x ∷ xs) = 46 ∷ (decimal x ++ after_points xs)

-- numbers in decimal with points between them
abbrev pub dotted : List ℕ → List ℕ
dotted [] = []
dotted (x ∷ xs) = decimal x ++ after_points xs

-- ---- read

-- decimal digits, of which the first is 0 only where it stands alone
unfoldable pub is_natural : List ℕ → Bool
is_natural w = nat_lt 0 (length w) && all_ascii_digits w && (length w == 1 || not (slice_index w 0 == 48))

-- such digits that don't begin with 0
unfoldable pub is_positive : List ℕ → Bool
is_positive w = is_natural w && not (slice_index w 0 == 48)

-- such digits, with a minus in front where the number is below 0
unfoldable pub is_whole : List ℕ → Bool
is_whole w = if slice_index w 0 == 45 then is_positive (drop 1 w) else is_natural w

-- each digit 0 or 1
abbrev pub are_bits : List ℕ → Bool
are_bits [] = true
are_bits (c ∷ cs) = (c == 48 || c == 49) && are_bits cs

-- what stands between the points, behind what was found since the last one
abbrev pub parts : List ℕ → List ℕ → List (List ℕ)
parts found [] = found ∷ []
parts found (c ∷ cs) = if c == 46 then found ∷ parts [] cs else parts (found ++ c ∷ []) cs

abbrev pub all_natural : List (List ℕ) → Bool
all_natural [] = true
all_natural (w ∷ ws) = is_natural w && all_natural ws
