-- Where a place of a text is.
use Rattle.std.specs.Prelude.{◌≡◌, ◌⊎◌, ℕ, ◌+◌, ◌==◌, List, [], ◌∷◌, ◌++◌, ltb, ◌||◌, Vec, if◌then◌else◌}
use Rattle.std.specs.Global.{Global}
use Rattle.oer_places.specs.declared.place.Place.{Place}

-- how many line feeds there are
abbrev pub line_feeds : List ℕ → ℕ
line_feeds [] = 0
line_feeds (c ∷ cs) = if c == 10 then line_feeds cs + 1 else line_feeds cs

-- how many characters begin: no octet from 128 to 191 begins one
abbrev pub characters : List ℕ → ℕ
characters [] = 0
characters (c ∷ cs) = if ltb c 128 || ltb 191 c then characters cs + 1 else characters cs

abbrev pub line_from : List ℕ → List ℕ → List ℕ
line_from line [] = line
line_from line (c ∷ cs) = if c == 10 then line_from [] cs else line_from (line ++ c ∷ []) cs

-- what stands behind the last line feed
abbrev pub last_line : List ℕ → List ℕ
last_line text = line_from [] text

-- what stands before the first line feed, or carriage return
abbrev pub first_line : List ℕ → List ℕ
first_line [] = []
first_line (c ∷ cs) = if c == 10 || c == 13 then [] else c ∷ first_line cs

-- the line and the column behind this front of a text, both counted from 1
abbrev pub place_of : List ℕ → Place
place_of front = record { line = line_feeds front + 1; column = characters (last_line front) + 1 }

-- The octets of a front of a text are those of whole lines, each with its line feed, and then those of the line of the place.
pub record IsPlace (front : List ℕ) (place : Place) : Type 0 where
  pub before : List ℕ
  pub line : List ℕ
  pub split : front ≡ before ++ line
  pub lines : place.line ≡ line_feeds before + 1
  pub ends : (before ≡ []) ⊎ ((most : List ℕ) × (before ≡ most ++ 10 ∷ []))
  pub alone : line_feeds line ≡ 0
  pub column : place.column ≡ characters line + 1

-- Each place is told as it stands.
abbrev pub PlacesStand : Type 0
PlacesStand = (front : List ℕ) → IsPlace front (place_of front)

abbrev pub items_of : Vec ℕ Global → List ℕ
items_of v = v.items
