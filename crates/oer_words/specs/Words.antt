-- What the words of a command line say, before a word `--`. The first of them is the program's name.
use Rattle.std.specs.Prelude.{ℕ, ◌+◌, List, [], ◌∷◌, map, length, take, drop, Bool, true, false, ◌||◌, not, eqb, Option, Some, None, Result, Ok, Err, String, string_bytes, Vec, codes, option_map, option_and_then, is_some, if◌then◌else◌}
use Rattle.std.specs.Borrow.{Bor}
use Rattle.std.specs.Global.{Global}
use Rattle.std.specs.Str.{bytes_eq}

abbrev pub Text : Type 0
Text = List ℕ

abbrev pub words_of : Vec (String Global) Global → List Text
words_of ws = map string_bytes ws.items

-- what a function answers, seen by f
abbrev pub result_map : {A B E : Type 0} → (A → B) → Result A E → Result B E
result_map f (Ok x) = Ok (f x)
result_map f (Err e) = Err e

-- the text behind a reference
abbrev pub behind : Option (Bor Text) → Option Text
behind = option_map (λ s. s.now)

-- what stands in the word behind p, where the word begins with p
abbrev pub value_behind : Text → Text → Option Text
value_behind w p = if bytes_eq (take (length p) w) p then Some (drop (length p) w) else None

-- the value of the option, where the word is the option with `=` and a value
abbrev pub value_of : Text → Text → Option Text
value_of w option = option_and_then (λ rest. value_behind rest (codes "=")) (value_behind w option)

-- the word is the option, alone or with `=` and a value
abbrev pub is_option : Text → Text → Bool
is_option option w = bytes_eq w option || is_some (value_of w option)

-- the option stands among words behind the program's name
abbrev pub stands : Text → List Text → Bool
stands option [] = false
stands option (w ∷ ws) = if bytes_eq w (codes "--") then false else is_option option w || stands option ws

abbrev pub has_option : Text → List Text → Bool
has_option option [] = false
has_option option (program ∷ ws) = stands option ws

-- how often a word stands before a word `--`
abbrev pub times : Text → List Text → ℕ
times flag [] = 0
times flag (w ∷ ws) = if bytes_eq w (codes "--") then 0 else if bytes_eq w flag then times flag ws + 1 else times flag ws

abbrev pub has_flag : Text → List Text → Bool
has_flag flag [] = false
has_flag flag (program ∷ ws) = not (eqb (times flag ws) 0)

-- many messages, on lines or behind their lengths
abbrev pub asks_many : List Text → Bool
asks_many ws = has_flag (codes "--lines") ws || has_option (codes "--framed") ws

-- the subcommand, which is the word behind the program's name, is this one
abbrev pub asks_for : Text → List Text → Bool
asks_for name (program ∷ w ∷ ws) = bytes_eq w name
asks_for name _ = false

-- it is one that takes octets
abbrev pub asks_octets : List Text → Bool
asks_octets ws = asks_for (codes "canon") ws || asks_for (codes "show") ws || asks_for (codes "check") ws || asks_for (codes "part") ws
