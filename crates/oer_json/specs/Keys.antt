-- The keys of an object: those of parts that a type doesn't know.
use Rattle.std.specs.Prelude.{ℕ, ◌==◌, nat_lt, List, [], ◌∷◌, length, Bool, true, false, ◌&&◌, ◌||◌, Option, Some, None, option_and_then, if◌then◌else◌}
use Rattle.std.specs.BTreeSet.{insert_key}
use Rattle.std.specs.Fmt.{decimal}
use Rattle.std.specs.Ordering.{nat_cmp, is_lt}
use Rattle.std.specs.Cmp.Lexicographic.{slice_cmp}
use Rattle.std.specs.Str.{bytes_eq}
use Rattle.serde_json.specs.Data.{Members, no_members, member}
use Rattle.oer_units.specs.declared.tagging.Class.{Class}
use Rattle.oer_units.specs.declared.tagging.Class.TheVariants.{Universal, Application, Context, Private}
use Rattle.oer_units.specs.declared.tagging.Tag.{Tag}
use Rattle.oer_literals.specs.Numbers.{place_of}
use Rattle.oer_json.specs.Texts.{is_natural}

-- # and the place of an addition
abbrev pub place_key : ℕ → List ℕ
place_key n = 35 ∷ decimal n

abbrev pub class_letter : Class → ℕ
class_letter Universal = 117
class_letter Application = 97
class_letter Context = 99
class_letter Private = 112

-- #, a letter for the class and the number of a tag
abbrev pub tag_key : Tag → List ℕ
tag_key t = 35 ∷ class_letter t.class ∷ decimal t.number

-- each key has P
abbrev pub EachKey : (List ℕ → Type 0) → Members → Type 0
EachKey P no_members = Unit {0}
EachKey P (member k d ms) = P k × EachKey P ms

-- ---- read

-- the digits of a key that is # and a place
abbrev pub place_digits : List ℕ → Option (List ℕ)
place_digits [] = None
place_digits (c ∷ cs) = if c == 35 && is_natural cs then Some cs else None

-- the class that a letter stands for
abbrev pub class_in : ℕ → Option Class
class_in c = if c == 117 then Some Universal else if c == 97 then Some Application else if c == 99 then Some Context
    else if c == 112 then Some Private else None

abbrev pub with_class : List ℕ → Option Class → Option (Class × List ℕ)
with_class w None = None
with_class w (Some c) = Some (c, w)

-- a letter for a class, and what follows it
abbrev pub class_digits : List ℕ → Option (Class × List ℕ)
class_digits [] = None
class_digits (c ∷ cs) = with_class cs (class_in c)

abbrev pub if_natural : Option (Class × List ℕ) → Option (Class × List ℕ)
if_natural None = None
if_natural (Some p) = if is_natural p.1 then Some p else None

-- the class, and the digits of the number, of a key that is #, a letter and a number
abbrev pub tag_digits : List ℕ → Option (Class × List ℕ)
tag_digits [] = None
tag_digits (c ∷ cs) = if c == 35 then if_natural (class_digits cs) else None

abbrev pub is_among : List (List ℕ) → List ℕ → Bool
is_among [] w = false
is_among (n ∷ ns) w = bytes_eq n w || is_among ns w

-- each passes the test
abbrev pub all_pass : (List ℕ → Bool) → List (List ℕ) → Bool
all_pass f [] = true
all_pass f (k ∷ ks) = f k && all_pass f ks

-- the place of a key, where it is below 65,536
unfoldable pub low_place : List ℕ → Option ℕ
low_place key = option_and_then place_of (place_digits key)

abbrev pub unless_some : List ℕ → Option ℕ → Option (List ℕ)
unless_some key None = Some key
unless_some key (Some n) = None

-- the key, where it is that of a place from 65,536 on
unfoldable pub high_key : List ℕ → Option (List ℕ)
high_key key = option_and_then (λ w. unless_some key (place_of w)) (place_digits key)

-- among places in rising order
abbrev pub with_place : Option ℕ → List ℕ → List ℕ
with_place None ns = ns
with_place (Some n) ns = insert_key nat_cmp ns n

-- the keys of an object
abbrev pub keys_of : Members → List (List ℕ)
keys_of no_members = []
keys_of (member k d ms) = k ∷ keys_of ms

-- the places below 65,536 of the keys, in rising order, with those found before
abbrev pub places_in : List ℕ → List (List ℕ) → List ℕ
places_in found [] = found
places_in found (k ∷ ks) = places_in (with_place (low_place k) found) ks

-- the first key is that of the smaller place
unfoldable pub is_smaller : List ℕ → List ℕ → Bool
is_smaller v w = nat_lt (length v) (length w) || (length v == length w && is_lt (slice_cmp nat_cmp v w))

abbrev pub smaller : Option (List ℕ) → List ℕ → List ℕ
smaller None w = w
smaller (Some v) w = if is_smaller w v then w else v

-- the key of the smaller place
abbrev pub with_key : Option (List ℕ) → Option (List ℕ) → Option (List ℕ)
with_key None found = found
with_key (Some w) found = Some (smaller found w)

-- the key of the least place from 65,536 on
abbrev pub beyond_in : Option (List ℕ) → List (List ℕ) → Option (List ℕ)
beyond_in found [] = found
beyond_in found (k ∷ ks) = beyond_in (with_key (high_key k) found) ks
