-- The values that are drawn of types that hold no other, each by its seed.
use Rattle.std.specs.Prelude.{ℕ, ◌+◌, ◌-◌, ◌/◌, ◌%◌, List, [], ◌∷◌, map, length, take, get_or, Bool, eqb, ltb, min, if◌then◌else◌, ℤ, pos, ◌+ℤ◌, ◌-ℤ◌, int_le, unsigned_abs, Option, Some, None, unwrap_or, encode_utf8_all}
use Rattle.std.specs.Int.{saturate_signed, w128}
use Rattle.oer_model.specs.AsnType.{Alphabet, ia5, numeric, printable, visible}
use Rattle.oer_model.specs.Bits.{bits_of, octets_for}
use Rattle.oer_model.specs.ContentType.{ContentType, object_id, octet_string, restricted_string, utf8_string}
use Rattle.oer_model.specs.Contents.{content_value}
use Rattle.oer_model.specs.LeafType.{LeafType, NamedNumber, bit_string, boolean, content, enumerated, integer, null}
use Rattle.oer_model.specs.LeafValue.{LeafValue}
use Rattle.oer_model.specs.LeafValue as kind
use Rattle.oer_model.specs.declared.size.Size.{Size}
use Rattle.oer_skeleton.specs.Skeleton.{lowered, nearest}
use Rattle.oer_random.specs.Words.{of_length, wide, words}
use Rattle.oer_random.specs.declared.letters.Letters.{Letters}
use Rattle.oer_random.specs.declared.letters.Letters.TheVariants.{Ia5, Numeric, Printable, Utf8, Visible}

-- ---- how many

-- how many more than the least there may be, up to `more`
abbrev pub spread : Option ℕ → ℕ → ℕ → ℕ
spread None low more = more
spread (Some high) low more = min (high - low) more

-- how many there are: the least, or up to `more` above it, and no more than 64 bits count
abbrev pub count_in : Size → ℕ → ℕ → ℕ
count_in size more seed = min (size.low + seed % (spread size.high size.low more + 1)) 18446744073709551615

-- how many characters, octets or bits a string may have above the least
abbrev pub more_letters : ℕ
more_letters = 8

-- ---- numbers

-- how far the number is from where it starts: 0 one time in four, else of any length
abbrev pub distance : ℕ → ℕ
distance seed = if eqb (seed % 4) 0 then 0 else of_length (seed / 16 % 127) (wide seed)

-- the same within both bounds
abbrev pub within : Option ℤ → Option ℤ → ℕ → ℕ
within (Some low) (Some high) n = n % (unsigned_abs (high -ℤ low) + 1)
within low high n = n

-- where it starts, by a side: at the lower bound, at the upper one, or, where there is none, near 0
abbrev pub start : ℕ → Option ℤ → Option ℤ → ℤ
start side low high =
    if eqb side 0 then unwrap_or low (nearest low high) else if eqb side 1 then unwrap_or high (nearest low high) else nearest low high

-- up by the distance, or down, on every other side; as far as 128 bits reach
abbrev pub moved : ℕ → ℤ → ℕ → ℤ
moved side z n = saturate_signed w128 (if eqb (side % 2) 0 then z +ℤ pos n else z -ℤ pos n)

-- the lower bound where it is above z, else z
abbrev pub lifted : Option ℤ → ℤ → ℤ
lifted None z = z
lifted (Some low) z = if int_le low z then z else low

-- a number between the bounds
abbrev pub number : Option ℤ → Option ℤ → ℕ → ℤ
number low high seed =
    let side = seed / 4 % 4 in lowered high (lifted low (moved side (start side low high) (within low high (distance seed))))

-- the number of an item
abbrev pub item_number : List NamedNumber → ℕ → ℤ
item_number xs seed = get_or (map (λ x. x.number) xs) (seed % length xs) (pos 0)

-- ---- strings

abbrev pub letters_of : Alphabet → Letters
letters_of ia5 = Ia5
letters_of visible = Visible
letters_of numeric = Numeric
letters_of printable = Printable

-- the digits, and space
abbrev pub numeric_letter : ℕ → ℕ
numeric_letter n = if ltb n 10 then 48 + n else 32

-- of the signs that a PrintableString has: space ' ( ) + , - . / : = ?
abbrev pub sign : ℕ → ℕ
sign n = get_or (32 ∷ 39 ∷ 40 ∷ 41 ∷ 43 ∷ 44 ∷ 45 ∷ 46 ∷ 47 ∷ 58 ∷ 61 ∷ 63 ∷ []) n 32

-- letters, digits, and signs
abbrev pub printable_letter : ℕ → ℕ
printable_letter n = if ltb n 26 then 65 + n else if ltb n 52 then 71 + n else if ltb n 62 then n - 4 else sign (n - 62)

-- characters of one octet in UTF-8, of two, of three, and those from U+E000 on
abbrev pub utf8_letter : ℕ → ℕ → ℕ
utf8_letter octets n =
    if eqb octets 0 then n % 128 else if eqb octets 1 then 128 + n % 1920 else if eqb octets 2 then 2048 + n % 53248 else 57344 + n % 1056768

-- the code of a character, by a number
abbrev pub letter : Letters → ℕ → ℕ
letter Ia5 x = x % 128
letter Visible x = 32 + x % 95
letter Numeric x = numeric_letter (x % 11)
letter Printable x = printable_letter (x % 74)
letter Utf8 x = utf8_letter (x % 4) (x / 4)

-- so many characters in UTF-8
abbrev pub text_of : Letters → ℕ → ℕ → List ℕ
text_of letters n seed = encode_utf8_all (map (letter letters) (words n seed))

abbrev pub octets_drawn : ℕ → ℕ → List ℕ
octets_drawn n seed = map (λ x. x % 256) (words n seed)

abbrev pub bits_drawn : ℕ → ℕ → List Bool
bits_drawn n seed = take n (bits_of (octets_drawn (octets_for n) seed))

-- ---- object identifiers

-- an arc of any length up to 64 bits
abbrev pub arc : ℕ → ℕ
arc x = of_length (x % 64) (x / 64)

-- the second arc, under 0 and 1 at most 39
abbrev pub second : ℕ → ℕ → ℕ
second first x = if ltb first 2 then x % 40 else arc x

-- two to five arcs
abbrev pub arcs_drawn : ℕ → List ℕ
arcs_drawn seed = seed % 3 ∷ second (seed % 3) (seed / 3) ∷ map arc (words (seed / 16 % 4) seed)

-- ---- of each type

abbrev pub drawn_content : ContentType → ℕ → List ℕ
drawn_content (octet_string size) seed = octets_drawn (count_in size more_letters seed) seed
drawn_content object_id seed = arcs_drawn seed
drawn_content (restricted_string letters size) seed = text_of (letters_of letters) (count_in size more_letters seed) seed
drawn_content (utf8_string size) seed = text_of Utf8 (count_in size more_letters seed) seed

abbrev pub drawn_leaf : LeafType → ℕ → LeafValue
drawn_leaf boolean seed = kind.bool (eqb (seed % 2) 1)
drawn_leaf null seed = kind.nothing
drawn_leaf (integer low high) seed = kind.int (number low high seed)
drawn_leaf (enumerated xs extensible) seed = kind.enum (item_number xs seed)
drawn_leaf (bit_string size) seed = kind.bit_list (bits_drawn (count_in size more_letters seed) seed)
drawn_leaf (content inner) seed = content_value inner (drawn_content inner seed)
