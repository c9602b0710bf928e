-- Values after DEFAULT: what is read and what is left, or the first fault.
use Rattle.std.specs.Prelude.{ℕ, zero, suc, ◌*◌, ◌-◌, ◌%◌, nat_lt, List, [], ◌∷◌, ◌++◌, length, take, drop, map, ◌==◌, Bool, true, false, ◌||◌, Option, Some, None, Result, Ok, Err, codes, if◌then◌else◌}
use Rattle.std.specs.Str.{bytes_eq}
use Rattle.std.specs.Char.{encode_utf8}
use Rattle.std.specs.Str.{chars}
use Rattle.hex.specs.Hex.{decode_of}
use Rattle.oer_lexer.specs.Token.{Token, word, number, bits, digits, text, sign}
use Rattle.oer_lexer.specs.declared.token.Sign.TheVariants.{OpenBrace, CloseBrace}
use Rattle.oer_model.specs.LeafType.{LeafType, NamedNumber, bit_string, boolean, enumerated, integer, null, object_id, octet_string, restricted_string, utf8_string}
use Rattle.oer_model.specs.AsnType.{AsnType, Need, default, leaf, may, must}
use Rattle.oer_model.specs.AsnValue.{AsnValue, bool, nothing, int, enum, bit_list, octets, text as string, oid}
use Rattle.oer_model.specs.Bits.{bits_of, octets_for}
use Rattle.oer_literals.specs.Bits.{is_one}
use Rattle.oer_literals.specs.Items.{number_named}
use Rattle.oer_literals.specs.Numbers.{arc_of, integer_of}
use Rattle.oer_value_notation.specs.Numbers.{number_at}
use Rattle.oer_value_notation.specs.State.{State, Read, ◌>>=◌, first, fault, bump, at_sign, at_word, same_sign, skip_sign}
use Rattle.oer_value_notation.specs.Words.{is_id}
use Rattle.oer_value_notation.specs.declared.fault.TextFault.{TextFault}
use Rattle.oer_value_notation.specs.declared.fault.TextWhy.TheVariants as why
use Rattle.oer_value_notation.specs.declared.value.Quoting.{Quoting}
use Rattle.oer_value_notation.specs.declared.value.Quoting.TheVariants as quoting

-- between the quotes
abbrev pub inside : List ℕ → List ℕ
inside w = take (length w - 3) (drop 1 w)

abbrev pub ok_part : {A E : Type 0} → Result A E → Option A
ok_part (Ok x) = Some x
ok_part (Err e) = None

-- the octets that pairs of hexadecimal digits stand for, if all have a pair
unfoldable pub octets_in : List ℕ → Option (List ℕ)
octets_in w = ok_part (decode_of w)

-- the first bits of octets, if these are just as many as the bits need
abbrev pub bits_from : Option (List ℕ) → ℕ → Option (List Bool)
bits_from None n = None
bits_from (Some xs) n = if length xs == octets_for n then Some (take n (bits_of xs)) else None

-- a zero at the end of an odd number of digits
abbrev pub paired : List ℕ → List ℕ
paired w = if length w % 2 == 1 then w ++ 48 ∷ [] else w

-- the bits of hexadecimal digits, four each; none where they are too many to be counted with 64 bits
unfoldable pub digit_bits : List ℕ → Option (List Bool)
digit_bits w = if nat_lt (length w) 4611686018427387904 then bits_from (octets_in (paired w)) (4 * length w) else None

-- A quote that begins or ends a text, or is the first of two, is left out. The text so far, by what was reached.
abbrev pub text_step : Quoting × List ℕ → ℕ → Quoting × List ℕ
text_step (quoting.First, out) c = (quoting.Plain, out)
text_step (quoting.Plain, out) c = if c == 34 then (quoting.Quoted, out) else (quoting.Plain, out ++ encode_utf8 c)
text_step (quoting.Quoted, out) c = (quoting.Plain, out ++ encode_utf8 c)

abbrev pub text_after : Quoting × List ℕ → List ℕ → Quoting × List ℕ
text_after p [] = p
text_after p (c ∷ cs) = text_after (text_step p c) cs

-- what stands between the quotes of a text, each quote inside once
unfoldable pub text_in : List ℕ → List ℕ
text_in w = (text_after (quoting.First, []) (chars w)).1

abbrev pub is_number : Option Token → Bool
is_number None = false
is_number (Some (word w)) = false
is_number (Some (number w)) = true
is_number (Some (bits w)) = false
is_number (Some (digits w)) = false
is_number (Some (text w)) = false
is_number (Some (sign u)) = false

-- arcs, after those found. The number bounds the turns; the count of the tokens is always enough.
unfoldable pub arcs_more : ℕ → List ℕ → State → Read (List ℕ)
arcs_more zero found s = Err s.stop
arcs_more (suc n) found s = if is_number (first s) then (number_at arc_of s >>= λ a. arcs_more n (found ++ a.0 ∷ []) a.1) else Ok (found, s)

-- two arcs or more and the closing brace
unfoldable pub arcs_at : State → Read AsnValue
arcs_at s = arcs_more (suc (length s.left)) [] s
    >>= λ r. if nat_lt 1 (length r.0) then (skip_sign CloseBrace r.1 >>= λ e. Ok (oid r.0, e.1)) else Err (fault why.Syntax r.1)

-- a token with which a value of some type begins
abbrev pub begins_value : Option Token → Bool
begins_value None = false
begins_value (Some (word w)) = is_id w || (bytes_eq w (codes "TRUE") || (bytes_eq w (codes "FALSE") || bytes_eq w (codes "NULL")))
begins_value (Some (number w)) = true
begins_value (Some (bits w)) = true
begins_value (Some (digits w)) = true
begins_value (Some (text w)) = true
begins_value (Some (sign u)) = same_sign u OpenBrace

-- the fault of a token with which no value of the type begins: Default where one of another type does
abbrev pub no_value : State → TextFault
no_value s = if begins_value (first s) then fault why.Default s else fault why.Syntax s

abbrev pub some_value : {A : Type 0} → (A → AsnValue) → Option A → State → Read AsnValue
some_value make (Some x) s = Ok (make x, bump s)
some_value make None s = Err (fault why.Default s)

unfoldable pub truth_at : State → Read AsnValue
truth_at s =
    if at_word (codes "TRUE") s then Ok (bool true, bump s)
    else if at_word (codes "FALSE") s then Ok (bool false, bump s)
    else Err (no_value s)

unfoldable pub null_at : State → Read AsnValue
null_at s = if at_word (codes "NULL") s then Ok (nothing, bump s) else Err (no_value s)

unfoldable pub integer_at : State → Read AsnValue
integer_at s = if is_number (first s) then (number_at integer_of s >>= λ n. Ok (int n.0, n.1)) else Err (no_value s)

-- the number of an item, by its name
abbrev pub item_by : List NamedNumber → Option Token → State → Read AsnValue
item_by items (Some (word w)) s = if is_id w then some_value enum (number_named items w) s else Err (no_value s)
item_by items _ s = Err (no_value s)

abbrev pub bits_by : Option Token → State → Read AsnValue
bits_by (Some (bits w)) s = Ok (bit_list (map is_one (inside w)), bump s)
bits_by (Some (digits w)) s = some_value bit_list (digit_bits (inside w)) s
bits_by _ s = Err (no_value s)

abbrev pub octets_by : Option Token → State → Read AsnValue
octets_by (Some (digits w)) s = some_value octets (octets_in (inside w)) s
octets_by _ s = Err (no_value s)

abbrev pub text_by : Option Token → State → Read AsnValue
text_by (Some (text w)) s = Ok (string (text_in w), bump s)
text_by _ s = Err (no_value s)

-- arcs in braces
unfoldable pub oid_at : State → Read AsnValue
oid_at s = if at_sign OpenBrace s then arcs_at (bump s) else Err (no_value s)

-- a value of a type that holds no other
abbrev pub leaf_value_at : LeafType → State → Read AsnValue
leaf_value_at boolean s = truth_at s
leaf_value_at null s = null_at s
leaf_value_at (integer low high) s = integer_at s
leaf_value_at (enumerated items extensible) s = item_by items (first s) s
leaf_value_at (bit_string size) s = bits_by (first s) s
leaf_value_at (octet_string size) s = octets_by (first s) s
leaf_value_at object_id s = oid_at s
leaf_value_at (restricted_string letters size) s = text_by (first s) s
leaf_value_at (utf8_string size) s = text_by (first s) s

-- a value of the type
unfoldable pub value_at : AsnType → State → Read AsnValue
value_at (leaf kind) s = leaf_value_at kind s
value_at _ s = Err (no_value s)

-- what makes a component of the type optional
unfoldable pub need_at : AsnType → State → Read Need
need_at T s =
    if at_word (codes "OPTIONAL") s then Ok (may, bump s)
    else if at_word (codes "DEFAULT") s then (value_at T (bump s) >>= λ v. Ok (default v.0, v.1))
    else Ok (must, s)
