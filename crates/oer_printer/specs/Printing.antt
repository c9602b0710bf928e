-- The text of a type, on one line: its tokens, with a space where two of them need one.
use Rattle.std.specs.Prelude.{ℕ, ℤ, List, [], ◌∷◌, ◌++◌, map, ◌==◌, nat_lt, Bool, true, false, not, ◌&&◌, ◌||◌, Option, Some, None, is_some, codes, if◌then◌else◌}
use Rattle.std.specs.Char.{encode_utf8, is_ascii_lowercase}
use Rattle.std.specs.Fmt.{decimal, signed_decimal}
use Rattle.std.specs.Ordering.{int_eq}
use Rattle.std.specs.Str.{bytes_eq, chars}
use Rattle.hex.specs.Hex.{encode_upper}
use Rattle.oer_lexer.specs.Characters.{quote, double_quote, starts}
use Rattle.oer_lexer.specs.FallsInto.{sign_text}
use Rattle.oer_lexer.specs.LeafWords.{with_words}
use Rattle.oer_lexer.specs.Token.{Token, word, number, bits, digits, text, sign}
use Rattle.oer_lexer.specs.declared.leaf.LeafWord.{LeafWord}
use Rattle.oer_lexer.specs.declared.leaf.LeafWord.TheVariants as words
use Rattle.oer_lexer.specs.declared.token.Sign.{Sign}
use Rattle.oer_lexer.specs.declared.token.Sign.TheVariants.{OpenBrace, CloseBrace, OpenParenthesis, CloseParenthesis, OpenBracket, CloseBracket, Comma, Range, Ellipsis}
use Rattle.oer_units.specs.declared.tagging.Class.{Class}
use Rattle.oer_units.specs.declared.tagging.Class.TheVariants.{Universal, Application, Context, Private}
use Rattle.oer_units.specs.declared.tagging.Tag.{Tag}
use Rattle.oer_literals.specs.Bits.{bit_digit}
use Rattle.oer_literals.specs.Items.{items_of, name_of}
use Rattle.oer_model.specs.LeafType.{LeafType, bit_string, boolean, enumerated, integer, null, object_id, octet_string, restricted_string, string_size, utf8_string}
use Rattle.oer_model.specs.AsnType.{Additions, Alphabet, Alternatives, AsnType, Fields, NamedNumber, Need, addition, alternative, choice, default, extensible_sequence, field, ia5, later, leaf, may, must, no_additions, no_alternatives, no_fields, numeric, printable, sequence, sequence_of, visible}
use Rattle.oer_model.specs.AsnValue.{AsnValue, leaf_value}
use Rattle.oer_model.specs.LeafValue.{LeafValue, bit_list, bool, enum, int, nothing, octets, oid, text as string}
use Rattle.oer_model.specs.declared.size.Size.{Size}

-- ---- tokens

abbrev pub integer_token : ℤ → Token
integer_token z = number (signed_decimal z)

abbrev pub natural_token : ℕ → Token
natural_token n = number (decimal n)

abbrev pub in_brackets : List Token → List Token
in_brackets ts = sign OpenParenthesis ∷ (ts ++ sign CloseParenthesis ∷ [])

-- each part behind a comma
abbrev pub after_commas : List (List Token) → List Token
after_commas [] = []
after_commas (p ∷ ps) = sign Comma ∷ (p ++ after_commas ps)

-- the parts, with commas between them
abbrev pub joined : List (List Token) → List Token
joined [] = []
joined (p ∷ ps) = p ++ after_commas ps

abbrev pub in_braces : List (List Token) → List Token
in_braces ps = sign OpenBrace ∷ (joined ps ++ sign CloseBrace ∷ [])

abbrev pub marker : List Token
marker = sign Ellipsis ∷ []

abbrev pub marker_if : Bool → List (List Token)
marker_if true = marker ∷ []
marker_if false = []

-- ---- bounds, sizes, items and tags

abbrev pub bounds_tokens : Option ℤ → Option ℤ → List Token
bounds_tokens None None = []
bounds_tokens None (Some high) = in_brackets (word (codes "MIN") ∷ sign Range ∷ integer_token high ∷ [])
bounds_tokens (Some low) None = in_brackets (integer_token low ∷ sign Range ∷ word (codes "MAX") ∷ [])
bounds_tokens (Some low) (Some high) =
    if int_eq low high then in_brackets (integer_token low ∷ []) else in_brackets (integer_token low ∷ sign Range ∷ integer_token high ∷ [])

abbrev pub sized : List Token → List Token
sized ts = in_brackets (word (codes "SIZE") ∷ in_brackets ts)

-- nothing where every size is allowed
abbrev pub ends_tokens : ℕ → Option ℕ → List Token
ends_tokens low None = if low == 0 then [] else sized (natural_token low ∷ sign Range ∷ word (codes "MAX") ∷ [])
ends_tokens low (Some high) =
    if low == high then sized (natural_token low ∷ []) else sized (natural_token low ∷ sign Range ∷ natural_token high ∷ [])

abbrev pub size_tokens : Size → List Token
size_tokens s = ends_tokens s.low s.high

abbrev pub item_tokens : NamedNumber → List Token
item_tokens i = word i.name ∷ in_brackets (integer_token i.number ∷ [])

-- context has no word
abbrev pub class_tokens : Class → List Token
class_tokens Universal = word (codes "UNIVERSAL") ∷ []
class_tokens Application = word (codes "APPLICATION") ∷ []
class_tokens Context = []
class_tokens Private = word (codes "PRIVATE") ∷ []

abbrev pub tag_tokens : Tag → List Token
tag_tokens t = sign OpenBracket ∷ (class_tokens t.class ++ natural_token t.number ∷ sign CloseBracket ∷ [])

-- ---- values after DEFAULT

abbrev pub truth_word : Bool → List ℕ
truth_word true = codes "TRUE"
truth_word false = codes "FALSE"

-- a quote is doubled
abbrev pub inside_quotes : ℕ → List ℕ
inside_quotes c = if c == double_quote then codes "\"\"" else encode_utf8 c

abbrev pub doubled : List ℕ → List ℕ
doubled [] = []
doubled (c ∷ cs) = inside_quotes c ++ doubled cs

abbrev pub quoted_text : List ℕ → List ℕ
quoted_text w = double_quote ∷ (doubled (chars w) ++ codes "\"")

abbrev pub name_tokens : Option (List ℕ) → List Token
name_tokens None = []
name_tokens (Some w) = word w ∷ []

-- a value that holds no other, of a type with these items
abbrev pub leaf_value_tokens : List NamedNumber → LeafValue → List Token
leaf_value_tokens is (bool b) = word (truth_word b) ∷ []
leaf_value_tokens is nothing = word (codes "NULL") ∷ []
leaf_value_tokens is (int z) = integer_token z ∷ []
leaf_value_tokens is (enum z) = name_tokens (name_of is z)
leaf_value_tokens is (bit_list bs) = bits (quote ∷ (map bit_digit bs ++ codes "'B")) ∷ []
leaf_value_tokens is (octets xs) = digits (quote ∷ (encode_upper xs ++ codes "'H")) ∷ []
leaf_value_tokens is (string w) = text (quoted_text w) ∷ []
leaf_value_tokens is (oid arcs) = sign OpenBrace ∷ (map natural_token arcs ++ sign CloseBrace ∷ [])

-- a value of a type with these items
abbrev pub value_tokens : List NamedNumber → AsnValue → List Token
value_tokens is (leaf_value v) = leaf_value_tokens is v
value_tokens is v = []

abbrev pub need_tokens : List NamedNumber → Need → List Token
need_tokens is must = []
need_tokens is may = word (codes "OPTIONAL") ∷ []
need_tokens is (default v) = word (codes "DEFAULT") ∷ value_tokens is v

-- ---- types

abbrev pub component_tokens : List ℕ → List Token → List Token → List Token
component_tokens name type need = word name ∷ (type ++ need)

abbrev pub alternative_tokens : List ℕ → Tag → List Token → List Token
alternative_tokens name tag type = word name ∷ (tag_tokens tag ++ type)

abbrev pub alphabet_word : Alphabet → LeafWord
alphabet_word ia5 = words.Ia5String
alphabet_word visible = words.VisibleString
alphabet_word numeric = words.NumericString
alphabet_word printable = words.PrintableString

-- the words of a type that holds no other
abbrev pub words_for : LeafType → LeafWord
words_for boolean = words.Boolean
words_for null = words.Null
words_for (integer low high) = words.Integer
words_for (enumerated is extensible) = words.Enumerated
words_for (bit_string size) = words.BitString
words_for (octet_string size) = words.OctetString
words_for object_id = words.ObjectIdentifier
words_for (restricted_string letters size) = alphabet_word letters
words_for (utf8_string size) = words.Utf8String

abbrev pub size_if : Option Size → List Token
size_if None = []
size_if (Some size) = size_tokens size

-- what stands behind them: bounds, items, or a size where there is one
abbrev pub constraint_tokens : LeafType → List Token
constraint_tokens (integer low high) = bounds_tokens low high
constraint_tokens (enumerated is extensible) = in_braces (map item_tokens is ++ marker_if extensible)
constraint_tokens kind = size_if (string_size kind)

abbrev pub leaf_tokens : LeafType → List Token
leaf_tokens kind = with_words (words_for kind) (constraint_tokens kind)

abbrev mutual
  pub type_tokens : AsnType → List Token
  type_tokens (leaf kind) = leaf_tokens kind
  type_tokens (sequence fs) = word (codes "SEQUENCE") ∷ in_braces (field_parts fs)
  type_tokens (extensible_sequence fs more) = word (codes "SEQUENCE") ∷ in_braces (field_parts fs ++ marker ∷ addition_parts more)
  type_tokens (sequence_of size T) = word (codes "SEQUENCE") ∷ (size_tokens size ++ word (codes "OF") ∷ type_tokens T)
  type_tokens (choice extensible more) = word (codes "CHOICE") ∷ in_braces (root_parts more ++ (marker_if extensible ++ later_parts more))

  pub field_parts : Fields → List (List Token)
  field_parts no_fields = []
  field_parts (field name need T more) = component_tokens name (type_tokens T) (need_tokens (items_of T) need) ∷ field_parts more

  pub addition_parts : Additions → List (List Token)
  addition_parts no_additions = []
  addition_parts (addition name T more) = component_tokens name (type_tokens T) [] ∷ addition_parts more

  -- the alternatives before the extension marker
  pub root_parts : Alternatives → List (List Token)
  root_parts no_alternatives = []
  root_parts (alternative name tag T more) = alternative_tokens name tag (type_tokens T) ∷ root_parts more
  root_parts (later name tag T more) = root_parts more

  -- those behind it
  pub later_parts : Alternatives → List (List Token)
  later_parts no_alternatives = []
  later_parts (alternative name tag T more) = later_parts more
  later_parts (later name tag T more) = alternative_tokens name tag (type_tokens T) ∷ later_parts more

-- ---- what has a notation

-- no character below U+0020
abbrev pub is_visible : List ℕ → Bool
is_visible [] = true
is_visible (c ∷ cs) = if nat_lt c 32 then false else is_visible cs

abbrev pub leaf_has_notation : List NamedNumber → LeafValue → Bool
leaf_has_notation is (enum z) = is_some (name_of is z)
leaf_has_notation is (string w) = is_visible (chars w)
leaf_has_notation is v = true

-- all but values of constructed type, numbers that no item has, and texts with control characters
abbrev pub value_has_notation : List NamedNumber → AsnValue → Bool
value_has_notation is (leaf_value v) = leaf_has_notation is v
value_has_notation is v = false

abbrev pub need_has_notation : List NamedNumber → Need → Bool
need_has_notation is must = true
need_has_notation is may = true
need_has_notation is (default v) = value_has_notation is v

abbrev mutual
  -- all defaults in the type have one
  pub has_notation : AsnType → Bool
  has_notation (leaf kind) = true
  has_notation (sequence fs) = have_notation fs
  has_notation (extensible_sequence fs more) = have_notation fs && additions_have_notation more
  has_notation (sequence_of size T) = has_notation T
  has_notation (choice extensible more) = alternatives_have_notation more

  pub have_notation : Fields → Bool
  have_notation no_fields = true
  have_notation (field name need T more) = has_notation T && need_has_notation (items_of T) need && have_notation more

  pub additions_have_notation : Additions → Bool
  additions_have_notation no_additions = true
  additions_have_notation (addition name T more) = has_notation T && additions_have_notation more

  pub alternatives_have_notation : Alternatives → Bool
  alternatives_have_notation no_alternatives = true
  alternatives_have_notation (alternative name tag T more) = has_notation T && alternatives_have_notation more
  alternatives_have_notation (later name tag T more) = has_notation T && alternatives_have_notation more

-- ---- spaces

abbrev pub is_word : Token → Bool
is_word (word w) = true
is_word (number w) = false
is_word (bits w) = false
is_word (digits w) = false
is_word (text w) = false
is_word (sign s) = false

-- an item's id or SIZE, behind which no space stands before a parenthesis
abbrev pub is_tight : Token → Bool
is_tight (word w) = starts is_ascii_lowercase w || bytes_eq w (codes "SIZE")
is_tight (number w) = false
is_tight (bits w) = false
is_tight (digits w) = false
is_tight (text w) = false
is_tight (sign s) = false

-- a word, a number or a quoted token
abbrev pub is_plain : Token → Bool
is_plain (word w) = true
is_plain (number w) = true
is_plain (bits w) = true
is_plain (digits w) = true
is_plain (text w) = true
is_plain (sign s) = false

abbrev pub is_sign : Sign → Token → Bool
is_sign s (word w) = false
is_sign s (number w) = false
is_sign s (bits w) = false
is_sign s (digits w) = false
is_sign s (text w) = false
is_sign s (sign u) = bytes_eq (sign_text s) (sign_text u)

abbrev pub is_opening : Token → Bool
is_opening t = is_sign OpenParenthesis t || is_sign OpenBrace t || is_sign OpenBracket t

abbrev pub is_closing : Token → Bool
is_closing t = is_sign CloseParenthesis t || is_sign CloseBrace t || is_sign CloseBracket t

-- whether a space stands between a token and the next
unfoldable pub is_apart : Token → Token → Bool
is_apart t u =
    is_sign Comma t
    || ((is_plain t && is_plain u)
    || ((is_word t && (is_opening u && not (is_tight t && is_sign OpenParenthesis u)))
    || (is_closing t && is_word u)))

abbrev pub token_text : Token → List ℕ
token_text (word w) = w
token_text (number w) = w
token_text (bits w) = w
token_text (digits w) = w
token_text (text w) = w
token_text (sign s) = sign_text s

abbrev pub space_if : Bool → List ℕ
space_if true = codes " "
space_if false = []

-- tokens behind another one
abbrev pub behind : Token → List Token → List ℕ
behind t [] = []
behind t (u ∷ us) = space_if (is_apart t u) ++ (token_text u ++ behind u us)

abbrev pub spaced : List Token → List ℕ
spaced [] = []
spaced (t ∷ ts) = token_text t ++ behind t ts

-- the text of a type, if it has one
abbrev pub printed : AsnType → Option (List ℕ)
printed T = if has_notation T then Some (spaced (type_tokens T)) else None
