-- The grammar of the notation: which tokens are a type, with a case for each rule.
use Rattle.std.specs.Prelude.{◌≡◌, ℕ, ◌+◌, ◌-◌, ◌*◌, ◌^◌, ◌<◌, ◌==◌, ℤ, pos, FitsSigned, List, [], ◌∷◌, ◌++◌, length, take, drop, map, Bool, true, false, Option, Some, None, codes, if◌then◌else◌}
use Rattle.std.specs.Char.{is_ascii_lowercase, is_ascii_uppercase}
use Rattle.std.specs.Int.{Width, w64, w128}
use Rattle.std.specs.Str.{chars, encode_utf8_all}
use Rattle.std.specs.Str.Parse.{IsNumeral, digits_value, signed_digits_value, without_leading_sign, without_leading_plus}
use Rattle.hex.specs.Hex.{hex_digit_value}
use Rattle.oer_lexer.specs.FallsInto.{FallsInto}
use Rattle.oer_lexer.specs.LeafWords.{with_words}
use Rattle.oer_lexer.specs.Token.{Token, word, number, bits, digits, text, sign}
use Rattle.oer_lexer.specs.declared.leaf.LeafWord.{LeafWord}
use Rattle.oer_lexer.specs.declared.token.Sign.TheVariants.{OpenBrace, CloseBrace, OpenParenthesis, CloseParenthesis, OpenBracket, CloseBracket, Comma, Range, Ellipsis, Assign}
use Rattle.oer_literals.specs.Bits.{is_one}
use Rattle.oer_model.specs.AsnType.{Need, must, may, default, NamedNumber, Alphabet, AsnType, leaf, boolean, null, integer, enumerated, bit_string, octet_string, object_id, restricted_string, utf8_string, sequence, extensible_sequence, sequence_of, choice, Fields, no_fields, field, Additions, no_additions, addition, Alternatives, no_alternatives, alternative, later}
use Rattle.oer_model.specs.LeafType.{LeafType}
use Rattle.oer_model.specs.AsnValue.{AsnValue, bool, nothing, int, enum, bit_list, octets, text as string, oid}
use Rattle.oer_model.specs.Bits.{bit}
use Rattle.oer_model.specs.WellFormed.{AnyOf, IsWellFormed}
use Rattle.oer_model.specs.declared.size.Size.{Size}
use Rattle.oer_units.specs.declared.tagging.Class.{Class}
use Rattle.oer_units.specs.declared.tagging.Class.TheVariants.{Universal, Application, Context, Private}
use Rattle.oer_units.specs.declared.tagging.Tag.{Tag}
use Rattle.oer_value_notation.specs.Leaves.{LeafForm, bounded, leaf_form, listed, plain, sized}
use Rattle.oer_notation.specs.Reading.{Known}
use Rattle.oer_value_notation.specs.Words.{reserved}

-- ---- words and numbers

-- a word that begins with a small letter
pub data IsId : List ℕ → Type 0 where
  an_id : {c : ℕ} {cs : List ℕ} → is_ascii_lowercase c ≡ true → IsId (c ∷ cs)

-- a word that begins with a capital and isn't reserved
pub data IsName : List ℕ → Type 0 where
  a_name : {c : ℕ} {cs : List ℕ} → is_ascii_uppercase c ≡ true → (AnyOf (λ v. v ≡ c ∷ cs) reserved → ⊥) → IsName (c ∷ cs)

-- decimal digits, with a sign or without, that stand for a number of the width
pub data IsInteger (width : Width) : ℤ → Token → Type 0 where
  an_integer : {z : ℤ} {w : List ℕ} → IsNumeral 10 (without_leading_sign w) → signed_digits_value 10 w ≡ z → FitsSigned width z
      → IsInteger width z (number w)

-- decimal digits that stand for a number below the limit
pub data IsNatural (limit : ℕ) : ℕ → Token → Type 0 where
  a_natural : {n : ℕ} {w : List ℕ} → IsNumeral 10 (without_leading_plus w) → digits_value 10 (without_leading_plus w) ≡ n
      → n < limit → IsNatural limit n (number w)

-- ---- bounds and sizes

-- an end of a range: a number, or the word that means no bound
pub data IsBound (unbounded : List ℕ) : Option ℤ → Token → Type 0 where
  no_bound : IsBound unbounded None (word unbounded)
  a_bound : {z : ℤ} {t : Token} → IsInteger w128 z t → IsBound unbounded (Some z) t

-- bounds in brackets, or nothing
pub data AreBounds : Option ℤ → Option ℤ → List Token → Type 0 where
  no_bounds : AreBounds None None []
  one_number : {z : ℤ} {t : Token} → IsInteger w128 z t
      → AreBounds (Some z) (Some z) (sign OpenParenthesis ∷ t ∷ sign CloseParenthesis ∷ [])
  range : {low high : Option ℤ} {s t : Token} → IsBound (codes "MIN") low s → IsBound (codes "MAX") high t
      → AreBounds low high (sign OpenParenthesis ∷ s ∷ sign Range ∷ t ∷ sign CloseParenthesis ∷ [])

-- the upper end of a size
pub data IsSizeEnd : Option ℕ → Token → Type 0 where
  no_end : IsSizeEnd None (word (codes "MAX"))
  an_end : {n : ℕ} {t : Token} → IsNatural (2 ^ 64) n t → IsSizeEnd (Some n) t

pub data IsSize : Size → List Token → Type 0 where
  one_size : {n : ℕ} {t : Token} → IsNatural (2 ^ 64) n t
      → IsSize (record { low = n; high = Some n }) (word (codes "SIZE") ∷ sign OpenParenthesis ∷ t ∷ sign CloseParenthesis ∷ [])
  sizes : {low : ℕ} {high : Option ℕ} {s t : Token} → IsNatural (2 ^ 64) low s → IsSizeEnd high t
      → IsSize (record { low = low; high = high })
      (word (codes "SIZE") ∷ sign OpenParenthesis ∷ s ∷ sign Range ∷ t ∷ sign CloseParenthesis ∷ [])

-- a size in brackets, or nothing
pub data IsBracketedSize : Size → List Token → Type 0 where
  any_size : IsBracketedSize (record { low = 0; high = None }) []
  bracketed : {size : Size} {ts : List Token} → IsSize size ts
      → IsBracketedSize size (sign OpenParenthesis ∷ (ts ++ sign CloseParenthesis ∷ []))

-- the size of a SEQUENCE OF, in brackets or not
pub data IsListSize : Size → List Token → Type 0 where
  in_brackets : {size : Size} {ts : List Token} → IsBracketedSize size ts → IsListSize size ts
  bare : {size : Size} {ts : List Token} → IsSize size ts → IsListSize size ts

-- ---- items

-- the number of the item at a place: where items are numbered its own in brackets, else its place
pub data IsItemNumber : Bool → ℕ → ℤ → List Token → Type 0 where
  own_number : {place : ℕ} {z : ℤ} {t : Token} → IsInteger w64 z t
      → IsItemNumber true place z (sign OpenParenthesis ∷ t ∷ sign CloseParenthesis ∷ [])
  number_by_place : {place : ℕ} → IsItemNumber false place (pos place) []

-- Items from a place on, each behind a comma, and whether there is a marker behind one of them or in front.
pub data AreItems (numbered : Bool) : ℕ → List NamedNumber → Bool → List Token → Type 0 where
  no_items : {place : ℕ} → AreItems numbered place [] false []
  item : {place : ℕ} {w : List ℕ} {z : ℤ} {items : List NamedNumber} {marker : Bool} {ts us : List Token} → IsId w
      → IsItemNumber numbered place z ts → AreItems numbered (place + 1) items marker us
      → AreItems numbered place (record { name = w; number = z } ∷ items) marker (sign Comma ∷ word w ∷ (ts ++ us))
  items_marker : {place : ℕ} {items : List NamedNumber} {us : List Token} → AreItems numbered place items false us
      → AreItems numbered place items true (sign Comma ∷ sign Ellipsis ∷ us)

-- ---- tags

-- the class word of a tag, or nothing
pub data IsClass : Class → List Token → Type 0 where
  universal : IsClass Universal (word (codes "UNIVERSAL") ∷ [])
  application : IsClass Application (word (codes "APPLICATION") ∷ [])
  private : IsClass Private (word (codes "PRIVATE") ∷ [])
  context : IsClass Context []

-- the tag of the alternative at a place: where alternatives are tagged its own in brackets, else its place
pub data IsTag : Bool → ℕ → Tag → List Token → Type 0 where
  own_tag : {place n : ℕ} {class : Class} {ts : List Token} {t : Token} → IsClass class ts → IsNatural (2 ^ 32) n t
      → IsTag true place (record { class = class; number = n }) (sign OpenBracket ∷ (ts ++ t ∷ sign CloseBracket ∷ []))
  tag_by_place : {place : ℕ} → IsTag false place (record { class = Context; number = place }) []

-- ---- values after DEFAULT

-- the number of the first item with the name
pub data IsItemNamed (w : List ℕ) : ℤ → List NamedNumber → Type 0 where
  this_item : {i : NamedNumber} {is : List NamedNumber} → i.name ≡ w → IsItemNamed w i.number (i ∷ is)
  later_item : {z : ℤ} {i : NamedNumber} {is : List NamedNumber} → (i.name ≡ w → ⊥) → IsItemNamed w z is → IsItemNamed w z (i ∷ is)

-- what stands between the quotes of bits or digits: behind them is a letter
abbrev pub between_quotes : List ℕ → List ℕ
between_quotes w = take (length w - 3) (drop 1 w)

-- hexadecimal digits, two for each octet
pub data AreOctets : List ℕ → List ℕ → Type 0 where
  no_octets : AreOctets [] []
  an_octet : {c d high low : ℕ} {cs xs : List ℕ} → hex_digit_value c ≡ Some high → hex_digit_value d ≡ Some low → AreOctets cs xs
      → AreOctets (c ∷ d ∷ cs) ((high * 16 + low) ∷ xs)

-- hexadecimal digits, each for four bits
pub data AreBits : List ℕ → List Bool → Type 0 where
  no_bits : AreBits [] []
  four_bits : {c n : ℕ} {cs : List ℕ} {s : List Bool} → hex_digit_value c ≡ Some n → AreBits cs s
      → AreBits (c ∷ cs) (bit n 3 ∷ bit n 2 ∷ bit n 1 ∷ bit n 0 ∷ s)

-- the characters behind the opening quote, up to the closing one; two quotes stand for one
abbrev pub unquoted : List ℕ → List ℕ
unquoted [] = []
unquoted (c ∷ []) = if c == 34 then [] else c ∷ []
unquoted (c ∷ d ∷ cs) = if c == 34 then d ∷ unquoted cs else c ∷ unquoted (d ∷ cs)

-- what a text stands for, in UTF-8
abbrev pub text_of : List ℕ → List ℕ
text_of w = encode_utf8_all (unquoted (drop 1 (chars w)))

-- any number of arcs
pub data AreArcs : List ℕ → List Token → Type 0 where
  no_arcs : AreArcs [] []
  an_arc : {n : ℕ} {arcs : List ℕ} {t : Token} {ts : List Token} → IsNatural (2 ^ 128) n t → AreArcs arcs ts → AreArcs (n ∷ arcs) (t ∷ ts)

-- a value in the notation of the type
pub data IsValue : AsnType → AsnValue → List Token → Type 0 where
  true_value : IsValue boolean (bool true) (word (codes "TRUE") ∷ [])
  false_value : IsValue boolean (bool false) (word (codes "FALSE") ∷ [])
  null_value : IsValue null nothing (word (codes "NULL") ∷ [])
  number_value : {low high : Option ℤ} {z : ℤ} {t : Token} → IsInteger w128 z t → IsValue (integer low high) (int z) (t ∷ [])
  item_value : {items : List NamedNumber} {marker : Bool} {w : List ℕ} {z : ℤ} → IsId w → IsItemNamed w z items
      → IsValue (enumerated items marker) (enum z) (word w ∷ [])
  octets_value : {size : Size} {w xs : List ℕ} → AreOctets (between_quotes w) xs → IsValue (octet_string size) (octets xs) (digits w ∷ [])
  digit_bits_value : {size : Size} {w : List ℕ} {s : List Bool} → AreBits (between_quotes w) s
      → IsValue (bit_string size) (bit_list s) (digits w ∷ [])
  bits_value : {size : Size} {w : List ℕ} → IsValue (bit_string size) (bit_list (map is_one (between_quotes w))) (bits w ∷ [])
  text_value : {letters : Alphabet} {size : Size} {w : List ℕ} → IsValue (restricted_string letters size) (string (text_of w)) (text w ∷ [])
  utf8_value : {size : Size} {w : List ℕ} → IsValue (utf8_string size) (string (text_of w)) (text w ∷ [])
  arcs_value : {a b : ℕ} {arcs : List ℕ} {ts : List Token} → AreArcs (a ∷ b ∷ arcs) ts
      → IsValue object_id (oid (a ∷ b ∷ arcs)) (sign OpenBrace ∷ (ts ++ sign CloseBrace ∷ []))

-- what makes a component of the type optional
pub data IsNeed (T : AsnType) : Need → List Token → Type 0 where
  needed : IsNeed T must []
  optional : IsNeed T may (word (codes "OPTIONAL") ∷ [])
  with_default : {v : AsnValue} {ts : List Token} → IsValue T v ts → IsNeed T (default v) (word (codes "DEFAULT") ∷ ts)

-- behind an addition: the word makes no difference
pub data MayBeOptional : List Token → Type 0 where
  plain_addition : MayBeOptional []
  optional_addition : MayBeOptional (word (codes "OPTIONAL") ∷ [])

-- ---- types

-- the type that the first definition of the Name gives
pub data IsDefined (w : List ℕ) : AsnType → List Known → Type 0 where
  this_definition : {k : Known} {ks : List Known} → k.name ≡ w → IsDefined w k.type (k ∷ ks)
  later_definition : {T : AsnType} {k : Known} {ks : List Known} → (k.name ≡ w → ⊥) → IsDefined w T ks → IsDefined w T (k ∷ ks)

-- what stands behind the words of a type that holds no other, and the type
pub data IsLeaf : LeafForm → LeafType → List Token → Type 0 where
  nothing_behind : {L : LeafType} → IsLeaf (plain L) L []
  bounds_behind : {make : Option ℤ → Option ℤ → LeafType} {low high : Option ℤ} {ts : List Token} → AreBounds low high ts
      → IsLeaf (bounded make) (make low high) ts
  items_behind : {make : List NamedNumber → Bool → LeafType} {numbered marker : Bool} {items : List NamedNumber} {w : List ℕ}
      {ts : List Token} → AreItems numbered 0 items marker (sign Comma ∷ word w ∷ ts)
      → IsLeaf (listed make) (make items marker) (sign OpenBrace ∷ word w ∷ (ts ++ sign CloseBrace ∷ []))
  size_behind : {make : Size → LeafType} {size : Size} {ts : List Token} → IsBracketedSize size ts
      → IsLeaf (sized make) (make size) ts

mutual
  -- a type; Names stand for the types that were defined before
  pub data IsType (known : List Known) : AsnType → List Token → Type 0 where
    leaf_type : (k : LeafWord) {L : LeafType} {ts : List Token} → IsLeaf (leaf_form k) L ts → IsType known (leaf L) (with_words k ts)
    named_type : {w : List ℕ} {T : AsnType} → IsName w → IsDefined w T known → IsType known T (word w ∷ [])
    empty_sequence_type : IsType known (sequence no_fields) (word (codes "SEQUENCE") ∷ sign OpenBrace ∷ sign CloseBrace ∷ [])
    sequence_type : {fs : Fields} {ts : List Token} → AreComponents known fs None (sign Comma ∷ ts)
        → IsType known (sequence fs) (word (codes "SEQUENCE") ∷ sign OpenBrace ∷ (ts ++ sign CloseBrace ∷ []))
    extensible_sequence_type : {fs : Fields} {more : Additions} {ts : List Token} → AreComponents known fs (Some more) (sign Comma ∷ ts)
        → IsType known (extensible_sequence fs more) (word (codes "SEQUENCE") ∷ sign OpenBrace ∷ (ts ++ sign CloseBrace ∷ []))
    sequence_of_type : {size : Size} {T : AsnType} {ts us : List Token} → IsListSize size ts → IsType known T us
        → IsType known (sequence_of size T) (word (codes "SEQUENCE") ∷ (ts ++ word (codes "OF") ∷ us))
    choice_type : {tagged marker : Bool} {more : Alternatives} {w : List ℕ} {ts : List Token}
        → AreAlternatives known tagged 0 more marker (sign Comma ∷ word w ∷ ts)
        → IsType known (choice marker more) (word (codes "CHOICE") ∷ sign OpenBrace ∷ word w ∷ (ts ++ sign CloseBrace ∷ []))

  -- components, each behind a comma; then the marker and additions, if there are some
  pub data AreComponents (known : List Known) : Fields → Option Additions → List Token → Type 0 where
    no_components : AreComponents known no_fields None []
    component : {w : List ℕ} {T : AsnType} {need : Need} {fs : Fields} {more : Option Additions} {ts us vs : List Token} → IsId w
        → IsType known T ts → IsNeed T need us → AreComponents known fs more vs
        → AreComponents known (field w need T fs) more (sign Comma ∷ word w ∷ (ts ++ us ++ vs))
    components_marker : {more : Additions} {us : List Token} → AreAdditions known more us
        → AreComponents known no_fields (Some more) (sign Comma ∷ sign Ellipsis ∷ us)

  -- additions, each behind a comma
  pub data AreAdditions (known : List Known) : Additions → List Token → Type 0 where
    none_added : AreAdditions known no_additions []
    added : {w : List ℕ} {T : AsnType} {more : Additions} {ts us vs : List Token} → IsId w → IsType known T ts → MayBeOptional us
        → AreAdditions known more vs
        → AreAdditions known (addition w T more) (sign Comma ∷ word w ∷ (ts ++ us ++ vs))

  -- alternatives from a place on, each behind a comma, and whether the marker and later ones follow
  pub data AreAlternatives (known : List Known) : Bool → ℕ → Alternatives → Bool → List Token → Type 0 where
    none_left : {tagged : Bool} {place : ℕ} → AreAlternatives known tagged place no_alternatives false []
    an_alternative : {tagged : Bool} {place : ℕ} {w : List ℕ} {t : Tag} {T : AsnType} {more : Alternatives} {marker : Bool} {ts us
        vs : List Token} → IsId w → IsTag tagged place t ts → IsType known T us
        → AreAlternatives known tagged (place + 1) more marker vs
        → AreAlternatives known tagged place (alternative w t T more) marker (sign Comma ∷ word w ∷ (ts ++ us ++ vs))
    alternatives_marker : {tagged : Bool} {place : ℕ} {more : Alternatives} {us : List Token}
        → AreLater known tagged place more us → AreAlternatives known tagged place more true (sign Comma ∷ sign Ellipsis ∷ us)

  -- alternatives behind the marker, each behind a comma
  pub data AreLater (known : List Known) : Bool → ℕ → Alternatives → List Token → Type 0 where
    none_later : {tagged : Bool} {place : ℕ} → AreLater known tagged place no_alternatives []
    a_later : {tagged : Bool} {place : ℕ} {w : List ℕ} {t : Tag} {T : AsnType} {more : Alternatives} {ts us vs : List Token}
        → IsId w → IsTag tagged place t ts → IsType known T us
        → AreLater known tagged (place + 1) more vs
        → AreLater known tagged place (later w t T more) (sign Comma ∷ word w ∷ (ts ++ us ++ vs))

-- ---- texts

-- The text falls into tokens that are the type, in which no Name stands.
abbrev pub Spells : AsnType → List ℕ → Type 0
Spells T bs = (ts : List Token) × FallsInto bs ts × IsType [] T ts

-- no definition has the Name
abbrev pub IsNew : List ℕ → List Known → Type 0
IsNew w known = AnyOf (λ k. k.name ≡ w) known → ⊥

-- one definition or more, after those known: a Name that is new, and its type
pub data AreDefinitions : List Known → List Known → List Token → Type 0 where
  one_definition : {known : List Known} {w : List ℕ} {T : AsnType} {ts : List Token} → IsName w → IsNew w known → IsType known T ts
      → AreDefinitions known (record { name = w; type = T } ∷ []) (word w ∷ sign Assign ∷ ts)
  more_definitions : {known ks : List Known} {w : List ℕ} {T : AsnType} {ts us : List Token} → IsName w → IsNew w known
      → IsType known T ts → AreDefinitions (known ++ record { name = w; type = T } ∷ []) ks us
      → AreDefinitions known (record { name = w; type = T } ∷ ks) (word w ∷ sign Assign ∷ (ts ++ us))

-- The text falls into tokens that are definitions.
abbrev pub SpellsAll : List Known → List ℕ → Type 0
SpellsAll ks bs = (ts : List Token) × FallsInto bs ts × AreDefinitions [] ks ts

-- each type is well-formed
abbrev pub AreWellFormed : List Known → Type 0
AreWellFormed [] = Unit {0}
AreWellFormed (k ∷ ks) = IsWellFormed k.type × AreWellFormed ks
