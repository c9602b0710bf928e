-- Which of our types a type of a module is, if it holds no other (X.680, 18 to 24, 32 and 41; X.696).
use Rattle.std.specs.Prelude.{◌≡◌, ◌⊎◌, ℕ, ℤ, pos, List, [], ◌∷◌, map, Bool, Option, Some, None, option_map, is_some, Ok}
use Rattle.oer_model.specs.AsnType.{AsnType, NamedNumber, bit_string, boolean, enumerated, ia5, integer, null, numeric, object_id}
use Rattle.oer_model.specs.AsnType.{octet_string, printable, restricted_string, utf8_string, visible}
use Rattle.oer_model.specs.declared.size.Size.{Size}
use Rattle.oer_module_bounds.specs.Sets.{Span}
use Rattle.oer_module_leaves.specs.Texts.{low_end}
use Rattle.oer_module_lexer.specs.Token.{Spot}
use Rattle.oer_module_limits.specs.Sets.{number, size}
use Rattle.oer_module_parts.specs.Kept.{kept}
use Rattle.oer_module_parts.specs.Numbered.{AreNumbered}
use Rattle.oer_module_syntax.specs.State.{State}
use Rattle.oer_module_syntax.specs.Tree.{Module, plain}
use Rattle.oer_module_syntax.specs.declared.word.Builtin.{Builtin}
use Rattle.oer_module_syntax.specs.declared.word.Builtin.TheVariants as bi
use Rattle.oer_module_terms.specs.Items.{enumeration_at}
use Rattle.oer_module_terms.specs.Trees.{Amount, Enumeration, Item}
use Rattle.oer_module_values.specs.Numbers.{Denotes, all_items, bare, more_items}
use Rattle.oer_module_values.specs.Types.{Given, TypeIn, type_in}
use Rattle.oer_meant_leaves.specs.Ranges.{IsRange}

-- the sizes of a range; none is below 0
abbrev pub IsSize : Span → Size → Type 0
IsSize r s = (low_end r.low ≡ pos s.low) × (option_map pos s.high ≡ r.high)

-- a string of octets or characters, by its word
pub data IsString : Builtin → Size → AsnType → Type 0 where
  octets : (s : Size) → IsString bi.OctetString s (octet_string s)
  ia5_string : (s : Size) → IsString bi.Ia5String s (restricted_string ia5 s)
  visible_string : (s : Size) → IsString bi.VisibleString s (restricted_string visible s)
  iso646_string : (s : Size) → IsString bi.Iso646String s (restricted_string visible s)
  numeric_string : (s : Size) → IsString bi.NumericString s (restricted_string numeric s)
  printable_string : (s : Size) → IsString bi.PrintableString s (restricted_string printable s)
  utf8 : (s : Size) → IsString bi.Utf8String s (utf8_string s)

module _ (ms : List Module) where
  -- the number that each item in a module is given, if it is given one
  pub data HaveNumbers (m : ℕ) : List Item → List (Option ℤ) → Type 0 where
    no_items : HaveNumbers m [] []
    without : (i : Item) (is : List Item) (ns : List (Option ℤ)) → i.number ≡ None → HaveNumbers m is ns
        → HaveNumbers m (i ∷ is) (None ∷ ns)
    with : (i : Item) (a : Amount) (n : ℤ) (is : List Item) (ns : List (Option ℤ)) → i.number ≡ Some a → Denotes ms m (bare m) a n
        → HaveNumbers m is ns → HaveNumbers m (i ∷ is) (Some n ∷ ns)

  -- What tokens in the braces of an ENUMERATED at a byte are: items with their names, and with the numbers that they have (20).
  pub record AreItems (m at : ℕ) (ts : List Spot) (items : List NamedNumber) (marked : Bool) : Type 0 where
    pub read : Enumeration
    pub rest : State
    pub root : List (Option ℤ)
    pub more : List (Option ℤ)
    pub is : enumeration_at (kept ts at) ≡ Ok (read, rest)
    pub root_have : HaveNumbers m read.root root
    pub more_have : HaveNumbers m (more_items read.more) more
    pub numbered : AreNumbered root more (map (λ i. i.number) items)
    pub named : map (λ i. i.name) items ≡ map (λ i. i.name) (all_items read)
    pub marker : is_some read.more ≡ marked

  -- what a type that is no reference is, with what is given on the way to it
  pub data IsLeaf : TypeIn → List Given → AsnType → Type 0 where
    is_boolean : (m at : ℕ) (items ts : List Spot) (gs : List Given) → IsLeaf (type_in m (plain at bi.Boolean items ts)) gs boolean
    is_null : (m at : ℕ) (items ts : List Spot) (gs : List Given) → IsLeaf (type_in m (plain at bi.Null items ts)) gs null
    is_object_id : (m at : ℕ) (items ts : List Spot) (gs : List Given)
        → IsLeaf (type_in m (plain at bi.ObjectIdentifier items ts)) gs object_id
    is_integer : (m at : ℕ) (items ts : List Spot) (gs : List Given) (r : Span)
        → IsRange ms (number None) (type_in m (plain at bi.Integer items ts)) gs r
        → IsLeaf (type_in m (plain at bi.Integer items ts)) gs (integer r.low r.high)
    is_enumerated : (m at : ℕ) (items ts : List Spot) (gs : List Given) (is : List NamedNumber) (marked : Bool)
        → AreItems m at items is marked → IsLeaf (type_in m (plain at bi.Enumerated items ts)) gs (enumerated is marked)
    is_string : (m at : ℕ) (b : Builtin) (items ts : List Spot) (gs : List Given) (r : Span) (s : Size) (T : AsnType)
        → IsRange ms size (type_in m (plain at b items ts)) gs r → IsSize r s → IsString b s T
        → IsLeaf (type_in m (plain at b items ts)) gs T
    -- Where bits have names, last bits that are 0 say nothing (22.7; X.696, 13), unless there is one size alone.
    is_bit_string : (m at : ℕ) (items ts : List Spot) (gs : List Given) (r : Span) (s : Size)
        → IsRange ms size (type_in m (plain at bi.BitString items ts)) gs r → IsSize r s → (items ≡ []) ⊎ (s.high ≡ Some s.low)
        → IsLeaf (type_in m (plain at bi.BitString items ts)) gs (bit_string s)
