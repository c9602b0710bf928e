-- Which value a value of a module is, of a type for which it is written (X.680, 18 to 32).
use Rattle.std.specs.Prelude.{◌≡◌, ◌<◌, ℕ, ℤ, pos, List, [], ◌∷◌, map, Bool, true, false, Option, Some, Ok}
use Rattle.oer_literals.specs.Bits.{is_one}
use Rattle.oer_literals.specs.Numbers.{arc_of}
use Rattle.oer_model.specs.AsnType.{NamedNumber}
use Rattle.oer_model.specs.AsnValue.{AsnValue, Places, Values, absent, bit_list, bool, chosen, enum, int, items, no_places, no_values}
use Rattle.oer_model.specs.AsnValue.{nothing, octets, oid, present, seq, text as string, value as and_value}
use Rattle.oer_module_defaults.specs.Arcs.{digits_in}
use Rattle.oer_module_defaults.specs.Atoms.{has_below}
use Rattle.oer_module_defaults.specs.Bits.{bits_from}
use Rattle.oer_module_defaults.specs.Governors.{Governor, is_taken_by}
use Rattle.oer_module_defaults.specs.declared.governor.Kind.TheVariants.{Boolean, Null, Integer, Enumerated, Octets, Bits, Text, Arcs}
use Rattle.oer_module_defaults.specs.declared.governor.Kind.TheVariants.{Sequence, SequenceOf, Choice}
use Rattle.oer_module_lexer.specs.Token.{Spot}
use Rattle.oer_module_limits.specs.Sets.{size}
use Rattle.oer_module_syntax.specs.State.{State}
use Rattle.oer_module_syntax.specs.Tree.{Module, Tree, Elements, must, plain, structure, list_of}
use Rattle.oer_module_syntax.specs.declared.word.Builtin.{Builtin}
use Rattle.oer_module_syntax.specs.declared.word.Builtin.TheVariants as bi
use Rattle.oer_module_tags.specs.Alternatives.{AreTags}
use Rattle.oer_module_terms.specs.Items.{items_at}
use Rattle.oer_module_terms.specs.Trees.{Amount, named, amount, fixed, bits, digits, text, Value, atom, braces, choice, Parts}
use Rattle.oer_module_terms.specs.Trees.{no_parts, part, Members, no_members, member, Item}
use Rattle.oer_module_terms.specs.declared.item.Numbering.TheVariants.{Unsigned}
use Rattle.oer_module_terms.specs.declared.tree.Fixed.TheVariants.{True, False, Null as NullWord}
use Rattle.oer_module_values.specs.Kept.{kept}
use Rattle.oer_module_values.specs.Numbers.{Denotes, Has, bare}
use Rattle.oer_module_values.specs.Numbers as numbers
use Rattle.oer_module_values.specs.Types.{Given, Means, TypeIn}
use Rattle.oer_units.specs.declared.tagging.Tag.{Tag}
use Rattle.oer_value_notation.specs.Values.{digit_bits, inside, octets_in, text_in}
use Rattle.oer_meant_leaves.specs.Leaves.{AreItems}
use Rattle.oer_meant_leaves.specs.Ranges.{IsRange}
use Rattle.oer_meant_values.specs.Parts.{AreParts, Part}
use Rattle.oer_meant_values.specs.Reaching.{Governs, Reaches, Writes}

-- the number of the first item of that name
pub data IsNumberOf (w : List ℕ) : List NamedNumber → ℤ → Type 0 where
  this_item : (i : NamedNumber) (is : List NamedNumber) → i.name ≡ w → IsNumberOf w (i ∷ is) i.number
  another_item : (i : NamedNumber) (is : List NamedNumber) (z : ℤ) → ¬ (i.name ≡ w) → IsNumberOf w is z → IsNumberOf w (i ∷ is) z

-- the first alternative of that name, and its tag
pub data IsAlternative (w : List ℕ) : List Part → List Tag → Part → Tag → Type 0 where
  this_part : (p : Part) (ps : List Part) (g : Tag) (gs : List Tag) → p.name ≡ w → IsAlternative w (p ∷ ps) (g ∷ gs) p g
  another_part : (p q : Part) (ps : List Part) (g h : Tag) (gs : List Tag) → ¬ (q.name ≡ w) → IsAlternative w ps gs p g
      → IsAlternative w (q ∷ ps) (h ∷ gs) p g

-- the next of members is this name alone and a value
abbrev pub IsNext : List ℕ → Members → Type 0
IsNext w (member (part (atom at (amount (named u []))) (part v no_parts)) more) = u ≡ w
IsNext w _ = ⊥

-- arcs: numbers, also in parentheses behind names (32.3)
pub data AreArcs : Parts → List ℕ → Type 0 where
  no_arcs : AreArcs no_parts []
  another_arc : (v : Value) (vs : Parts) (w : List ℕ) (n : ℕ) (ns : List ℕ) → digits_in v ≡ Some w → arc_of w ≡ Some n → AreArcs vs ns
      → AreArcs (part v vs) (n ∷ ns)

module _ (ms : List Module) where
  -- the number that an ENUMERATED gives the item of that name
  pub data HasItem (w : List ℕ) (z : ℤ) : ℕ → Tree → Type 0 where
    has_item : (m at : ℕ) (ts cs : List Spot) (is : List NamedNumber) (marked : Bool) → AreItems ms m at ts is marked → IsNumberOf w is z
        → HasItem w z m (plain at bi.Enumerated ts cs)

  -- Members of braces are names of bits, with these numbers, which are below a size (22.7).
  pub data AreBits (m most : ℕ) (is : List Item) : Members → List ℕ → Type 0 where
    no_bits : AreBits m most is no_members []
    another_bit : (at : ℕ) (w : List ℕ) (more : Members) (i : Item) (a : Amount) (n : ℕ) (ns : List ℕ) → Has w is (Some i)
        → i.number ≡ Some a → Denotes ms m (bare m) a (pos n) → n < most → AreBits m most is more ns
        → AreBits m most is (member (part (atom at (amount (named w []))) no_parts) more) (n ∷ ns)

  -- the values of a type in a module are of one size
  pub record AreOfSize (m : ℕ) (t : Tree) (n : ℕ) : Type 0 where
    pub of : TypeIn
    pub given : List Given
    pub means : Means ms m t of given
    pub range : IsRange ms size of given (record { low = Some (pos n); high = Some (pos n) })

  mutual
    -- A value in a module is this value of a type in another: it, or the one that it stands for, is a value of a type that governs it,
    -- and is taken by the first; what holds others is read by the names, tags and numbers of its own type, so there both are one.
    pub data IsValue : ℕ → Tree → ℕ → Value → AsnValue → Type 0 where
      is_value : (m n k : ℕ) (t : Tree) (g h : Governor) (v l : Value) (x : AsnValue) → Governs ms m t g → Reaches ms n g v k h l
          → is_taken_by g h ≡ true → IsOf m t g k h l x → IsValue m t n v x

    -- A value that is no reference stands in a module, k, and h governs it. It is this value of the type t in m, which g governs.
    pub data IsOf : ℕ → Tree → Governor → ℕ → Governor → Value → AsnValue → Type 0 where
      is_true : (m k at : ℕ) (t : Tree) (g h : Governor) → h.kind ≡ Boolean → IsOf m t g k h (atom at (fixed True)) (bool true)
      is_false : (m k at : ℕ) (t : Tree) (g h : Governor) → h.kind ≡ Boolean → IsOf m t g k h (atom at (fixed False)) (bool false)
      is_null : (m k at : ℕ) (t : Tree) (g h : Governor) → h.kind ≡ Null → IsOf m t g k h (atom at (fixed NullWord)) nothing
      is_number : (m k at : ℕ) (t : Tree) (g h : Governor) (a : Amount) (i : numbers.Governor) (z : ℤ) → h.kind ≡ Integer
          → numbers.Governs ms m t i → Denotes ms k i a z → IsOf m t g k h (atom at (amount a)) (int z)
      -- each type has to give the item its number (20.8)
      is_item : (m k at : ℕ) (t : Tree) (g h : Governor) (w : List ℕ) (steps : List Spot) (z : ℤ) → h.kind ≡ Enumerated
          → HasItem w z h.«module» h.type → HasItem w z g.«module» g.type → IsOf m t g k h (atom at (amount (named w steps))) (enum z)
      are_octets : (m k at : ℕ) (t : Tree) (g h : Governor) (w os : List ℕ) → h.kind ≡ Octets → octets_in (inside w) ≡ Some os
          → IsOf m t g k h (atom at (digits w)) (octets os)
      -- digits without white space, which would stand for nothing (12.10)
      are_ones : (m k at : ℕ) (t : Tree) (g h : Governor) (w : List ℕ) → h.kind ≡ Bits → has_below 33 w ≡ false
          → IsOf m t g k h (atom at (bits w)) (bit_list (map is_one (inside w)))
      are_digits : (m k at : ℕ) (t : Tree) (g h : Governor) (w : List ℕ) (bs : List Bool) → h.kind ≡ Bits → digit_bits (inside w) ≡ Some bs
          → IsOf m t g k h (atom at (digits w)) (bit_list bs)
      are_names : (m k at n : ℕ) (t : Tree) (g h : Governor) (is : List Item) (rest : State) (more : Members) (ns : List ℕ) → h.kind ≡ Bits
          → items_at Unsigned (kept h.items) ≡ Ok (is, rest) → AreOfSize m t n → AreBits h.«module» n is more ns
          → IsOf m t g k h (braces at more) (bit_list (bits_from ns 0 n))
      -- a text on one line; where it has more, spaces at their ends stand for nothing (12.14)
      is_text : (m k at : ℕ) (t : Tree) (g h : Governor) (w : List ℕ) → h.kind ≡ Text → has_below 32 w ≡ false
          → IsOf m t g k h (atom at (text w)) (string (text_in w))
      are_arcs : (m k at : ℕ) (t : Tree) (g h : Governor) (v w : Value) (vs : Parts) (ns : List ℕ) → h.kind ≡ Arcs
          → AreArcs (part v (part w vs)) ns → IsOf m t g k h (braces at (member (part v (part w vs)) no_members)) (oid ns)
      is_sequence : (m k at there : ℕ) (t : Tree) (g h : Governor) (b : Builtin) (es : Elements) (cs : List Spot) (ps : List Part)
          (marked : Bool) (more : Members) (root added : Places) → h.kind ≡ Sequence → h.type ≡ structure there b es cs
          → AreParts ms h.«module» es ps marked → ArePlaces k more ps root added → IsOf m t g k h (braces at more) (seq root added [])
      is_list : (m k at there : ℕ) (t item : Tree) (g h : Governor) (b : Builtin) (sized : Bool) (ss : List Spot) (name : Option (List ℕ))
          (more : Members) (xs : Values) → h.kind ≡ SequenceOf → h.type ≡ list_of there b sized ss name item
          → AreValues h.«module» item k more xs → IsOf m t g k h (braces at more) (items xs)
      is_choice : (m k at there : ℕ) (t : Tree) (g h : Governor) (b : Builtin) (es : Elements) (cs : List Spot) (ps : List Part)
          (marked : Bool) (gs : List Tag) (w : List ℕ) (v : Value) (p : Part) (tag : Tag) (x : AsnValue) → h.kind ≡ Choice
          → h.type ≡ structure there b es cs → AreParts ms h.«module» es ps marked → AreTags ms h.«module» es gs
          → IsAlternative w ps gs p tag → IsValue p.«module» p.type k v x → IsOf m t g k h (choice at w v) (chosen tag x)

    -- Members of braces in a module are what components have, in their order: of the root, and of the additions. A component has the value
    -- of the next member, if that has its name; else none, if it may be absent (25.18). No member is left.
    pub data ArePlaces : ℕ → Members → List Part → Places → Places → Type 0 where
      no_more : (k : ℕ) → ArePlaces k no_members [] no_places no_places
      in_root : (k at : ℕ) (w : List ℕ) (v : Value) (more : Members) (p : Part) (ps : List Part) (x : AsnValue) (root added : Places)
          → w ≡ p.name → p.added ≡ false → IsValue p.«module» p.type k v x → ArePlaces k more ps root added
          → ArePlaces k (member (part (atom at (amount (named w []))) (part v no_parts)) more) (p ∷ ps) (present x root) added
      in_additions : (k at : ℕ) (w : List ℕ) (v : Value) (more : Members) (p : Part) (ps : List Part) (x : AsnValue) (root added : Places)
          → w ≡ p.name → p.added ≡ true → IsValue p.«module» p.type k v x → ArePlaces k more ps root added
          → ArePlaces k (member (part (atom at (amount (named w []))) (part v no_parts)) more) (p ∷ ps) root (present x added)
      not_in_root : (k : ℕ) (more : Members) (p : Part) (ps : List Part) (root added : Places) → p.added ≡ false → ¬ (p.need ≡ must)
          → ¬ IsNext p.name more → ArePlaces k more ps root added → ArePlaces k more (p ∷ ps) (absent root) added
      not_in_additions : (k : ℕ) (more : Members) (p : Part) (ps : List Part) (root added : Places) → p.added ≡ true
          → ¬ IsNext p.name more → ArePlaces k more ps root added → ArePlaces k more (p ∷ ps) root (absent added)

    -- members of braces in a module are values of a type, one each
    pub data AreValues : ℕ → Tree → ℕ → Members → Values → Type 0 where
      no_more_values : (m k : ℕ) (t : Tree) → AreValues m t k no_members no_values
      another_value : (m k : ℕ) (t : Tree) (v : Value) (more : Members) (x : AsnValue) (xs : Values) → IsValue m t k v x
          → AreValues m t k more xs → AreValues m t k (member (part v no_parts) more) (and_value x xs)

  -- tokens in a module are a value of a type, and nothing else
  pub record AreValue (m : ℕ) (t : Tree) (n : ℕ) (ts : List Spot) (x : AsnValue) : Type 0 where
    pub read : Value
    pub written : Writes ts read
    pub is : IsValue m t n read x
