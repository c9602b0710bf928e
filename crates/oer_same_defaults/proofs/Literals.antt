-- As which value the tokens after DEFAULT are read in a module, and where they stand for it.
use Rattle.std.proofs.Common.{◌≡◌, ℕ, suc, ◌≤◌, List, [], ◌∷◌, Bool, true, false, cond, Option, Some, None, Ok, ℤ, refl, sym, ap, subst, ◌∙◌, append-nil, arith}
use Rattle.std.specs.Prelude.{FitsSigned, codes, map}
use Rattle.std.specs.Int.{w128}
use Rattle.oer_lexer.specs.Token as notation
use Rattle.oer_literals.specs.Bits.{is_one}
use Rattle.oer_model.specs.AsnType.{Alphabet, AsnType, NamedNumber, leaf}
use Rattle.oer_model.specs.AsnValue.{AsnValue, bool, nothing, int, enum, bit_list, octets, oid, text as string}
use Rattle.oer_model.specs.LeafType.{LeafType, boolean, null, integer, enumerated, bit_string, octet_string, object_id, restricted_string, utf8_string}
use Rattle.oer_model.specs.declared.size.Size.{Size}
use Rattle.oer_module_defaults.specs.Defaults.{default_at, kind_at, value_at}
use Rattle.oer_module_defaults.specs.Governors.{Governor, holds_others}
use Rattle.oer_module_defaults.specs.Items.{is_own, is_own_of}
use Rattle.oer_module_defaults.specs.Walks.{name_in, reference_by, valued}
use Rattle.oer_module_lexer.specs.Token as token
use Rattle.oer_module_lexer.specs.Token.{Spot, Token}
use Rattle.oer_module_lexer.specs.declared.token.Sign.TheVariants.{OpenBrace}
use Rattle.oer_module_syntax.specs.Tree.{Module, Tree}
use Rattle.oer_module_terms.specs.Trees.{Value, amount, atom, bits, braces, digits, fixed, member, named, no_members, number, parts_from, text}
use Rattle.oer_module_terms.specs.declared.tree.Fixed.TheVariants as words
use Rattle.oer_module_text.specs.Errors.{◌>>=◌}
use Rattle.oer_module_text.specs.Room.{Room}
use Rattle.oer_module_values.specs.Digits.{IsWritten}
use Rattle.oer_module_values.specs.Looks.{own}
use Rattle.oer_module_values.specs.Numbers.{place_of_first}
use Rattle.oer_module_values.specs.Types.{Meaning, meaning, type_in}
use Rattle.oer_notation.specs.Grammar.{AreBits, AreOctets, IsItemNamed, IsValue, an_integer, between_quotes, text_of, true_value, false_value, null_value}
use Rattle.oer_notation.specs.Grammar.{number_value, item_value, octets_value, digit_bits_value, bits_value, text_value, utf8_value, arcs_value}
use Rattle.oer_notation.specs.Reading.{Known}
use Rattle.oer_same_names.specs.Meant.{IsMeant}
use Rattle.oer_same_tokens.specs.Same.{same_token, same_tokens}
use Rattle.oer_same_trees.specs.Says.{Keeps}
use Rattle.oer_same_trees.proofs.Placed.{Placed, none_placed, placed, spot}
use Rattle.oer_same_items.proofs.Whole.{IsWhole, from_zero, below_zero, integer_whole}
use Rattle.oer_same_items.specs.Laws.{HasItem}
use Rattle.oer_same_defaults.specs.Short.{tokens_len}
use Rattle.oer_same_defaults.proofs.Leaves.{Governs, enumerated_tree, leaf_governed, leaf_kind}
use Rattle.oer_same_defaults.proofs.Settled.{IsLiteral, settled}
use Rattle.oer_same_defaults.proofs.Tokens.{Reads, SayArcs, reads_arcs, reads_bits, reads_digits, reads_false, reads_name, reads_negative, reads_null, reads_number, reads_text, reads_true, words_len}

-- A value of the notation, its tokens, and the value that is read of these in a module. It is no name but that of an item.
pub data Stands : LeafType → AsnValue → List Spot → Value → Type 0 where
  stands_true : {at : ℕ} → Stands boolean (bool true) (spot at (token.word (codes "TRUE")) ∷ []) (atom at (fixed words.True))
  stands_false : {at : ℕ} → Stands boolean (bool false) (spot at (token.word (codes "FALSE")) ∷ []) (atom at (fixed words.False))
  stands_null : {at : ℕ} → Stands null nothing (spot at (token.word (codes "NULL")) ∷ []) (atom at (fixed words.Null))
  stands_number : {low high : Option ℤ} {z : ℤ} {ss : List Spot} {at : ℕ} {minus : Bool} {w : List ℕ} → IsWritten minus w z → FitsSigned w128 z
      → Stands (integer low high) (int z) ss (atom at (amount (number minus w)))
  stands_item : {items : List NamedNumber} {marker : Bool} {w : List ℕ} {z : ℤ} {at : ℕ} → IsItemNamed w z items
      → Stands (enumerated items marker) (enum z) (spot at (token.word w) ∷ []) (atom at (amount (named w [])))
  stands_octets : {size : Size} {w xs : List ℕ} {at : ℕ} → AreOctets (between_quotes w) xs
      → Stands (octet_string size) (octets xs) (spot at (token.digits w) ∷ []) (atom at (digits w))
  stands_digit_bits : {size : Size} {w : List ℕ} {s : List Bool} {at : ℕ} → AreBits (between_quotes w) s
      → Stands (bit_string size) (bit_list s) (spot at (token.digits w) ∷ []) (atom at (digits w))
  stands_bits : {size : Size} {w : List ℕ} {at : ℕ}
      → Stands (bit_string size) (bit_list (map is_one (between_quotes w))) (spot at (token.bits w) ∷ []) (atom at (bits w))
  stands_text : {letters : Alphabet} {size : Size} {w : List ℕ} {at : ℕ}
      → Stands (restricted_string letters size) (string (text_of w)) (spot at (token.text w) ∷ []) (atom at (text w))
  stands_utf8 : {size : Size} {w : List ℕ} {at : ℕ} → Stands (utf8_string size) (string (text_of w)) (spot at (token.text w) ∷ []) (atom at (text w))
  stands_arcs : {a b : ℕ} {arcs : List ℕ} {vs : List Value} {ss : List Spot} {at : ℕ} → SayArcs (a ∷ b ∷ arcs) vs → suc (words_len vs) ≤ tokens_len ss
      → Stands object_id (oid (a ∷ b ∷ arcs)) (spot at (token.sign OpenBrace) ∷ ss) (braces at (member (parts_from vs) no_members))

-- What is found of the tokens is what is found of such a value, by what governs it.
pub record Settles (ms : List Module) (ks : List Known) (t : Tree) (m : Meaning) (L : LeafType) (v : AsnValue) (ss : List Spot) : Type 0 where
  pub meant : IsMeant ks (leaf L) m
  pub governor : Governor
  pub governs : Governs L governor
  pub of_is : type_in governor.«module» governor.type ≡ m.of
  pub value : Value
  pub stands : Stands L v ss value
  pub is : (r : Room) → default_at ms (type_in 0 t) 0 ss r ≡ kind_at (value_at ms 31) ms (leaf_kind L)
      (record { of = type_in 0 t; governor = governor }) (record { place = place_of_first 0 ss; governor = governor; value = value }) r

-- Only a type that holds no other has values after DEFAULT.
abbrev pub SettlesAs : List Module → List Known → Tree → Meaning → AsnType → AsnValue → List Spot → Type 0
SettlesAs ms ks t m T v ss = (L : LeafType) × (T ≡ leaf L) × Settles ms ks t m L v ss

holds_none : (L : LeafType) → holds_others (leaf_kind L) ≡ false
holds_none boolean = refl
holds_none null = refl
holds_none (integer low high) = refl
holds_none (enumerated items marker) = refl
holds_none (bit_string size) = refl
holds_none (octet_string size) = refl
holds_none object_id = refl
holds_none (restricted_string letters size) = refl
holds_none (utf8_string size) = refl

module _ (there : HasItem) (ms : List Module) (ks : List Known) (t : Tree) (m : Meaning) (means : meaning ms (type_in 0 t) ≡ Ok m) where
  found_by : (L : LeafType) → IsMeant ks (leaf L) m → (ss : List Spot) (v : Value) (y : AsnValue) → Reads ss v → Stands L y ss v
      → ((g : Governor) → Governs L g → IsLiteral ms (type_in 0 t) g ss v) → SettlesAs ms ks t m (leaf L) y ss
  found_by L i ss v y h s n =
      let g = leaf_governed ms ks L t m means i in (
        L,
        refl,
        record {
          meant = i;
          governor = g.governor;
          governs = g.governs;
          of_is = g.of_is;
          value = v;
          stands = s;
          is = λ r. settled ms (type_in 0 t) g.governor ss v r g.is h (n g.governor g.governs) (leaf_kind L) g.governs.kind_is (holds_none L);
        },
      )

  -- of a value that is no name
  literal_by : (L : LeafType) → IsMeant ks (leaf L) m → (ss : List Spot) (v : Value) (y : AsnValue) → Reads ss v → name_in v ≡ None → Stands L y ss v
      → SettlesAs ms ks t m (leaf L) y ss
  literal_by L i ss v y h n s = found_by L i ss v y h s (λ g w. ap (reference_by ms (place_of_first 0 ss) g) n)

  number_by : {low high : Option ℤ} {z : ℤ} (us : List Token) → IsWhole z us → FitsSigned w128 z → IsMeant ks (leaf (integer low high)) m
      → (ss : List Spot) → Placed us ss → SettlesAs ms ks t m (leaf (integer low high)) (int z) ss
  number_by {low} {high} {z} _ (from_zero {w} n) fits i ss (placed at none_placed) =
      literal_by (integer low high) i ss (atom at (amount (number false w))) (int z) (reads_number at w) refl (stands_number n fits)
  number_by {low} {high} {z} _ (below_zero {w} n) fits i ss (placed at (placed by none_placed)) =
      literal_by (integer low high) i ss (atom at (amount (number true w))) (int z) (reads_negative at by w) refl (stands_number n fits)

  -- the name of an item is no reference
  item_literal : (items : List NamedNumber) (marker : Bool) (w : List ℕ) (z : ℤ) (ss : List Spot) (at : ℕ) → IsItemNamed w z items
      → (g : Governor) → Governs (enumerated items marker) g → IsLiteral ms (type_in 0 t) g ss (atom at (amount (named w [])))
  item_literal items marker w z ss at n g k =
      let e = enumerated_tree k.tree in
      let keeps = subst (λ l. Keeps e.behind l) (sym k.items_are) e.keeps in
      let told : is_own g w own ≡ Ok true = ap (λ k. is_own_of k g.«module» g.items w own) k.kind_is ∙ there items marker e.behind g.items e.spelt keeps w z n g.«module» in
      ap (λ b. b >>= λ b. cond b (Ok None) (valued ms (place_of_first 0 ss) g.kind w own >>= λ s. Ok (Some s))) told

  pub value_settles : {T : AsnType} {v : AsnValue} {ts : List notation.Token} → IsValue T v ts → IsMeant ks T m → (ss : List Spot)
      → Placed (same_tokens ts) ss → SettlesAs ms ks t m T v ss
  value_settles true_value i ss (placed at none_placed) =
      literal_by boolean i ss (atom at (fixed words.True)) (bool true) (reads_true at) refl stands_true
  value_settles false_value i ss (placed at none_placed) =
      literal_by boolean i ss (atom at (fixed words.False)) (bool false) (reads_false at) refl stands_false
  value_settles null_value i ss (placed at none_placed) =
      literal_by null i ss (atom at (fixed words.Null)) nothing (reads_null at) refl stands_null
  value_settles (number_value (an_integer {w} n e f)) i ss p =
      let same = same_token (notation.number w) in
      number_by same (integer_whole (an_integer {w = w} n e f)) f i ss (subst (λ l. Placed l ss) (append-nil same) p)
  value_settles (item_value {items} {marker} {w} {z} d n) i ss (placed at none_placed) =
      found_by (enumerated items marker) i ss (atom at (amount (named w []))) (enum z) (reads_name at d) (stands_item n) (item_literal items marker w z ss at n)
  value_settles (octets_value {size} {w} {xs} a) i ss (placed at none_placed) =
      literal_by (octet_string size) i ss (atom at (digits w)) (octets xs) (reads_digits at w) refl (stands_octets a)
  value_settles (digit_bits_value {size} {w} {s} a) i ss (placed at none_placed) =
      literal_by (bit_string size) i ss (atom at (digits w)) (bit_list s) (reads_digits at w) refl (stands_digit_bits a)
  value_settles (bits_value {size} {w}) i ss (placed at none_placed) =
      literal_by (bit_string size) i ss (atom at (bits w)) (bit_list (map is_one (between_quotes w))) (reads_bits at w) refl stands_bits
  value_settles (text_value {letters} {size} {w}) i ss (placed at none_placed) =
      literal_by (restricted_string letters size) i ss (atom at (text w)) (string (text_of w)) (reads_text at w) refl stands_text
  value_settles (utf8_value {size} {w}) i ss (placed at none_placed) =
      literal_by (utf8_string size) i ss (atom at (text w)) (string (text_of w)) (reads_text at w) refl stands_utf8
  value_settles (arcs_value {a} {b} {arcs} d) i _ (placed {ss} at p) =
      let q = reads_arcs (a ∷ b ∷ arcs) d (omega arith) at ss p in
      literal_by object_id i _ (braces at (member (parts_from q.parts) no_members)) (oid (a ∷ b ∷ arcs)) q.is refl (stands_arcs q.says q.fits)
