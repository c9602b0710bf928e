-- A type that holds no other is one of our types.
use Rattle.std.proofs.Common.{◌≡◌, ℕ, pos, List, Option, Some, None, option_map, refl, sym, ap, ap₂, subst, ◌∙◌}
use Rattle.oer_model.specs.AsnType.{AsnType, bit_string, enumerated, integer}
use Rattle.oer_model.specs.declared.size.Size.{Size}
use Rattle.oer_module_bounds.specs.Sets.{Span}
use Rattle.oer_module_limits.specs.Sets.{number, size}
use Rattle.oer_module_syntax.specs.Tree.{Module, plain}
use Rattle.oer_module_syntax.specs.declared.word.Builtin.{Builtin}
use Rattle.oer_module_syntax.specs.declared.word.Builtin.TheVariants as bi
use Rattle.oer_module_values.specs.Types.{Given, TypeIn, type_in}
use Rattle.oer_meant_leaves.specs.Laws.{LeavesAreSole}
use Rattle.oer_meant_leaves.specs.Leaves.{IsSize, IsString, ia5_string, is_bit_string, is_boolean, is_enumerated, is_integer}
use Rattle.oer_meant_leaves.specs.Leaves.{is_null, is_object_id, is_string, iso646_string, numeric_string, octets, printable_string, utf8}
use Rattle.oer_meant_leaves.specs.Leaves.{visible_string}
use Rattle.oer_meant_leaves.specs.Ranges.{IsRange}
use Rattle.oer_meant_leaves.proofs.SoleItems.{items_sole}
use Rattle.oer_meant_leaves.proofs.SoleRanges.{range_sole}

-- ---- sizes

pos_same : (j k : ℕ) → pos j ≡ pos k → j ≡ k
pos_same j k h = cc

high_same : (o p : Option ℕ) → option_map pos o ≡ option_map pos p → o ≡ p
high_same None None h = refl
high_same None (Some k) h = absurd (cc)
high_same (Some j) None h = absurd (cc)
high_same (Some j) (Some k) h = let same : pos j ≡ pos k = cc in ap Some (pos_same j k same)

size_same : (s t : Size) → s.low ≡ t.low → s.high ≡ t.high → s ≡ t
size_same s t e f = ap₂ {C = Size} (λ l h. record { low = l; high = h }) e f

size_sole : (r : Span) (s t : Size) → IsSize r s → IsSize r t → s ≡ t
size_sole r s t h j = size_same s t (pos_same s.low t.low (sym h.0 ∙ j.0)) (high_same s.high t.high (h.1 ∙ sym j.1))

-- ---- strings

string_sole : (b : Builtin) (s : Size) (T U : AsnType) → IsString b s T → IsString b s U → T ≡ U
string_sole _ _ _ _ (octets s) (octets _) = refl
string_sole _ _ _ _ (ia5_string s) (ia5_string _) = refl
string_sole _ _ _ _ (visible_string s) (visible_string _) = refl
string_sole _ _ _ _ (iso646_string s) (iso646_string _) = refl
string_sole _ _ _ _ (numeric_string s) (numeric_string _) = refl
string_sole _ _ _ _ (printable_string s) (printable_string _) = refl
string_sole _ _ _ _ (utf8 s) (utf8 _) = refl

-- no string has one of the other words
no_boolean : (s : Size) (T : AsnType) → IsString bi.Boolean s T → ⊥
no_boolean s T h = elim h [ ]

no_null : (s : Size) (T : AsnType) → IsString bi.Null s T → ⊥
no_null s T h = elim h [ ]

no_object_id : (s : Size) (T : AsnType) → IsString bi.ObjectIdentifier s T → ⊥
no_object_id s T h = elim h [ ]

no_integer : (s : Size) (T : AsnType) → IsString bi.Integer s T → ⊥
no_integer s T h = elim h [ ]

no_enumerated : (s : Size) (T : AsnType) → IsString bi.Enumerated s T → ⊥
no_enumerated s T h = elim h [ ]

no_bits : (s : Size) (T : AsnType) → IsString bi.BitString s T → ⊥
no_bits s T h = elim h [ ]

-- ---- types

module _ (ms : List Module) (u : TypeIn) (gs : List Given) where
  sized_sole : (q r : Span) (s t : Size) → IsRange ms size u gs q → IsRange ms size u gs r → IsSize q s → IsSize r t → s ≡ t
  sized_sole q r s t h j is other =
      size_sole r s t (subst (λ x. IsSize x s) (range_sole ms size u gs q r h j) is) other

  sized_string : (b : Builtin) (q r : Span) (s t : Size) (T U : AsnType) → IsRange ms size u gs q → IsRange ms size u gs r
      → IsSize q s → IsSize r t → IsString b s T → IsString b t U → T ≡ U
  sized_string b q r s t T U h j is other string word =
      string_sole b t T U (subst (λ z. IsString b z T) (sized_sole q r s t h j is other) string) word

pub leaf_sole : LeavesAreSole
leaf_sole ms _ _ _ _ (is_boolean m at items ts gs) (is_boolean _ _ _ _ _) = refl
leaf_sole ms _ _ _ _ (is_null m at items ts gs) (is_null _ _ _ _ _) = refl
leaf_sole ms _ _ _ _ (is_object_id m at items ts gs) (is_object_id _ _ _ _ _) = refl
leaf_sole ms _ _ _ _ (is_integer m at items ts gs r h) (is_integer _ _ _ _ _ s j) =
    ap (λ x. integer x.low x.high) (range_sole ms (number None) (type_in m (plain at bi.Integer items ts)) gs r s h j)
leaf_sole ms _ _ _ _ (is_enumerated m at items ts gs is a h) (is_enumerated _ _ _ _ _ js b j) =
    let e = items_sole ms m at items is js a b h j in ap₂ (λ l b. enumerated l b) e.0 e.1
leaf_sole ms _ _ _ _ (is_bit_string m at items ts gs q s h is o) (is_bit_string _ _ _ _ _ r t j other p) =
    ap (λ z. bit_string z) (sized_sole ms (type_in m (plain at bi.BitString items ts)) gs q r s t h j is other)
leaf_sole ms _ _ _ _ (is_string m at b items ts gs q s T h is word) (is_string _ _ _ _ _ _ r t U j other same) =
    sized_string ms (type_in m (plain at b items ts)) gs b q r s t T U h j is other word same
leaf_sole ms _ _ _ _ (is_boolean m at items ts gs) (is_string _ _ _ _ _ _ r t U j other same) = absurd (no_boolean t U same)
leaf_sole ms _ _ _ _ (is_null m at items ts gs) (is_string _ _ _ _ _ _ r t U j other same) = absurd (no_null t U same)
leaf_sole ms _ _ _ _ (is_object_id m at items ts gs) (is_string _ _ _ _ _ _ r t U j other same) = absurd (no_object_id t U same)
leaf_sole ms _ _ _ _ (is_integer m at items ts gs r h) (is_string _ _ _ _ _ _ q t U j other same) = absurd (no_integer t U same)
leaf_sole ms _ _ _ _ (is_enumerated m at items ts gs is a h) (is_string _ _ _ _ _ _ r t U j other same) = absurd (no_enumerated t U same)
leaf_sole ms _ _ _ _ (is_bit_string m at items ts gs q s h is o) (is_string _ _ _ _ _ _ r t U j other same) = absurd (no_bits t U same)
leaf_sole ms _ _ _ _ (is_string m at _ items ts gs q s T h is word) (is_boolean _ _ _ _ _) = absurd (no_boolean s T word)
leaf_sole ms _ _ _ _ (is_string m at _ items ts gs q s T h is word) (is_null _ _ _ _ _) = absurd (no_null s T word)
leaf_sole ms _ _ _ _ (is_string m at _ items ts gs q s T h is word) (is_object_id _ _ _ _ _) = absurd (no_object_id s T word)
leaf_sole ms _ _ _ _ (is_string m at _ items ts gs q s T h is word) (is_integer _ _ _ _ _ r j) = absurd (no_integer s T word)
leaf_sole ms _ _ _ _ (is_string m at _ items ts gs q s T h is word) (is_enumerated _ _ _ _ _ js b j) = absurd (no_enumerated s T word)
leaf_sole ms _ _ _ _ (is_string m at _ items ts gs q s T h is word) (is_bit_string _ _ _ _ _ r t j other p) = absurd (no_bits s T word)
