-- A type that holds no other has in a module the bounds, sizes and items that it has in the notation.
use Rattle.std.proofs.Common.{◌≡◌, ◌∙◌, ◌^◌, ◌<◌, ℕ, ℤ, pos, List, [], ◌∷◌, Bool, true, false, not, ◌&&◌, Option, Some, None, Ok, Err, is_none, inl, inr, refl, sym, ap, subst, arith}
use Rattle.std.specs.Prelude.{int_lt, nat_lt, option_and_then, option_map}
use Rattle.std.proofs.lemmas.Bool.{lt-ltb}
use Rattle.std.proofs.lemmas.Int.{ints}
use Rattle.oer_lexer.specs.Token.{Token}
use Rattle.oer_lexer.specs.declared.leaf.LeafWord.{LeafWord}
use Rattle.oer_lexer.specs.declared.leaf.LeafWord.TheVariants as leaf_word
use Rattle.oer_model.specs.AsnType.{AsnType, leaf, integer}
use Rattle.oer_model.specs.LeafType.{LeafType}
use Rattle.oer_model.specs.Widths.{HasSizeWidths}
use Rattle.oer_model.specs.declared.size.Size.{Size}
use Rattle.oer_module_bounds.specs.Sets.{Span}
use Rattle.oer_module_leaves.specs.Leaves.{bits_by, counted_at, is_implied, leaf_at, plain_at, sizes_at}
use Rattle.oer_module_leaves.specs.Shapes.{counted_type, size_at, unless_wide}
use Rattle.oer_module_leaves.specs.Texts.{Sizes, fixed, long, low_end, size_above, size_of, sizes_within}
use Rattle.oer_module_leaves.specs.declared.shape.Counted.{Counted}
use Rattle.oer_module_leaves.specs.declared.shape.Counted.TheVariants.{Bits, Octets, Ia5, Visible, Numeric, Printable, Utf8}
use Rattle.oer_module_lexer.specs.Token.{Spot}
use Rattle.oer_module_limits.specs.Errors as limits
use Rattle.oer_module_limits.specs.Errors.{Read as LimitedRead, Why as LimitedWhy}
use Rattle.oer_module_limits.specs.Limits.{integer_range, size_range}
use Rattle.oer_module_limits.specs.Sets.{has_size}
use Rattle.oer_module_limits.specs.Written.{all_given_none}
use Rattle.oer_module_names.specs.declared.error.Place.{Place}
use Rattle.oer_module_syntax.specs.Modules.{none_left}
use Rattle.oer_module_syntax.specs.Tree.{Module, Tree, plain}
use Rattle.oer_module_syntax.specs.declared.word.Builtin.TheVariants as bi
use Rattle.oer_module_text.specs.Errors.{from_limits, limited_by, place_in, ◌>>=◌}
use Rattle.oer_module_text.specs.Room.{Room}
use Rattle.oer_module_values.specs.Types.{Given, Meaning, TypeIn, constraints, set}
use Rattle.oer_notation.specs.Grammar.{AreBounds, IsBracketedSize, IsLeaf, nothing_behind, bounds_behind, items_behind, size_behind}
use Rattle.oer_notation.specs.Reading.{Known}
use Rattle.oer_same_bounds.specs.Bounds.{AreRejected, IsRange, ReadsRange, ReadsSize, any, ends, standing}
use Rattle.oer_same_bounds.specs.Laws.{SameRange, SameSizes}
use Rattle.oer_same_items.proofs.Telling.{Gives, bind, choose, unless}
use Rattle.oer_same_items.specs.Laws.{SameEnumerated}
use Rattle.oer_same_items.specs.Told.{IsLimit}
use Rattle.oer_same_names.specs.Home.{IsBare}
use Rattle.oer_same_names.specs.Meant.{IsBuilt}
use Rattle.oer_same_trees.specs.Says.{Keeps, Says, builtin, constraints_in, items_in, says_leaf, says_name}
use Rattle.oer_value_notation.specs.Leaves.{leaf_form}
use Rattle.oer_same_types.proofs.Ordinary.{EndsFit, OrdinarySize, OrdinaryTree, integer_ends, size_ends}
use Rattle.oer_same_types.proofs.Types.{LeavesSay}

-- what is told of limits is told of the type
rejected_limit : (o : Bool) (low high : Option ℤ) (w : LimitedWhy) → AreRejected low high w → (o ≡ true → EndsFit low high) → IsLimit o (from_limits w)
rejected_limit o low high limits.too_large h fit = unless o (λ on. let none = (fit on).0 in absurd (cc))
rejected_limit o low high limits.empty h fit = unless o (λ on. let none = (fit on).1 in absurd (cc))
rejected_limit o low high w h fit = absurd h

range_told : (o : Bool) (low high : Option ℤ) (r : LimitedRead Span) → ReadsRange low high r → (o ≡ true → EndsFit low high)
    → Gives o (λ s. s ≡ record { low = low; high = high }) (limited_by r)
range_told o low high (Ok s) h fit = record { given = h }
range_told o low high (Err e) h fit = record { given = rejected_limit o low high e.why h fit }

size_told : (o : Bool) (size : Size) (r : LimitedRead Span) → ReadsSize size r → (o ≡ true → OrdinarySize size) → Gives o (IsRange size) (limited_by r)
size_told o size (Ok s) h fit = record { given = h }
size_told o size (Err e) h fit =
    record { given = rejected_limit o (Some (pos size.low)) (option_map pos size.high) e.why h (λ on. size_ends size (fit on)) }

none_given : (gs : List Given) → IsBare gs → all_given_none gs ≡ true
none_given [] h = refl
none_given (constraints m cs ∷ gs) h = rw (h.0, none_given gs h.1) refl
none_given (set m ts ∷ gs) h = absurd h

no_items : (items : List Spot) → Keeps [] items → items ≡ []
no_items [] h = refl
no_items (s ∷ ss) h = absurd (cc)

-- ---- the size that is made of a range

long_by : (n k : ℕ) (b : Bool) → nat_lt n (2 ^ 64) ≡ b → long (pos n) ≡ Some k → k ≡ n
long_by n k true e h = let told : Some n ≡ Some k = rw e at h in cc
long_by n k false e h = let told = rw e at h in absurd (cc)

low_by : (n : ℕ) (b : Bool) → int_lt (pos 0) (pos n) ≡ b → low_end (Some (pos n)) ≡ pos n
low_by n true e = rw e refl
low_by n false e = let none : n ≡ 0 = omega (arith, ints) in rw none refl

-- a size is made of its ends, where 64 bits hold both
open_parts : (low : Option ℕ) (y : Size) → option_and_then (size_above None) low ≡ Some y → (Some y.low ≡ low) × (y.high ≡ None)
open_parts None y h = absurd (cc)
open_parts (Some n) y h = let e : record { low = n; high = None } ≡ y = cc in rw (sym e) (refl, refl)

closed_parts : (low high : Option ℕ) (y : Size) → option_and_then (λ l. option_map (λ n. record { low = l; high = Some n }) high) low ≡ Some y
    → (Some y.low ≡ low) × (y.high ≡ high)
closed_parts None high y h = absurd (cc)
closed_parts (Some n) None y h = absurd (cc)
closed_parts (Some n) (Some m) y h = let e : record { low = n; high = Some m } ≡ y = cc in rw (sym e) (refl, refl)

is_long : (n k : ℕ) → long (pos n) ≡ Some k → k ≡ n
is_long n k h = long_by n k (nat_lt n (2 ^ 64)) refl h

low_is : (n : ℕ) → low_end (Some (pos n)) ≡ pos n
low_is n = low_by n (int_lt (pos 0) (pos n)) refl

size_is : (low : ℕ) (high : Option ℕ) (y : Size) → y.low ≡ low → y.high ≡ high → y ≡ record { low = low; high = high }
size_is low high y l h = rw (sym l, sym h) refl

high_is : (n : ℕ) (k : Option ℕ) → k ≡ long (pos n) → (m : ℕ) → k ≡ Some m → k ≡ Some n
high_is n k e m h = h ∙ ap (λ v. Some v) (is_long n m (sym e ∙ h))

some_end : (low high : Option ℕ) (y : Size) → option_and_then (λ l. option_map (λ n. record { low = l; high = Some n }) high) low ≡ Some y
    → (m : ℕ) × (high ≡ Some m)
some_end None high y h = absurd (cc)
some_end (Some n) None y h = absurd (cc)
some_end (Some n) (Some m) y h = (m, refl)

size_only : {size : Size} {r : Span} → IsRange size r → (y : Size) → size_of (sizes_within r) ≡ Some y → y ≡ size
size_only any y h = let e : record { low = 0; high = None } ≡ y = cc in sym e
size_only (ends {low} {high = None}) y h =
    let told : option_and_then (size_above None) (long (pos low)) ≡ Some y = rw (low_is low) at h in
    let parts = open_parts (long (pos low)) y told in
    size_is low None y (is_long low y.low (sym parts.0)) parts.1
size_only (ends {low} {high = Some n}) y h =
    let told : option_and_then (size_above (Some (pos n))) (long (pos low)) ≡ Some y = rw (low_is low) at h in
    let parts = closed_parts (long (pos low)) (long (pos n)) y told in
    let upper = some_end (long (pos low)) (long (pos n)) y told in
    size_is low (Some n) y (is_long low y.low (sym parts.0)) (parts.1 ∙ high_is n (long (pos n)) refl upper.0 upper.1)

-- where 64 bits hold its ends, the size is made of its range
long_fits : (n : ℕ) → n < 2 ^ 64 → long (pos n) ≡ Some n
long_fits n h = rw (lt-ltb n (2 ^ 64) h) refl

size_there : {size : Size} {r : Span} → IsRange size r → HasSizeWidths size → size_of (sizes_within r) ≡ Some size
size_there any h = refl
size_there (ends {low} {high = None}) h = rw (low_is low, long_fits low h.0) refl
size_there (ends {low} {high = Some n}) h = rw (low_is low, long_fits low h.0, long_fits n h.1) refl

-- ---- what is read of sizes

-- the sizes make this size, or none; and this, if it is ordinary
abbrev Make : Bool → Size → Sizes → Type 0
Make o size s = ((y : Size) → size_of s ≡ Some y → y ≡ size) × (o ≡ true → size_of s ≡ Some size)

wide_told : (o : Bool) (p : Place) (n : Option Size) → (o ≡ true → (s : Size) × (n ≡ Some s)) → Gives o (λ y. n ≡ Some y) (unless_wide p n)
wide_told o p None h = record { given = unless o (λ on. let e = (h on).1 in absurd (cc)) }
wide_told o p (Some s) h = record { given = refl }

module _ (o : Bool) (ms : List Module) (size : Size) (fits : o ≡ true → OrdinarySize size) where
  sizes_make : (p : Place) (m : Meaning) → ReadsSize size (size_range ms p m) → Gives o (Make o size) (sizes_at ms p m)
  sizes_make p m reads = bind (IsRange size) (Make o size) (limited_by (size_range ms p m)) _ (size_told o size (size_range ms p m) reads fits) (λ s is.
      record { given = (size_only is, λ on. size_there is (fits on).1) })

  counted_made : (c : Counted) (q : Place) (r : Room) (s : Sizes) → Make o size s → Gives o (λ (x : AsnType × Room). x.0 ≡ counted_type c size) (counted_at q c r s)
  counted_made c q r s make = bind _ _ (size_at q s) _ (wide_told o q (size_of s) (λ on. (size, make.1 on))) (λ y is.
      record { given = ap (counted_type c) (make.0 y is) })

  counted_same : (c : Counted) (p : Place) (m : Meaning) (q : Place) (r : Room) → ReadsSize size (size_range ms p m)
      → Gives o (λ (x : AsnType × Room). x.0 ≡ counted_type c size) (sizes_at ms p m >>= counted_at q c r)
  counted_same c p m q r reads = bind (Make o size) _ (sizes_at ms p m) _ (sizes_make p m reads) (λ s make. counted_made c q r s make)

  bits_same : (p : Place) (m : Meaning) (q : Place) (ts : List Spot) (r : Room) → none_left ts ≡ true → ReadsSize size (size_range ms p m)
      → Gives o (λ (x : AsnType × Room). x.0 ≡ counted_type Bits size) (sizes_at ms p m >>= bits_by ms q ts r)
  bits_same p m q ts r none reads = bind (Make o size) _ (sizes_at ms p m) _ (sizes_make p m reads) (λ s make.
      choose _ (not (none_left ts) && is_none (fixed s)) _ _ (λ named. absurd (unnamed (none_left ts) (is_none (fixed s)) none named))
      (λ plain. counted_made Bits q r s make)) where
        unnamed : (a b : Bool) → a ≡ true → (not a && b) ≡ true → ⊥
        unnamed true b h e = absurd (cc)
        unnamed false b h e = absurd (cc)

-- ---- each word

module _ (o : Bool) (same_range : SameRange) (same_sizes : SameSizes) (same_enumerated : SameEnumerated) (ms : List Module) (gs : List Given)
    (bare : all_given_none gs ≡ true) (at : ℕ) (p : Place) (r : Room) (unimplied : is_implied ms 0 ≡ false) where
  abbrev q : Place
  q = place_in 0 at

  abbrev IsOf : LeafType → AsnType × Room → Type 0
  IsOf L x = x.0 ≡ leaf L

  -- a type whose values SIZE counts has its size
  has : (k : LeafWord) {size : Size} {ts : List Token} (items cs : List Spot) → has_size (builtin k) ≡ true → IsBracketedSize size ts → Keeps [] items → Keeps ts cs
      → ReadsSize size (size_range ms p (standing 0 (plain at (builtin k) items cs) gs))
  has k {size} {ts} items cs sized is none keeps =
      subst (λ (items : List Spot). ReadsSize size (size_range ms p (standing 0 (plain at (builtin k) items cs) gs))) (sym (no_items items none))
      (same_sizes ms 0 at p gs (builtin k) size ts cs bare is keeps sized)

  range_same : {low high : Option ℤ} {ts : List Token} (items cs : List Spot) → AreBounds low high ts → Keeps [] items → Keeps ts cs
      → ReadsRange low high (integer_range ms p (standing 0 (plain at bi.Integer items cs) gs))
  range_same {low} {high} {ts} items cs is none keeps =
      subst (λ (items : List Spot). ReadsRange low high (integer_range ms p (standing 0 (plain at bi.Integer items cs) gs))) (sym (no_items items none))
      (same_range ms 0 at p gs low high ts cs bare is keeps)

  abbrev Fits : LeafType → Tree → Type 0
  Fits L t = o ≡ true → OrdinaryTree ms (leaf L) t

  word_same : (k : LeafWord) {L : LeafType} {ts : List Token} (items cs : List Spot) → IsLeaf (leaf_form k) L ts
      → Keeps (items_in (leaf_form k) ts) items → Keeps (constraints_in (leaf_form k) ts) cs → Fits L (plain at (builtin k) items cs)
      → Gives o (IsOf L) (plain_at ms p (standing 0 (plain at (builtin k) items cs) gs) q (builtin k) items r)
  word_same leaf_word.Boolean items cs nothing_behind i c fits = record { given = refl }
  word_same leaf_word.Null items cs nothing_behind i c fits = record { given = refl }
  word_same leaf_word.ObjectIdentifier items cs nothing_behind i c fits = record { given = refl }
  word_same leaf_word.Integer items cs (bounds_behind {low} {high} b) i c fits =
      bind _ _ (limited_by (integer_range ms p (standing 0 (plain at bi.Integer items cs) gs))) _
      (range_told o low high (integer_range ms p (standing 0 (plain at bi.Integer items cs) gs)) (range_same items cs b i c)
      (λ on. integer_ends low high (fits on).0)) (λ s e. record { given = ap (λ (s : Span). integer s.low s.high) e })
  word_same leaf_word.Enumerated items cs (items_behind {marker} {items = is} a) i c fits = record {
    given = same_enumerated o is marker _ items (items_behind a) i ms q (λ on. let f = fits on in record { written = f.2; widths = f.1 }) r unimplied;
  }
  word_same leaf_word.BitString items cs (size_behind {size} s) i c fits =
      bits_same o ms size (λ on. ((λ x. (fits on).0 (inr (inl x))), (fits on).1)) p _ q items r (ap none_left (no_items items i))
      (has leaf_word.BitString items cs refl s i c)
  word_same leaf_word.OctetString items cs (size_behind {size} s) i c fits =
      counted_same o ms size (λ on. ((λ x. (fits on).0 (inr (inl x))), (fits on).1)) Octets p _ q r (has leaf_word.OctetString items cs refl s i c)
  word_same leaf_word.Ia5String items cs (size_behind {size} s) i c fits =
      counted_same o ms size (λ on. ((λ x. (fits on).0 (inr (inl x))), (fits on).1)) Ia5 p _ q r (has leaf_word.Ia5String items cs refl s i c)
  word_same leaf_word.VisibleString items cs (size_behind {size} s) i c fits =
      counted_same o ms size (λ on. ((λ x. (fits on).0 (inr (inl x))), (fits on).1)) Visible p _ q r (has leaf_word.VisibleString items cs refl s i c)
  word_same leaf_word.NumericString items cs (size_behind {size} s) i c fits =
      counted_same o ms size (λ on. ((λ x. (fits on).0 (inr (inl x))), (fits on).1)) Numeric p _ q r (has leaf_word.NumericString items cs refl s i c)
  word_same leaf_word.PrintableString items cs (size_behind {size} s) i c fits =
      counted_same o ms size (λ on. ((λ x. (fits on).0 (inr (inl x))), (fits on).1)) Printable p _ q r (has leaf_word.PrintableString items cs refl s i c)
  word_same leaf_word.Utf8String items cs (size_behind {size} s) i c fits =
      counted_same o ms size (λ on. ((λ x. (fits on).0 (inr (inl x))), (fits on).1)) Utf8 p _ q r (has leaf_word.Utf8String items cs refl s i c)

-- ---- each leaf

module _ (o : Bool) (same_range : SameRange) (same_sizes : SameSizes) (same_enumerated : SameEnumerated) (ms : List Module)
    (unimplied : is_implied ms 0 ≡ false) where
  leaf_said : {known : List Known} {L : LeafType} {t : Tree} → Says known (leaf L) t → IsBuilt t → (p : Place) (gs : List Given) (r : Room)
      → all_given_none gs ≡ true → (o ≡ true → OrdinaryTree ms (leaf L) t)
      → Gives o (λ (x : AsnType × Room). x.0 ≡ leaf L) (leaf_at ms p (standing 0 t gs) r)
  unfolding leaf_at
  leaf_said (says_leaf {at} k {L} {ts} {items} {constraints} l i c) built p gs r bare fits =
      bind (λ (x : AsnType × Room). x.0 ≡ leaf L) _ _ _
      (word_same o same_range same_sizes same_enumerated ms gs bare at p r unimplied k items constraints l i c fits) (λ x is. record { given = is })
  leaf_said (says_name n d) built p gs r bare fits = absurd built

  pub leaves_said : (ks : List Known) → LeavesSay o ms ks
  leaves_said ks known L t p m r front says built of bare fits =
      let is : standing 0 t m.given ≡ m = ap (λ (o : TypeIn). record { of = o; given = m.given }) (sym of) in
      subst (λ (m : Meaning). Gives o (λ (x : AsnType × Room). x.0 ≡ leaf L) (leaf_at ms p m r)) is
      (leaf_said says built p m.given r (none_given m.given bare) fits)
