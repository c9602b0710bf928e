-- A type that holds no other takes no part more than its items, of an ENUMERATED, and is written with few octets.
use Rattle.std.proofs.Common.{◌≡◌, ◌∙◌, ◌≤◌, ◌+◌, ◌==◌, ◌++◌, ℕ, suc, ℤ, pos, List, [], ◌∷◌, map, Bool, true, false, not, ◌&&◌, if◌then◌else◌, Option, Some, None, Ok, Err, is_none, is_some, refl, sym, ap, subst, arith}
use Rattle.std.specs.Prelude.{codes, length, option_and_then, option_map}
use Rattle.std.specs.Fmt.{signed_decimal}
use Rattle.std.specs.Ordering.{int_eq}
use Rattle.std.proofs.lemmas.List.{length-append, length-map}
use Rattle.oer_lexer.specs.Token.{Token}
use Rattle.oer_lexer.specs.declared.leaf.LeafWord.{LeafWord}
use Rattle.oer_lexer.specs.declared.leaf.LeafWord.TheVariants as leaf_word
use Rattle.oer_model.specs.AsnType.{AsnType, NamedNumber, leaf}
use Rattle.oer_model.specs.LeafType.{LeafType, enumerated}
use Rattle.oer_model.specs.Nodes.{leaf_nodes}
use Rattle.oer_model.specs.Widths.{HasBoundWidth, HasWidths}
use Rattle.oer_model.specs.declared.size.Size.{Size}
use Rattle.oer_module_bounds.specs.Sets.{Span}
use Rattle.oer_module_leaves.specs.Comments.{checked_of, is_quiet, unchecked_at}
use Rattle.oer_module_leaves.specs.Leaves.{bits_at, counted_at, enumerated_at, integer_at, leaf_at, leaf_by, plain_at, sized_at, sizes_at}
use Rattle.oer_module_leaves.specs.Shapes.{size_at, unless_wide, words}
use Rattle.oer_module_leaves.specs.Texts.{Sizes, fixed, long, put_size, range_text, size_above, size_of, size_text}
use Rattle.oer_module_leaves.specs.declared.comment.Checked.{Checked}
use Rattle.oer_module_leaves.specs.declared.shape.Counted.{Counted}
use Rattle.oer_module_leaves.specs.declared.shape.Counted.TheVariants.{Bits, Octets, Ia5, Visible, Numeric, Printable, Utf8}
use Rattle.oer_module_lexer.specs.Token.{Spot}
use Rattle.oer_module_limits.specs.Limits.{integer_range, size_range}
use Rattle.oer_module_limits.specs.Written.{Written, written}
use Rattle.oer_module_names.specs.declared.error.Place.{Place}
use Rattle.oer_module_syntax.specs.Modules.{none_left}
use Rattle.oer_module_syntax.specs.Tree.{Module, Tree}
use Rattle.oer_module_text.specs.Errors.{Read, limited_by, place_in}
use Rattle.oer_module_text.specs.Room.{Room, put}
use Rattle.oer_module_values.specs.Types.{Meaning, TypeIn, type_in}
use Rattle.oer_notation.specs.Grammar.{IsLeaf, nothing_behind, bounds_behind, size_behind}
use Rattle.oer_notation.specs.Reading.{Known}
use Rattle.oer_same_items.proofs.Telling as same
use Rattle.oer_same_items.specs.Laws.{SameItems}
use Rattle.oer_same_names.specs.Home.{IsBare, IsFront}
use Rattle.oer_same_names.specs.Meant.{IsBuilt}
use Rattle.oer_same_trees.specs.Says.{Keeps, Says, builtin, items_in, says_leaf, says_name}
use Rattle.oer_same_types.proofs.Types.{LeavesSay}
use Rattle.oer_value_notation.specs.Leaves.{leaf_form}
use Rattle.oer_same_limits.proofs.Digits.{size_digits, wide_digits}
use Rattle.oer_same_limits.proofs.Listed.{enumerated_takes}
use Rattle.oer_same_limits.proofs.Quiet.{leaf_quiet}
use Rattle.oer_same_limits.proofs.Room.{Adds, Fills, Goes, Stays, adds_held, adds_less, adds_then, held, limited, put_adds}
use Rattle.oer_same_limits.proofs.Telling.{bind, choose, weaken}
use Rattle.oer_same_limits.specs.Short.{AreShortTokens, IsShort}

-- ---- the text of ranges and sizes

range_len : (low high : Option ℤ) → HasBoundWidth low → HasBoundWidth high → length (range_text low high) ≤ 85
range_len None None l h = omega arith
range_len None (Some high) l h =
    let few = wide_digits high h in
    let all = length-append (signed_decimal high) (codes ")") in
    omega (arith, few, all)
range_len (Some low) None l h =
    let few = wide_digits low l in
    let all = length-append (signed_decimal low) (codes "..MAX)") in
    omega (arith, few, all)
range_len (Some low) (Some high) l h = by (int_eq low high) where
  few_low : length (signed_decimal low) ≤ 40
  few_low = wide_digits low l

  few_high : length (signed_decimal high) ≤ 40
  few_high = wide_digits high h

  by : (b : Bool) → length (if b then codes " (" ++ (signed_decimal low ++ codes ")") else codes " (" ++ (signed_decimal low ++ (codes ".." ++ (signed_decimal high ++ codes ")")))) ≤ 85
  by true = let all = length-append (signed_decimal low) (codes ")") in omega (arith, few_low, all)
  by false =
      let first = length-append (signed_decimal high) (codes ")") in
      let all = length-append (signed_decimal low) (codes ".." ++ (signed_decimal high ++ codes ")")) in
      omega (arith, few_low, few_high, first, all)

-- the ends of a size that 64 bits hold
record HasFewDigits (low : ℤ) (high : Option ℤ) : Type 0 where
  of_low : length (signed_decimal low) ≤ 20
  of_high : (h : ℤ) → high ≡ Some h → length (signed_decimal h) ≤ 20

ends_digits : (low : ℤ) (high : Option ℤ) (y : Size) → size_of (record { low = low; high = high }) ≡ Some y → HasFewDigits low high
ends_digits low high y e = by_low (long low) refl e where
  by_high : (h : ℤ) (k : ℕ) (o : Option ℕ) → long h ≡ o → option_map (λ n. record { low = k; high = Some n }) o ≡ Some y → length (signed_decimal h) ≤ 20
  by_high h k None e is = absurd (cc)
  by_high h k (Some n) e is = size_digits h n e

  high_digits : (high : Option ℤ) (k : ℕ) → size_above high k ≡ Some y → (h : ℤ) → high ≡ Some h → length (signed_decimal h) ≤ 20
  high_digits None k is h e = absurd (cc)
  high_digits (Some g) k is h e = let same : g ≡ h = cc in subst (λ (z : ℤ). length (signed_decimal z) ≤ 20) same (by_high g k (long g) refl is)

  by_low : (o : Option ℕ) → long low ≡ o → option_and_then (size_above high) o ≡ Some y → HasFewDigits low high
  by_low None e is = absurd (cc)
  by_low (Some k) e is = record { of_low = size_digits low k e; of_high = high_digits high k is }

size_len : (low : ℤ) (high : Option ℤ) → HasFewDigits low high → length (size_text low high) ≤ 51
size_len low None h = by (int_eq low (pos 0)) where
  by : (b : Bool) → length (if b then [] else codes " (SIZE(" ++ (signed_decimal low ++ codes "..MAX))")) ≤ 51
  by true = omega arith
  by false =
      let few = h.of_low in
      let all = length-append (signed_decimal low) (codes "..MAX))") in
      omega (arith, few, all)
size_len low (Some high) h = by (int_eq low high) where
  few_low : length (signed_decimal low) ≤ 20
  few_low = h.of_low

  few_high : length (signed_decimal high) ≤ 20
  few_high = h.of_high high refl

  by : (b : Bool) → length (if b then codes " (SIZE(" ++ (signed_decimal low ++ codes "))")
      else codes " (SIZE(" ++ (signed_decimal low ++ (codes ".." ++ (signed_decimal high ++ codes "))")))) ≤ 51
  by true = let all = length-append (signed_decimal low) (codes "))") in omega (arith, few_low, all)
  by false =
      let first = length-append (signed_decimal high) (codes "))") in
      let all = length-append (signed_decimal low) (codes ".." ++ (signed_decimal high ++ codes "))")) in
      omega (arith, few_low, few_high, first, all)

words_few : (c : Counted) → length (words c) ≤ 15
words_few Bits = omega arith
words_few Octets = omega arith
words_few Ia5 = omega arith
words_few Visible = omega arith
words_few Numeric = omega arith
words_few Printable = omega arith
words_few Utf8 = omega arith

module _ (s : Bool) where
  -- ---- sizes

  size_told : (p : Place) (o : Option Size) → Stays s (λ (y : Size). o ≡ Some y) (unless_wide p o)
  size_told p None = record { given = tt }
  size_told p (Some y) = record { given = refl }

  counted_adds : (q : Place) (c : Counted) (r : Room) (z : Sizes) → Stays s (λ (x : AsnType × Room). Adds 66 r x.1) (counted_at q c r z)
  counted_adds q c r z = bind (λ (y : Size). size_of z ≡ Some y) _ (size_at q z) _ (size_told q (size_of z)) (λ y is.
      let few = words_few c in
      let size = size_len z.low z.high (ends_digits z.low z.high y is) in
      let both = adds_then (length (words c)) (length (size_text z.low z.high)) r (put (words c) r) (put_size z (put (words c) r))
      (put_adds (words c) r) (put_adds (size_text z.low z.high) (put (words c) r)) in
      record { given = adds_less (length (words c) + length (size_text z.low z.high)) 66 r (put_size z (put (words c) r)) (omega (arith, few, size)) both })

  module _ (ms : List Module) (p : Place) (m : Meaning) where
    sizes_go : Goes s (sizes_at ms p m)
    sizes_go = bind _ _ (limited_by (size_range ms p m)) _ (limited s (size_range ms p m)) (λ z u. record { given = tt })

    sized_adds : (c : Counted) (q : Place) (r : Room) → Stays s (λ (x : AsnType × Room). Adds 66 r x.1) (sized_at ms c p m q r)
    sized_adds c q r = bind _ _ (sizes_at ms p m) _ sizes_go (λ z u. counted_adds q c r z)

    bits_add : (q : Place) (ts : List Spot) (r : Room) → Stays s (λ (x : AsnType × Room). Adds 66 r x.1) (bits_at ms p m q ts r)
    bits_add q ts r = bind _ _ (sizes_at ms p m) _ sizes_go (λ z u.
        choose _ (not (none_left ts) && is_none (fixed z)) _ _ (λ named. record { given = tt }) (λ plain. counted_adds q Bits r z))

  -- so many parts are left, and of short definitions at most 124 octets more are held, where the numbers in the type have their widths
  abbrev LeafFills : ℕ → Room → Read (AsnType × Room) → Type 0
  LeafFills n r p = Stays s (λ (x : AsnType × Room). (x.1.parts ≡ n) × (s ≡ true → HasWidths x.0 → held x.1 ≤ held r + 124)) p

  leaf_adds : (n k : ℕ) (r : Room) (p : Read (AsnType × Room)) → r.parts ≡ n → k ≤ 124 → Stays s (λ (x : AsnType × Room). Adds k r x.1) p → LeafFills n r p
  leaf_adds n k r p e few h = weaken (λ (x : AsnType × Room). Adds k r x.1) _ p h (λ x adds.
      (adds.0 ∙ e, λ on w. let all = adds_held k r x.1 adds in omega (arith, all, few)))

  integer_fills : (ms : List Module) (p : Place) (m : Meaning) (r : Room) (n : ℕ) → r.parts ≡ n → LeafFills n r (integer_at ms p m r)
  integer_fills ms p m r n e = bind _ _ (limited_by (integer_range ms p m)) _ (limited s (integer_range ms p m)) (λ z u.
      let both = adds_then 7 (length (range_text z.low z.high)) r (put (codes "INTEGER") r) (put (range_text z.low z.high) (put (codes "INTEGER") r))
      (put_adds (codes "INTEGER") r) (put_adds (range_text z.low z.high) (put (codes "INTEGER") r)) in
      record {
        given = (
          e,
          λ on w.
              let few = range_len z.low z.high w.0 w.1 in
              let all = adds_held (7 + length (range_text z.low z.high)) r (put (range_text z.low z.high) (put (codes "INTEGER") r)) both in
              omega (arith, few, all),
        );
      })

  -- ---- each word

  module _ (same_items : SameItems) (ms : List Module) (p : Place) (m : Meaning) (q : Place) (r : Room) (n : ℕ) (fits : s ≡ true → held r ≤ 1048700) where
    -- one with no items is one part
    alone : suc r.parts ≡ n + 1 → r.parts ≡ n
    alone e = omega (arith, e)

    word_fills : (k : LeafWord) {L : LeafType} {ts : List Token} (items : List Spot) → IsLeaf (leaf_form k) L ts → Keeps (items_in (leaf_form k) ts) items
        → suc r.parts ≡ n + leaf_nodes L → (s ≡ true → AreShortTokens items × HasWidths (leaf L)) → LeafFills n r (plain_at ms p m q (builtin k) items r)
    word_fills leaf_word.Boolean items nothing_behind i e short = leaf_adds n 7 r _ (alone e) (omega arith) (record { given = put_adds (codes "BOOLEAN") r })
    word_fills leaf_word.Null items nothing_behind i e short = leaf_adds n 4 r _ (alone e) (omega arith) (record { given = put_adds (codes "NULL") r })
    word_fills leaf_word.ObjectIdentifier items nothing_behind i e short =
        leaf_adds n 17 r _ (alone e) (omega arith) (record { given = put_adds (codes "OBJECT IDENTIFIER") r })
    word_fills leaf_word.Integer items (bounds_behind b) i e short = integer_fills ms p m r n (alone e)
    word_fills leaf_word.Enumerated items l i e short =
        weaken (λ (x : AsnType × Room). (x.1.parts ≡ n) × (s ≡ true → held x.1 ≤ held r + 18)) _ (enumerated_at ms q items r)
        (enumerated_takes s same_items ms items l i q r n e fits short) (λ x is.
        (is.0, λ on w. let few = is.1 on in omega (arith, few)))
    word_fills leaf_word.BitString items (size_behind b) i e short = leaf_adds n 66 r _ (alone e) (omega arith) (bits_add ms p m q items r)
    word_fills leaf_word.OctetString items (size_behind b) i e short = leaf_adds n 66 r _ (alone e) (omega arith) (sized_adds ms p m Octets q r)
    word_fills leaf_word.Ia5String items (size_behind b) i e short = leaf_adds n 66 r _ (alone e) (omega arith) (sized_adds ms p m Ia5 q r)
    word_fills leaf_word.VisibleString items (size_behind b) i e short = leaf_adds n 66 r _ (alone e) (omega arith) (sized_adds ms p m Visible q r)
    word_fills leaf_word.NumericString items (size_behind b) i e short = leaf_adds n 66 r _ (alone e) (omega arith) (sized_adds ms p m Numeric q r)
    word_fills leaf_word.PrintableString items (size_behind b) i e short = leaf_adds n 66 r _ (alone e) (omega arith) (sized_adds ms p m Printable q r)
    word_fills leaf_word.Utf8String items (size_behind b) i e short = leaf_adds n 66 r _ (alone e) (omega arith) (sized_adds ms p m Utf8 q r)

  -- ---- each leaf

  pub quiet_same : (checked : Checked) (w : Written) (r : Room) → is_quiet checked w ≡ true → unchecked_at checked false w r ≡ r
  unfolding unchecked_at
  quiet_same checked w r e = rw e refl

  module _ (same_items : SameItems) (ms : List Module) where
    -- a tree that says the type, behind the part of the type itself
    leaf_by_tree : {known : List Known} {L : LeafType} {t : Tree} → Says known (leaf L) t → IsBuilt t → (p : Place) (m : Meaning) (r : Room) (n : ℕ)
        → IsBare m.given → suc r.parts ≡ n + leaf_nodes L → (s ≡ true → held r ≤ 1048700) → (s ≡ true → IsShort t × HasWidths (leaf L))
        → LeafFills n r (leaf_by ms p m 0 t r)
    leaf_by_tree (says_leaf {at} k {items} {constraints} l i c) built p m r n bare e fits short =
        bind (λ (x : AsnType × Room). (x.1.parts ≡ n) × (s ≡ true → HasWidths x.0 → held x.1 ≤ held r + 124)) _ (plain_at ms p m (place_in 0 at) (builtin k) items r) _
        (word_fills same_items ms p m (place_in 0 at) r n fits k items l i e short) (λ x is.
        record {
          given = subst (λ (y : Room). (y.parts ≡ n) × (s ≡ true → HasWidths x.0 → held y ≤ held r + 124))
              (sym (quiet_same (checked_of (builtin k)) (written 0 constraints m.given) x.1 (leaf_quiet k constraints m.given l c bare))) is;
        })
    leaf_by_tree (says_name n d) built p m r k bare e fits short = absurd built

    -- where it is the type that is said
    with_type : (L : LeafType) (n : ℕ) (r : Room) (p : Read (AsnType × Room)) → same.Gives false (λ (x : AsnType × Room). x.0 ≡ leaf L) p → LeafFills n r p
        → (s ≡ true → HasWidths (leaf L)) → Fills s n 124 r p
    with_type L n r (Ok x) is h w = record { given = (h.given.0, λ on. h.given.1 on (subst HasWidths (sym is.given) (w on))) }
    with_type L n r (Err e) is h w = record { given = h.given }

    pub leaf_takes : (ks : List Known) → LeavesSay false ms ks → {known : List Known} {L : LeafType} {t : Tree} → IsFront known ks → Says known (leaf L) t → IsBuilt t
        → (p : Place) (m : Meaning) (r : Room) (n : ℕ) → m.of ≡ type_in 0 t → IsBare m.given → suc r.parts ≡ n + leaf_nodes L
        → (s ≡ true → held r ≤ 1048700) → (s ≡ true → IsShort t × HasWidths (leaf L)) → Fills s n 124 r (leaf_at ms p m r)
    unfolding leaf_at
    leaf_takes ks say {known} {L} {t} front says built p m r n of bare e fits short =
        with_type L n r (leaf_at ms p m r) (say known L t p m r front says built of bare (λ on. absurd (cc)))
        (subst (λ (o : TypeIn). LeafFills n r (leaf_by ms p m o.«module» o.type r)) (sym of) (leaf_by_tree says built p m r n bare e fits short))
        (λ on. (short on).1)
