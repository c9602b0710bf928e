-- Which type of ours a type is that holds no other.
use Rattle.std.proofs.Common.{◌≡◌, ◌⊎◌, ℕ, ◌^◌, ℤ, pos, negsuc, nat_lt, List, [], ◌∷◌, map, Bool, true, false, not, ◌&&◌, if◌then◌else◌, Option}
use Rattle.std.proofs.Common.{Some, None, is_none, is_some, option_map, option_and_then, Ok, inl, inr, refl, sym, ap, subst, ◌∙◌}
use Rattle.std.specs.Ordering.{int_eq}
use Rattle.oer_model.specs.AsnType.{AsnType, NamedNumber, enumerated}
use Rattle.oer_model.specs.declared.size.Size.{Size}
use Rattle.oer_module_bounds.proofs.Cuts.{eq_true}
use Rattle.oer_module_bounds.specs.Sets.{Span}
use Rattle.oer_module_leaves.specs.Leaves.{bits_at, bits_by, enumerated_at, integer_at, lacks_marker, leaf_at, leaf_by}
use Rattle.oer_module_leaves.specs.Leaves.{listed_at, plain_at, sized_at, sizes_at}
use Rattle.oer_module_leaves.specs.Numbered.{Numbered, NumberedItem, numbered_at}
use Rattle.oer_module_leaves.specs.Shapes.{counted_type, enumerated_type, in_64_bits, is_signed_long, named_at, named_items, size_at, unless_wide}
use Rattle.oer_module_leaves.specs.Texts.{Sizes, fixed, fixed_by, items_at, long, low_end, size_above, size_of, sizes_within}
use Rattle.oer_module_leaves.specs.declared.shape.Counted.{Counted}
use Rattle.oer_module_leaves.specs.declared.shape.Counted.TheVariants.{Octets, Ia5, Visible, Numeric, Printable, Utf8}
use Rattle.oer_module_lexer.specs.Token.{Spot}
use Rattle.oer_module_limits.specs.Limits.{integer_range, size_range}
use Rattle.oer_module_limits.specs.Sets.{Measure, number, size}
use Rattle.oer_module_names.specs.declared.error.Place.{Place}
use Rattle.oer_module_syntax.specs.Modules.{none_left}
use Rattle.oer_module_syntax.specs.Tree.{Module, Tree, any_defined_by, instance_of, list_of, named, plain, selection, structure, tagged}
use Rattle.oer_module_syntax.specs.declared.word.Builtin.{Builtin}
use Rattle.oer_module_syntax.specs.declared.word.Builtin.TheVariants as bi
use Rattle.oer_module_text.specs.Errors.{limited_by, place_in}
use Rattle.oer_module_text.specs.Room.{Room}
use Rattle.oer_module_values.proofs.References.{none_left-nil}
use Rattle.oer_module_values.specs.Types.{Meaning, TypeIn, type_in}
use Rattle.oer_meant_leaves.specs.Laws.{LeavesAreSound}
use Rattle.oer_meant_leaves.specs.Leaves.{IsLeaf, IsSize, IsString, ia5_string, is_bit_string, is_boolean, is_enumerated, is_integer}
use Rattle.oer_meant_leaves.specs.Leaves.{is_null, is_object_id, is_string, iso646_string, numeric_string, octets, printable_string, utf8}
use Rattle.oer_meant_leaves.specs.Leaves.{visible_string}
use Rattle.oer_meant_leaves.specs.Ranges.{IsRange}
use Rattle.oer_meant_leaves.proofs.Items.{as_named, items_are}
use Rattle.oer_meant_leaves.proofs.Ranges.{effective_range}
use Rattle.oer_meant_leaves.proofs.Results.{same_ok, text_limited, text_step, unless_ok, when_ok}

-- ---- sizes

some_when : (b : Bool) (k n : ℕ) → (if b then Some k else None) ≡ Some n → k ≡ n
some_when true k n h = cc
some_when false k n h = absurd (cc)

long_is : (z : ℤ) (n : ℕ) → long z ≡ Some n → z ≡ pos n
long_is (pos k) n h = ap pos (some_when (nat_lt k (2 ^ 64)) k n h)
long_is (negsuc k) n h = absurd (cc)

-- both ends of a size are those of the sizes
abbrev HasEnds : ℤ → Option ℤ → Size → Type 0
HasEnds low high z = (low ≡ pos z.low) × (option_map pos z.high ≡ high)

high_by : (low : ℤ) (l : ℕ) (high : ℤ) (o : Option ℕ) (z : Size) → low ≡ pos l → long high ≡ o
    → option_map {U = Size} (λ n. record { low = l; high = Some n }) o ≡ Some z → HasEnds low (Some high) z
high_by low l high None z e is h = absurd (cc)
high_by low l high (Some n) z e is h =
    let same : record { low = l; high = Some n } ≡ z = cc in
    subst (HasEnds low (Some high)) same (e, ap Some (sym (long_is high n is)))

ends_by : (low : ℤ) (high : Option ℤ) (o : Option ℕ) (z : Size) → long low ≡ o → option_and_then (size_above high) o ≡ Some z → HasEnds low high z
ends_by low high None z e h = absurd (cc)
ends_by low None (Some l) z e h =
    let same : record { low = l; high = None } ≡ z = cc in
    subst (HasEnds low None) same (long_is low l e, refl)
ends_by low (Some high) (Some l) z e h = high_by low l high (long high) z (long_is low l e) refl h

wide_by : (p : Place) (o : Option Size) (z : Size) → unless_wide p o ≡ Ok z → o ≡ Some z
wide_by p None z h = absurd (cc)
wide_by p (Some s) z h = ap Some (same_ok h)

size_is : (p : Place) (r : Span) (z : Size) → size_at p (sizes_within r) ≡ Ok z → IsSize r z
size_is p r z h = ends_by (low_end r.low) r.high (long (low_end r.low)) z refl (wide_by p (size_of (sizes_within r)) z h)

-- ---- one size alone

fixed_if : (low high : ℤ) (b : Bool) → int_eq low high ≡ b → is_none (if b then Some high else None) ≡ false → low ≡ high
fixed_if low high true e h = eq_true low high e
fixed_if low high false e h = absurd (cc)

fixed_is : (low : ℤ) (high : Option ℤ) → is_none (fixed_by low high) ≡ false → high ≡ Some low
fixed_is low None h = absurd (cc)
fixed_is low (Some high) h = ap Some (sym (fixed_if low high (int_eq low high) refl h))

pos_once : (o : Option ℕ) (n : ℕ) → option_map pos o ≡ Some (pos n) → o ≡ Some n
pos_once None n h = absurd (cc)
pos_once (Some k) n h = let same : pos k ≡ pos n = cc in cc

alone : (r : Span) (z : Size) → IsSize r z → is_none (fixed (sizes_within r)) ≡ false → z.high ≡ Some z.low
alone r z is h = pos_once z.high z.low (is.1 ∙ fixed_is (low_end r.low) r.high h ∙ ap Some is.0)

-- bits have no names, or one size alone
named_by : (ts : List Spot) (r : Span) (z : Size) (b : Bool) → IsSize r z → none_left ts ≡ b
    → (not b && is_none (fixed (sizes_within r))) ≡ false → (ts ≡ []) ⊎ (z.high ≡ Some z.low)
named_by ts r z true is e h = inl (none_left-nil ts e)
named_by ts r z false is e h = inr (alone r z is h)

-- ---- items

number_stays : (p : Place) (y z : ℤ) → in_64_bits p y ≡ Ok z → y ≡ z
number_stays p y z h = same_ok (when_ok (is_signed_long y) _ _ z h).1

item_stays : (m : ℕ) (i : NumberedItem) (n : NamedNumber) → named_at m i ≡ Ok n → as_named i ≡ n
item_stays m i n h =
    let a = text_step (in_64_bits (place_in m i.at) i.number) _ n h in
    let renumbered : ℤ → NamedNumber = λ z. record { name = i.name; number = z } in
    ap renumbered (number_stays (place_in m i.at) i.number a.0 a.1) ∙ same_ok a.2

items_stay : (m : ℕ) (is : List NumberedItem) (ns : List NamedNumber) → named_items m is ≡ Ok ns → map as_named is ≡ ns
items_stay m [] ns h = same_ok h
items_stay m (i ∷ is) ns h =
    let a = text_step (named_at m i) _ ns h in
    let b = text_step (named_items m is) _ ns a.2 in
    ap (λ x. x ∷ map as_named is) (item_stays m i a.0 a.1) ∙ ap (λ l. a.0 ∷ l) (items_stay m is b.0 b.1) ∙ same_ok b.2

enumerated_is : (m : ℕ) (e : Numbered) (T : AsnType) → enumerated_type m e ≡ Ok T → enumerated (map as_named e.items) (is_some e.marker) ≡ T
enumerated_is m e T h =
    let a = text_step (named_items m e.items) _ T h in
    ap (λ l. enumerated l (is_some e.marker)) (items_stay m e.items a.0 a.1) ∙ same_ok a.2

listed_is : (m : ℕ) (e : Numbered) (r : Room) (x : AsnType × Room) → listed_at m e r ≡ Ok x
    → enumerated (map as_named e.items) (is_some e.marker) ≡ x.0
unfolding listed_at
listed_is m e r x h =
    let a = text_step (items_at m e r) _ x h in
    let b = text_step (enumerated_type m e) _ x a.2 in
    enumerated_is m e b.0 b.1 ∙ ap (λ y. y.0) (same_ok b.2)

-- ---- types

module _ (ms : List Module) (p : Place) (m : Meaning) where
  -- the range of what is measured is that of what it stands for, under another name
  ranged : (k : Measure) (t : TypeIn) (r : Span) → m.of ≡ t → IsRange ms k m.of m.given r → IsRange ms k t m.given r
  ranged k t r e is = subst (λ u. IsRange ms k u m.given r) e is

  sizes_are : (z : Sizes) → sizes_at ms p m ≡ Ok z → (r : Span) × IsRange ms size m.of m.given r × (sizes_within r ≡ z)
  sizes_are z h =
      let a = text_step (limited_by (size_range ms p m)) _ z h in
      (a.0, effective_range ms size p m a.0 (text_limited (size_range ms p m) a.0 a.1), same_ok a.2)

  -- what such a type is, with this tree
  abbrev Leaf : ℕ → Tree → AsnType → Type 0
  Leaf k u T = IsLeaf ms (type_in k u) m.given T

  module _ (k at : ℕ) (ts cs : List Spot) (r : Room) (x : AsnType × Room) where
    integer_leaf : m.of ≡ type_in k (plain at bi.Integer ts cs) → integer_at ms p m r ≡ Ok x → Leaf k (plain at bi.Integer ts cs) x.0
    integer_leaf e h =
        let a = text_step (limited_by (integer_range ms p m)) _ x h in
        let is = effective_range ms (number None) p m a.0 (text_limited (integer_range ms p m) a.0 a.1) in
        subst (Leaf k (plain at bi.Integer ts cs)) (ap (λ y. y.0) (same_ok a.2))
        (is_integer k at ts cs m.given a.0 (ranged (number None) (type_in k (plain at bi.Integer ts cs)) a.0 e is))

    string_leaf : (c : Counted) (b : Builtin) → ((z : Size) → IsString b z (counted_type c z)) → m.of ≡ type_in k (plain at b ts cs)
        → sized_at ms c p m (place_in k at) r ≡ Ok x → Leaf k (plain at b ts cs) x.0
    string_leaf c b shape e h =
        let a = text_step (sizes_at ms p m) _ x h in
        let s = sizes_are a.0 a.1 in
        let d = text_step (size_at (place_in k at) a.0) _ x a.2 in
        let is = size_is (place_in k at) s.0 d.0 (ap (size_at (place_in k at)) s.2 ∙ d.1) in
        subst (Leaf k (plain at b ts cs)) (ap (λ y. y.0) (same_ok d.2))
        (is_string k at b ts cs m.given s.0 d.0 (counted_type c d.0) (ranged size (type_in k (plain at b ts cs)) s.0 e s.1) is (shape d.0))

    bits_of : (s : Span) → m.of ≡ type_in k (plain at bi.BitString ts cs) → IsRange ms size m.of m.given s
        → bits_by ms (place_in k at) ts r (sizes_within s) ≡ Ok x → Leaf k (plain at bi.BitString ts cs) x.0
    bits_of s e range h =
        let u = unless_ok (not (none_left ts) && is_none (fixed (sizes_within s))) _ _ x h in
        let d = text_step (size_at (place_in k at) (sizes_within s)) _ x u.1 in
        let is = size_is (place_in k at) s d.0 d.1 in
        subst (Leaf k (plain at bi.BitString ts cs)) (ap (λ y. y.0) (same_ok d.2))
        (is_bit_string k at ts cs m.given s d.0 (ranged size (type_in k (plain at bi.BitString ts cs)) s e range) is
        (named_by ts s d.0 (none_left ts) is refl u.0))

    bits_leaf : m.of ≡ type_in k (plain at bi.BitString ts cs) → bits_at ms p m (place_in k at) ts r ≡ Ok x → Leaf k (plain at bi.BitString ts cs) x.0
    bits_leaf e h =
        let a = text_step (sizes_at ms p m) _ x h in
        let s = sizes_are a.0 a.1 in
        bits_of s.0 e s.1 (ap (bits_by ms (place_in k at) ts r) s.2 ∙ a.2)

    enumerated_leaf : enumerated_at ms (place_in k at) ts r ≡ Ok x → Leaf k (plain at bi.Enumerated ts cs) x.0
    enumerated_leaf h =
        let a = text_step (numbered_at ms (place_in k at) ts) _ x h in
        let u = unless_ok (lacks_marker ms k a.0) _ _ x a.2 in
        subst (Leaf k (plain at bi.Enumerated ts cs)) (listed_is k a.0 _ x u.1)
        (is_enumerated k at ts cs m.given (map as_named a.0.items) (is_some a.0.marker) (items_are ms (place_in k at) ts a.0 a.1))

    plain_leaf : (b : Builtin) → m.of ≡ type_in k (plain at b ts cs) → plain_at ms p m (place_in k at) b ts r ≡ Ok x → Leaf k (plain at b ts cs) x.0
    plain_leaf bi.Boolean e h = subst (Leaf k (plain at bi.Boolean ts cs)) (ap (λ y. y.0) (same_ok h)) (is_boolean k at ts cs m.given)
    plain_leaf bi.Null e h = subst (Leaf k (plain at bi.Null ts cs)) (ap (λ y. y.0) (same_ok h)) (is_null k at ts cs m.given)
    plain_leaf bi.ObjectIdentifier e h =
        subst (Leaf k (plain at bi.ObjectIdentifier ts cs)) (ap (λ y. y.0) (same_ok h)) (is_object_id k at ts cs m.given)
    plain_leaf bi.Integer e h = integer_leaf e h
    plain_leaf bi.Enumerated e h = enumerated_leaf h
    plain_leaf bi.BitString e h = bits_leaf e h
    plain_leaf bi.OctetString e h = string_leaf Octets bi.OctetString octets e h
    plain_leaf bi.Ia5String e h = string_leaf Ia5 bi.Ia5String ia5_string e h
    plain_leaf bi.VisibleString e h = string_leaf Visible bi.VisibleString visible_string e h
    plain_leaf bi.Iso646String e h = string_leaf Visible bi.Iso646String iso646_string e h
    plain_leaf bi.NumericString e h = string_leaf Numeric bi.NumericString numeric_string e h
    plain_leaf bi.PrintableString e h = string_leaf Printable bi.PrintableString printable_string e h
    plain_leaf bi.Utf8String e h = string_leaf Utf8 bi.Utf8String utf8 e h
    plain_leaf b e h = absurd (cc)

  leaf_of : (k : ℕ) (u : Tree) (r s : Room) (T : AsnType) → m.of ≡ type_in k u → leaf_by ms p m k u r ≡ Ok (T, s) → Leaf k u T
  leaf_of k (plain at b ts cs) r s T e h =
      let a = text_step (plain_at ms p m (place_in k at) b ts r) _ (T, s) h in
      subst (Leaf k (plain at b ts cs)) (ap (λ y. y.0) (same_ok a.2)) (plain_leaf k at ts cs r a.0 b e a.1)
  leaf_of k (named at w steps ps ts) r s T e h = absurd (cc)
  leaf_of k (tagged at ts mode t) r s T e h = absurd (cc)
  leaf_of k (structure at b es ts) r s T e h = absurd (cc)
  leaf_of k (list_of at b sized ts w t) r s T e h = absurd (cc)
  leaf_of k (selection at w t) r s T e h = absurd (cc)
  leaf_of k (instance_of at w steps ts) r s T e h = absurd (cc)
  leaf_of k (any_defined_by at w) r s T e h = absurd (cc)

pub leaf_is : LeavesAreSound
unfolding leaf_at
leaf_is ms p m r s T h = leaf_of ms p m m.of.«module» m.of.type r s T refl h
