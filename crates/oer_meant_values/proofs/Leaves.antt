-- Values that hold no others, as they are found.
use Rattle.std.proofs.Common.{◌≡◌, ◌<◌, ℕ, ℤ, pos, negsuc, List, [], ◌∷◌, map, nat_le, nat_lt, Bool, true, false, cond, Option, Some, None, Ok, is_some, codes}
use Rattle.std.proofs.Common.{refl, sym, ap, subst, ◌∙◌, append-nil}
use Rattle.std.proofs.lemmas.Bool.{ltb-true}
use Rattle.std.proofs.lemmas.Bool.Decides.{Decides-int_eq}
use Rattle.std.proofs.lemmas.Slice.Eq.{bytes_eq-Decides}
use Rattle.std.specs.Ordering.{int_eq}
use Rattle.std.specs.Str.{bytes_eq}
use Rattle.oer_literals.specs.Numbers.{arc_of}
use Rattle.oer_model.specs.AsnType.{NamedNumber}
use Rattle.oer_model.specs.AsnValue.{AsnValue, bit_list, enum, int, octets, oid}
use Rattle.oer_module_bounds.specs.Sets.{Span}
use Rattle.oer_module_defaults.specs.Arcs.{arc_at, arcs, arcs_by, digits_in, only_member, or_no_text, or_too_wide, part_arcs, some_arcs}
use Rattle.oer_module_defaults.specs.Atoms.{bit_token_at, boolean_at, digits_at, has_below, null_at, octet_string_at, single, text_at}
use Rattle.oer_module_defaults.specs.Bits.{amount_bit, bit_name, bit_named, bit_numbers, bit_within, bits_from, fitting, fixed_size, item_bit, name_bit, named_bits}
use Rattle.oer_module_defaults.specs.Bits.{one_size, own_by, own_name, short, some_bits}
use Rattle.oer_module_defaults.specs.Governors.{Governor}
use Rattle.oer_module_defaults.specs.Items.{agreed, bits_of, item_number, number_by, number_in_both, number_named}
use Rattle.oer_module_defaults.specs.Leaves.{bit_string_at, enumerated_at, integer_at}
use Rattle.oer_module_defaults.specs.Walks.{name_in}
use Rattle.oer_module_defaults.specs.declared.governor.Kind.TheVariants.{Boolean, Null, Integer, Enumerated, Octets, Bits, Text, Arcs}
use Rattle.oer_module_leaves.specs.Numbered.{Numbered, NumberedItem, enumeration_by, numbered_items}
use Rattle.oer_module_leaves.specs.Shapes.{is_signed_long}
use Rattle.oer_module_lexer.specs.Token.{Spot, Token, word}
use Rattle.oer_module_lexer.specs.declared.token.Sign.TheVariants.{Point}
use Rattle.oer_module_limits.specs.Limits.{size_limits, type_place}
use Rattle.oer_module_limits.specs.Errors as limits
use Rattle.oer_module_limits.specs.Sets.{size}
use Rattle.oer_module_names.specs.declared.error.Place.{Place}
use Rattle.oer_module_syntax.specs.Modules.{none_left}
use Rattle.oer_module_syntax.specs.State.{is_sign}
use Rattle.oer_module_syntax.specs.Tree.{Module, Tree, plain}
use Rattle.oer_module_syntax.specs.declared.word.Builtin.TheVariants as bi
use Rattle.oer_module_terms.specs.Items.{items_at}
use Rattle.oer_module_terms.specs.Trees.{Amount, named, amount, fixed, bits, digits, text, Value, atom, braces, Parts, no_parts, part}
use Rattle.oer_module_terms.specs.Trees.{Members, no_members, member, Item}
use Rattle.oer_module_terms.specs.declared.item.Numbering.TheVariants.{Unsigned}
use Rattle.oer_module_terms.specs.declared.tree.Fixed.TheVariants.{True, False, Null as NullWord}
use Rattle.oer_module_text.specs.Errors.{in_module, limited_by, place_in, told_by}
use Rattle.oer_module_text.specs.Room.{Room, put}
use Rattle.oer_module_values.proofs.Denoted.{counted, numbered_under}
use Rattle.oer_module_values.proofs.Walks.{found}
use Rattle.oer_module_values.specs.Kept.{kept}
use Rattle.oer_module_values.specs.Looks.{Path, own, within, fields, path_of, within_or_fields}
use Rattle.oer_module_values.specs.Numbers.{Denotes, Has, nothing as has_nothing, here, later, bare, integer_at as whole_at, item_named, number_at}
use Rattle.oer_module_values.specs.Types.{TypeIn, meaning, type_in}
use Rattle.oer_value_notation.specs.Values.{digit_bits, inside, octets_in}
use Rattle.oer_meant_leaves.specs.Laws.{EnumerationsAreSound, RangesAreEffective}
use Rattle.oer_meant_leaves.specs.Ranges.{IsRange}
use Rattle.oer_meant_values.specs.Values.{AreArcs, no_arcs, another_arc, AreBits, no_bits, another_bit, AreOfSize, HasItem, has_item, IsNumberOf, this_item, another_item}
use Rattle.oer_meant_values.specs.Values.{IsOf, is_true, is_false, is_null, is_number, is_item, are_octets, are_ones, are_digits, are_names, is_text, are_arcs}
use Rattle.oer_meant_leaves.proofs.Results.{limit_step, limit_told, text_limited, text_read, text_step, text_told}
use Rattle.oer_meant_values.proofs.Apart.{else_ok, front_ok, same_ok, then_ok, then_some}

-- ---- OBJECT IDENTIFIER

or_no_text_ok : (p : Place) (o : Option (List ℕ)) (w : List ℕ) → or_no_text p o ≡ Ok w → o ≡ Some w
or_no_text_ok p None w h = absurd (cc)
or_no_text_ok p (Some v) w h = cc

or_too_wide_ok : (p : Place) (o : Option ℕ) (n : ℕ) → or_too_wide p o ≡ Ok n → o ≡ Some n
or_too_wide_ok p None n h = absurd (cc)
or_too_wide_ok p (Some k) n h = cc

arc_is : (p : Place) (v : Value) (r : Room) (x : ℕ × Room) → arc_at p v r ≡ Ok x → (w : List ℕ) × (digits_in v ≡ Some w) × (arc_of w ≡ Some x.0)
unfolding arc_at
arc_is p v r x h =
    let w = text_step (or_no_text p (digits_in v)) _ x h in
    let n = text_step (or_too_wide p (arc_of w.0)) _ x w.2 in
    (w.0, or_no_text_ok p (digits_in v) w.0 w.1, or_too_wide_ok p (arc_of w.0) n.0 n.1 ∙ ap Some (front_ok n.0 _ x n.2))

each_arc : (p : Place) (vs : Parts) (r : Room) (x : List ℕ × Room) → some_arcs p vs r ≡ Ok x → AreArcs vs x.0
each_arc p no_parts r x h = subst (AreArcs no_parts) (front_ok [] r x h) no_arcs
each_arc p (part v vs) r x h =
    let a = text_step (arc_at p v r) _ x h in
    let s = text_step (some_arcs p vs a.0.1) _ x a.2 in
    let one = arc_is p v r a.0 a.1 in
    subst (AreArcs (part v vs)) (front_ok (a.0.0 ∷ s.0.0) s.0.1 x s.2)
    (another_arc v vs one.0 a.0.0 s.0.0 one.1 one.2 (each_arc p vs a.0.1 s.0 s.1))

-- ---- names

-- a path that is nothing has no steps
named_own : (b : Bool) (u : Token) → cond b (within_or_fields u) fields ≡ own → ⊥
named_own true (word w) h = cc
named_own true u h = cc
named_own false u h = cc

no_steps : (steps : List Spot) → path_of steps ≡ own → steps ≡ []
no_steps [] h = refl
no_steps (t ∷ []) h = absurd (cc)
no_steps (t ∷ u ∷ []) h = absurd (named_own (is_sign Point (Some t.token)) u.token h)
no_steps (t ∷ u ∷ v ∷ more) h = absurd (cc)

alone_by : (w v : List ℕ) (q : Path) → own_by w q ≡ Some v → (w ≡ v) × (q ≡ own)
alone_by w v own h = (cc, refl)
alone_by w v (within u) h = absurd (cc)
alone_by w v fields h = absurd (cc)

-- a name alone
pub name_is : (v : Value) (w : List ℕ) → own_name (name_in v) ≡ Some w → (at : ℕ) × (v ≡ atom at (amount (named w [])))
name_is (atom at (amount (named u steps))) w h =
    let e = alone_by u w (path_of steps) h in
    let f = no_steps steps e.1 in
    let g = e.0 in
    (at, cc)
name_is v w h = absurd (cc)

-- ---- items

has_by : (w : List ℕ) (i : Item) (is : List Item) (o : Option Item) (b : Bool) → bytes_eq i.name w ≡ b
    → (item_named w is ≡ o → Has w is o) → cond b (Some i) (item_named w is) ≡ o → Has w (i ∷ is) o
has_by w i is o true e on h = subst (Has w (i ∷ is)) h (here i is ((bytes_eq-Decides i.name w).0 e))
has_by w i is o false e on h = later i is o (λ f. let same = (bytes_eq-Decides i.name w).1 f in cc) (on h)

has : (w : List ℕ) (is : List Item) (o : Option Item) → item_named w is ≡ o → Has w is o
has w [] o h = subst (Has w []) h has_nothing
has w (i ∷ is) o h = has_by w i is o (bytes_eq i.name w) refl (has w is o) h

-- an item as the notation has it
abbrev as_named : NumberedItem → NamedNumber
as_named i = record { name = i.name; number = i.number }

number_of_by : (w : List ℕ) (i : NumberedItem) (is : List NumberedItem) (z : ℤ) (b : Bool) → bytes_eq i.name w ≡ b
    → (number_named w is ≡ Some z → IsNumberOf w (map as_named is) z) → cond b (Some i.number) (number_named w is) ≡ Some z
    → IsNumberOf w (map as_named (i ∷ is)) z
number_of_by w i is z true e on h =
    subst (IsNumberOf w (map as_named (i ∷ is))) (let same : i.number ≡ z = cc in same)
    (this_item (as_named i) (map as_named is) ((bytes_eq-Decides i.name w).0 e))
number_of_by w i is z false e on h =
    another_item (as_named i) (map as_named is) z (λ f. let same = (bytes_eq-Decides i.name w).1 f in cc) (on h)

number_of : (w : List ℕ) (is : List NumberedItem) (z : ℤ) → number_named w is ≡ Some z → IsNumberOf w (map as_named is) z
number_of w [] z h = absurd (cc)
number_of w (i ∷ is) z h = number_of_by w i is z (bytes_eq i.name w) refl (number_of w is z) h

numbered_by : (p : Place) (o : Option ℤ) (z : ℤ) → number_by p o ≡ Ok z → o ≡ Some z
numbered_by p None z h = absurd (cc)
numbered_by p (Some y) z h = ap Some (same_ok y z (then_ok (is_signed_long y) (Ok y) _ z h).1)

module _ (ms : List Module) (enumerated : EnumerationsAreSound) where
  item_in : (w : List ℕ) (z : ℤ) (m : ℕ) (t : Tree) (e : Numbered) → enumeration_by ms m t ≡ Ok e → number_named w e.items ≡ Some z
      → HasItem ms w z m t
  item_in w z m (plain at bi.Enumerated ts cs) e h is =
      has_item m at ts cs (map as_named e.items) (is_some e.marker) (enumerated ms (place_in m at) ts e h) (number_of w e.items z is)
  item_in w z m t e h is = absurd (cc)

  -- the number that is found for an item is what the type gives it
  item_is : (g : Governor) (p : Place) (w : List ℕ) (z : ℤ) → item_number ms g p w ≡ Ok z → HasItem ms w z g.«module» g.type
  unfolding item_number
  item_is g p w z h =
      let b = text_step (numbered_items ms (type_in g.«module» g.type)) _ z h in
      let e = text_step (enumeration_by ms g.«module» g.type) _ b.0 b.1 in
      item_in w z g.«module» g.type e.0 e.1
      (ap (number_named w) (same_ok e.0.items b.0 e.2) ∙ numbered_by p (number_named w b.0) z b.2)

  agree : (p : Place) (y x z : ℤ) → agreed p y x ≡ Ok z → (y ≡ z) × (x ≡ z)
  agree p y x z h =
      let e = then_ok (int_eq y x) (Ok x) _ z h in
      let same = same_ok x z e.1 in
      ((Decides-int_eq y x).0 e.0 ∙ same, same)

  -- and both types give it that
  item_in_both : (g h : Governor) (p : Place) (w : List ℕ) (z : ℤ) → number_in_both ms g h p w ≡ Ok z
      → HasItem ms w z h.«module» h.type × HasItem ms w z g.«module» g.type
  unfolding number_in_both
  item_in_both g h p w z is =
      let y = text_step (item_number ms h p w) _ z is in
      let x = text_step (item_number ms g p w) _ z y.2 in
      let e = agree p y.0 x.0 z x.2 in
      (item_is h p w z (y.1 ∙ ap Ok e.0), item_is g p w z (x.1 ∙ ap Ok e.1))

-- ---- named bits

fitting_is : (p : Place) (o : Option ℕ) (n : ℕ) → fitting p o ≡ Ok n → o ≡ Some n
fitting_is p None n h = absurd (cc)
fitting_is p (Some k) n h = ap Some (same_ok k n (then_ok (nat_le k 4096) (Ok k) _ n h).1)

short_is : (z : ℤ) (n : ℕ) → short z ≡ Some n → z ≡ pos n
short_is (pos k) n h = ap pos (then_some (nat_lt k 65536) k n h).1
short_is (negsuc k) n h = absurd (cc)

one_size_is : (p : Place) (low high : Option ℤ) (n : ℕ) → one_size p low high ≡ Ok n → (low ≡ Some (pos n)) × (high ≡ Some (pos n))
one_size_is p (Some low) (Some high) n h =
    let e = then_ok (int_eq low high) (fitting p (short high)) _ n h in
    let is = short_is high n (fitting_is p (short high) n e.1) in
    (ap Some ((Decides-int_eq low high).0 e.0 ∙ is), ap Some is)
one_size_is p (Some low) None n h = absurd (cc)
one_size_is p None high n h = absurd (cc)

within_is : (p : Place) (most : ℕ) (o : Option ℕ) (n : ℕ) → bit_within p most o ≡ Ok n → (o ≡ Some n) × (n < most)
within_is p most None n h = absurd (cc)
within_is p most (Some k) n h =
    let e = then_ok (nat_lt k most) (Ok k) _ n h in
    let same = same_ok k n e.1 in
    (ap Some same, subst (λ k. k < most) same (ltb-true k most e.0))

module _ (ms : List Module) where
  -- the bit that is found for a name
  record Bit (m most : ℕ) (is : List Item) (w : List ℕ) (n : ℕ) : Type 0 where
    pub it : Item
    pub given : Amount
    pub here_is : Has w is (Some it)
    pub number_is : it.number ≡ Some given
    pub denotes : Denotes ms m (bare m) given (pos n)
    pub below : n < most

  amount_is : (p : Place) (m most : ℕ) (is : List Item) (w : List ℕ) (n at : ℕ) (i : Item) (o : Option Amount) → Has w is (Some i)
      → i.number ≡ o → amount_bit ms p most (place_in m at) o ≡ Ok n → Bit m most is w n
  amount_is p m most is w n at i None there is_given h = absurd (cc)
  amount_is p m most is w n at i (Some a) there is_given h =
      let b = text_step (told_by (whole_at ms (place_in m at) a)) _ n h in
      let e = within_is p most (short b.0) n b.2 in
      let d = counted ms (record { place = place_in m at; governor = bare m; amount = a }) b.0 (text_told _ b.0 b.1) in
      record {
        it = i;
        given = a;
        here_is = there;
        number_is = is_given;
        denotes = subst (Denotes ms m (bare m) a) (short_is b.0 n e.0) d;
        below = e.1;
      }

  item_is_bit : (p : Place) (m most : ℕ) (is : List Item) (w : List ℕ) (n : ℕ) (o : Option Item) → item_named w is ≡ o
      → item_bit ms p m most o ≡ Ok n → Bit m most is w n
  item_is_bit p m most is w n None there h = absurd (cc)
  item_is_bit p m most is w n (Some i) there h = amount_is p m most is w n i.at i i.number (has w is (Some i) there) refl h

  bit_of : (p : Place) (m most : ℕ) (is : List Item) (n : ℕ) (o : Option (List ℕ)) → name_bit ms p m most is o ≡ Ok n
      → (w : List ℕ) × (o ≡ Some w) × Bit m most is w n
  bit_of p m most is n None h = absurd (cc)
  bit_of p m most is n (Some w) h = (w, refl, item_is_bit p m most is w n (item_named w is) refl h)

  named_part : (vs : Parts) (w : List ℕ) → bit_name vs ≡ Some w → (at : ℕ) × (vs ≡ part (atom at (amount (named w []))) no_parts)
  named_part no_parts w h = absurd (cc)
  named_part (part v no_parts) w h = let e = name_is v w h in (e.0, ap (λ v. part v no_parts) e.1)
  named_part (part v (part u vs)) w h = absurd (cc)

  named_bit : (p : Place) (m most : ℕ) (is : List Item) (vs : Parts) (n : ℕ) → bit_named ms p m most is vs ≡ Ok n
      → (w : List ℕ) × (bit_name vs ≡ Some w) × Bit m most is w n
  unfolding bit_named
  named_bit p m most is vs n h = bit_of p m most is n (bit_name vs) h

  bits_are : (p : Place) (m most : ℕ) (is : List Item) (more : Members) (ns : List ℕ) → bit_numbers ms p m most is more ≡ Ok ns
      → AreBits ms m most is more ns
  bits_are p m most is no_members ns h = subst (AreBits ms m most is no_members) (same_ok [] ns h) no_bits
  bits_are p m most is (member vs more) ns h =
      let n = text_step (bit_named ms p m most is vs) _ ns h in
      let l = text_step (bit_numbers ms p m most is more) _ ns n.2 in
      let b = named_bit p m most is vs n.0 n.1 in
      let q = named_part vs b.0 b.1 in
      let bit = b.2 in
      subst (AreBits ms m most is (member vs more)) (same_ok (n.0 ∷ l.0) ns l.2)
      (subst (λ vs. AreBits ms m most is (member vs more) (n.0 ∷ l.0)) (sym q.1)
      (another_bit q.0 b.0 more bit.it bit.given n.0 l.0 bit.here_is bit.number_is bit.denotes bit.below (bits_are p m most is more l.0 l.1)))

  module _ (ranges : RangesAreEffective) where
    sizes_are : (t : TypeIn) (p : Place) (s : Span) (n : ℕ) → size_limits ms t ≡ Ok s → fixed_size p s ≡ Ok n → AreOfSize ms t.«module» t.type n
    unfolding size_limits
    sizes_are t p s n h is =
        let u = limit_step (limits.told_by (meaning ms t)) _ s h in
        let f = found ms 255 t [] u.0 (limit_told _ u.0 u.1) in
        let e = one_size_is p s.low s.high n is in
        let same : s ≡ record { low = Some (pos n); high = Some (pos n) } = λ i. record { low = e.0 i; high = e.1 i } in
        record {
          of = u.0.of;
          given = f.0;
          means = f.2;
          range = subst (IsRange ms size u.0.of f.0) same (subst (λ gs. IsRange ms size u.0.of gs s) (f.1 ∙ append-nil f.0) (ranges ms size (type_place t) u.0 s u.2));
        }

-- ---- all that hold no others

-- a value of a type in a module, t, and what stands for it
module _ (ms : List Module) (t : TypeIn) (g h : Governor) (p : Place) (r : Room) (x : AsnValue × Room) where
  abbrev pub Is : Value → Type 0
  Is v = IsOf ms t.«module» t.type g p.«module» h v x.0

  pub boolean : (v : Value) → h.kind ≡ Boolean → boolean_at p (single v) r ≡ Ok x → Is v
  boolean (atom at (fixed True)) k is =
      subst (IsOf ms t.«module» t.type g p.«module» h (atom at (fixed True))) (front_ok _ _ x is) (is_true t.«module» p.«module» at t.type g h k)
  boolean (atom at (fixed False)) k is =
      subst (IsOf ms t.«module» t.type g p.«module» h (atom at (fixed False))) (front_ok _ _ x is) (is_false t.«module» p.«module» at t.type g h k)
  boolean v k is = absurd (cc)

  pub null : (v : Value) → h.kind ≡ Null → null_at p (single v) r ≡ Ok x → Is v
  null (atom at (fixed NullWord)) k is =
      subst (IsOf ms t.«module» t.type g p.«module» h (atom at (fixed NullWord))) (front_ok _ _ x is) (is_null t.«module» p.«module» at t.type g h k)
  null v k is = absurd (cc)

  pub integer : (v : Value) → h.kind ≡ Integer → integer_at ms t p (single v) r ≡ Ok x → Is v
  integer (atom at (amount a)) k is =
      let z = text_step (told_by (number_at ms t p a)) _ x is in
      let d = numbered_under ms t.«module» t.type p a z.0 (text_told _ z.0 z.1) in
      subst (IsOf ms t.«module» t.type g p.«module» h (atom at (amount a))) (front_ok (int z.0) _ x z.2)
      (is_number t.«module» p.«module» at t.type g h a d.0 z.0 k d.1 d.2)
  integer v k is = absurd (cc)

  pub enumerated : EnumerationsAreSound → (v : Value) → h.kind ≡ Enumerated → enumerated_at ms g h p (single v) r ≡ Ok x → Is v
  enumerated law (atom at (amount (named w steps))) k is =
      let z = text_step (number_in_both ms g h p w) _ x is in
      let b = item_in_both ms law g h p w z.0 z.1 in
      subst (IsOf ms t.«module» t.type g p.«module» h (atom at (amount (named w steps)))) (front_ok (enum z.0) _ x z.2)
      (is_item t.«module» p.«module» at t.type g h w steps z.0 k b.0 b.1)
  enumerated law v k is = absurd (cc)

  digits_are : {A : Type 0} (make : A → AsnValue) (w : List ℕ) (o : Option A) → digits_at make p w o r ≡ Ok x → (a : A) × (o ≡ Some a) × (make a ≡ x.0)
  digits_are make w None is = absurd (cc)
  digits_are make w (Some a) is = (a, refl, front_ok (make a) _ x is)

  pub octet_string : (v : Value) → h.kind ≡ Octets → octet_string_at p (single v) r ≡ Ok x → Is v
  octet_string (atom at (digits w)) k is =
      let o = digits_are octets w (octets_in (inside w)) is in
      subst (IsOf ms t.«module» t.type g p.«module» h (atom at (digits w))) o.2 (are_octets t.«module» p.«module» at t.type g h w o.0 k o.1)
  octet_string v k is = absurd (cc)

  bit_token : (v : Value) → h.kind ≡ Bits → bit_token_at p (single v) r ≡ Ok x → Is v
  bit_token (atom at (bits w)) k is =
      let e = else_ok (has_below 33 w) _ _ x is in
      subst (IsOf ms t.«module» t.type g p.«module» h (atom at (bits w))) (front_ok _ _ x e.1) (are_ones t.«module» p.«module» at t.type g h w k e.0)
  bit_token (atom at (digits w)) k is =
      let b = digits_are bit_list w (digit_bits (inside w)) is in
      subst (IsOf ms t.«module» t.type g p.«module» h (atom at (digits w))) b.2 (are_digits t.«module» p.«module» at t.type g h w b.0 k b.1)
  bit_token v k is = absurd (cc)

  some_names : RangesAreEffective → (at : ℕ) (more : Members) → h.kind ≡ Bits → some_bits ms t p h more r ≡ Ok x → Is (braces at more)
  unfolding bits_of
  some_names law at more k is =
      let b = text_step (bits_of h) _ x is in
      let c = text_step (in_module h.«module» (items_at Unsigned (kept h.items))) _ b.0 b.1 in
      let s = text_step (limited_by (size_limits ms t)) _ x b.2 in
      let n = text_step (fixed_size p s.0) _ x s.2 in
      let l = text_step (bit_numbers ms p h.«module» n.0 b.0 more) _ x n.2 in
      let sized = sizes_are ms law t p s.0 n.0 (text_limited _ s.0 s.1) n.1 in
      let read : items_at Unsigned (kept h.items) ≡ Ok (b.0, c.0.1) =
      text_read h.«module» _ c.0 c.1 ∙ ap (λ is. Ok (is, c.0.1)) (same_ok c.0.0 b.0 c.2) in
      subst (IsOf ms t.«module» t.type g p.«module» h (braces at more)) {x = bit_list (bits_from l.0 0 n.0)} (front_ok (bit_list (bits_from l.0 0 n.0)) _ x l.2)
      (are_names t.«module» p.«module» at n.0 t.type g h b.0 c.0.1 more l.0 k read sized (bits_are ms p h.«module» n.0 b.0 more l.0 l.1))

  names : RangesAreEffective → (at : ℕ) (more : Members) → h.kind ≡ Bits → named_bits ms t p h more r ≡ Ok x → Is (braces at more)
  unfolding named_bits
  names law at more k is = some_names law at more k (else_ok (none_left h.items) _ _ x is).1

  pub bit_string : RangesAreEffective → (v : Value) → h.kind ≡ Bits → bit_string_at ms t p h v r ≡ Ok x → Is v
  bit_string law (braces at more) k is = names law at more k is
  bit_string law v k is = bit_token v k is

  pub characters : (v : Value) → h.kind ≡ Text → text_at p (single v) r ≡ Ok x → Is v
  characters (atom at (text w)) k is =
      let e = else_ok (has_below 32 w) _ _ x is in
      subst (IsOf ms t.«module» t.type g p.«module» h (atom at (text w))) (front_ok _ _ x e.1) (is_text t.«module» p.«module» at t.type g h w k e.0)
  characters v k is = absurd (cc)

  object_parts : (at : ℕ) (vs : Parts) → h.kind ≡ Arcs → part_arcs p vs r ≡ Ok x → Is (braces at (member vs no_members))
  object_parts at no_parts k is = absurd (cc)
  object_parts at (part v no_parts) k is = absurd (cc)
  object_parts at (part v (part w vs)) k is =
      let s = text_step (some_arcs p (part v (part w vs)) (put (codes "{") r)) _ x is in
      subst (IsOf ms t.«module» t.type g p.«module» h (braces at (member (part v (part w vs)) no_members))) (front_ok (oid s.0.0) _ x s.2)
      (are_arcs t.«module» p.«module» at t.type g h v w vs s.0.0 k (each_arc p (part v (part w vs)) (put (codes "{") r) s.0 s.1))

  object_members : (at : ℕ) (more : Members) → h.kind ≡ Arcs → arcs_by p (only_member more) r ≡ Ok x → Is (braces at more)
  object_members at no_members k is = absurd (cc)
  object_members at (member vs no_members) k is = object_parts at vs k is
  object_members at (member vs (member ws more)) k is = absurd (cc)

  pub object_identifier : (v : Value) → h.kind ≡ Arcs → arcs p v r ≡ Ok x → Is v
  object_identifier (braces at more) k is = object_members at more k is
  object_identifier v k is = absurd (cc)
