-- The value after DEFAULT doesn't depend on the room that its text has.
use Rattle.std.proofs.Common.{◌≡◌, ℕ, zero, suc, List, [], ◌∷◌, Option, Some, None, Ok, codes, refl}
use Rattle.oer_model.specs.AsnValue.{AsnValue, bit_list, octets}
use Rattle.oer_module_defaults.specs.Arcs.{arc_at, arcs, arcs_by, braced, digits_in, only_member, or_no_text, or_too_wide, part_arcs, some_arcs}
use Rattle.oer_literals.specs.Numbers.{arc_of}
use Rattle.oer_module_defaults.specs.Atoms.{bit_token_at, boolean_at, digits_at, has_below, line_at, null_at, octet_string_at, single, text_at}
use Rattle.oer_module_defaults.specs.Atoms.{zeros_and_ones_at}
use Rattle.oer_module_defaults.specs.Bits.{bit_numbers, fixed_size, named_bits, some_bits, these_bits}
use Rattle.oer_module_defaults.specs.Alternatives.{Alternative}
use Rattle.oer_module_defaults.specs.Components.{Component, components_at, elements_of, item_in}
use Rattle.oer_module_defaults.specs.Defaults.{Target, choice_by, chosen_at, default_at, filled_at, found_at, governed_at, inner_at, item_by, items_at, kind_at}
use Rattle.oer_module_defaults.specs.Defaults.{list_at, list_by, list_of, literal_at, only_part, sequence_at, sequence_by, slot_by, source_at, value_at}
use Rattle.oer_module_defaults.specs.Filled.{Filled, empty, sequence_in}
use Rattle.oer_module_defaults.specs.Governors.{Governor, governor_at, is_taken_by}
use Rattle.oer_module_defaults.specs.Items.{bits_of, number_in_both}
use Rattle.oer_module_defaults.specs.Leaves.{bit_string_at, enumerated_at, integer_at}
use Rattle.oer_module_defaults.specs.Slots.{Slot, slots_in}
use Rattle.oer_module_defaults.specs.Values.{member_place, value_place}
use Rattle.oer_module_defaults.specs.Walks.{Literal, Source, reference_at, walk}
use Rattle.oer_module_defaults.specs.declared.governor.Kind.{Kind}
use Rattle.oer_module_defaults.specs.declared.governor.Kind.TheVariants.{Boolean, Null, Integer, Enumerated, Octets, Bits, Text, Arcs}
use Rattle.oer_module_defaults.specs.declared.governor.Kind.TheVariants.{Sequence, SequenceOf, Choice}
use Rattle.oer_module_lexer.specs.Token.{Spot}
use Rattle.oer_module_limits.specs.Limits.{size_limits}
use Rattle.oer_module_names.specs.declared.error.Place.{Place}
use Rattle.oer_module_syntax.specs.Modules.{none_left}
use Rattle.oer_module_syntax.specs.Tree.{Module, Tree}
use Rattle.oer_module_terms.specs.Trees.{named, Atom, amount, bits, digits, fixed, text, Value, braces, choice, Parts, no_parts, part, Members, no_members, member, Item}
use Rattle.oer_module_terms.specs.declared.tree.Fixed.TheVariants.{True, False, Null as NullWord}
use Rattle.oer_module_text.specs.Errors.{Read, limited_by, told_by, ◌>>=◌}
use Rattle.oer_module_text.specs.Room.{Room, put, take_part}
use Rattle.oer_module_values.specs.Numbers.{number_at, place_of_first}
use Rattle.oer_module_values.specs.Types.{TypeIn, type_in}
use Rattle.oer_value_notation.specs.Values.{digit_bits, inside, octets_in}
use Rattle.oer_values.specs.ValueView.{values_from}
use Rattle.oer_module_nesting.proofs.Alike.{Alike, Same, along, behind, bind, choose, once}
use Rattle.oer_module_nesting.proofs.Components.{alternative_same, components_same}

-- ---- OBJECT IDENTIFIER

arc : (p : Place) (v : Value) (r s : Room) → Alike Same (arc_at p v r) (arc_at p v s)
unfolding arc_at
arc p v r s = once Same (or_no_text p (digits_in v)) _ _ (λ w is. once Same (or_too_wide p (arc_of w)) _ _ (λ n as_is. record { related = refl }))

each_arc : (p : Place) (vs : Parts) (r s : Room) → Alike Same (some_arcs p vs r) (some_arcs p vs s)
each_arc p no_parts r s = record { related = refl }
each_arc p (part v vs) r s = bind Same Same _ _ _ _ (arc p v r s) (λ x y e.
    bind Same Same _ _ _ _ (each_arc p vs x.1 y.1) (λ a b f. record { related = rw (e, f) refl }))

in_braces : (p : Place) (vs : Parts) (r s : Room) → Alike Same (braced p vs r) (braced p vs s)
in_braces p vs r s = bind Same Same _ _ _ _ (each_arc p vs _ _) (λ x y e. record { related = rw e refl })

of_parts : (p : Place) (vs : Parts) (r s : Room) → Alike Same (part_arcs p vs r) (part_arcs p vs s)
of_parts p no_parts r s = record { related = tt }
of_parts p (part v no_parts) r s = record { related = tt }
of_parts p (part v (part w vs)) r s = in_braces p (part v (part w vs)) r s

of_member : (p : Place) (vs : Option Parts) (r s : Room) → Alike Same (arcs_by p vs r) (arcs_by p vs s)
of_member p None r s = record { related = tt }
of_member p (Some vs) r s = of_parts p vs r s

object_identifier : (p : Place) (v : Value) (r s : Room) → Alike Same (arcs p v r) (arcs p v s)
object_identifier p (braces at members) r s = of_member p (only_member members) r s
object_identifier p v r s = record { related = tt }

-- ---- values that are one token

boolean : (p : Place) (a : Option Atom) (r s : Room) → Alike Same (boolean_at p a r) (boolean_at p a s)
boolean p (Some (fixed True)) r s = record { related = refl }
boolean p (Some (fixed False)) r s = record { related = refl }
boolean p a r s = record { related = tt }

null : (p : Place) (a : Option Atom) (r s : Room) → Alike Same (null_at p a r) (null_at p a s)
null p (Some (fixed NullWord)) r s = record { related = refl }
null p a r s = record { related = tt }

of_digits : {A : Type 0} (make : A → AsnValue) (p : Place) (w : List ℕ) (x : Option A) (r s : Room)
    → Alike Same (digits_at make p w x r) (digits_at make p w x s)
of_digits make p w None r s = record { related = tt }
of_digits make p w (Some x) r s = record { related = refl }

octet_string : (p : Place) (a : Option Atom) (r s : Room) → Alike Same (octet_string_at p a r) (octet_string_at p a s)
octet_string p (Some (digits w)) r s = of_digits octets p w (octets_in (inside w)) r s
octet_string p (Some (bits w)) r s = record { related = tt }
octet_string p a r s = record { related = tt }

zeros_and_ones : (p : Place) (w : List ℕ) (r s : Room) → Alike Same (zeros_and_ones_at p w r) (zeros_and_ones_at p w s)
zeros_and_ones p w r s = choose Same (has_below 33 w) _ _ _ _ (record { related = tt }) (record { related = refl })

bit_token : (p : Place) (a : Option Atom) (r s : Room) → Alike Same (bit_token_at p a r) (bit_token_at p a s)
bit_token p (Some (bits w)) r s = zeros_and_ones p w r s
bit_token p (Some (digits w)) r s = of_digits bit_list p w (digit_bits (inside w)) r s
bit_token p a r s = record { related = tt }

line : (p : Place) (w : List ℕ) (r s : Room) → Alike Same (line_at p w r) (line_at p w s)
line p w r s = choose Same (has_below 32 w) _ _ _ _ (record { related = tt }) (record { related = refl })

string : (p : Place) (a : Option Atom) (r s : Room) → Alike Same (text_at p a r) (text_at p a s)
string p (Some (text w)) r s = line p w r s
string p a r s = record { related = tt }

-- ---- values of a type

module _ (ms : List Module) where
  these : (p : Place) (m size : ℕ) (is : List Item) (members : Members) (r s : Room)
      → Alike Same (these_bits ms p m size is members r) (these_bits ms p m size is members s)
  these p m size is members r s = once Same (bit_numbers ms p m size is members) _ _ (λ ns have. record { related = refl })

  some : (t : TypeIn) (p : Place) (g : Governor) (members : Members) (r s : Room)
      → Alike Same (some_bits ms t p g members r) (some_bits ms t p g members s)
  some t p g members r s = once Same (bits_of g) _ _ (λ is have. once Same (limited_by (size_limits ms t)) _ _ (λ sizes within.
      once Same (fixed_size p sizes) _ _ (λ size fits. these p g.«module» size is members r s)))

  by_names : (t : TypeIn) (p : Place) (g : Governor) (members : Members) (r s : Room)
      → Alike Same (named_bits ms t p g members r) (named_bits ms t p g members s)
  unfolding named_bits
  by_names t p g members r s = choose Same (none_left g.items) _ _ _ _ (record { related = tt }) (some t p g members r s)

  integer : (t : TypeIn) (p : Place) (a : Option Atom) (r s : Room) → Alike Same (integer_at ms t p a r) (integer_at ms t p a s)
  integer t p (Some (amount a)) r s = once Same (told_by (number_at ms t p a)) _ _ (λ z is. record { related = refl })
  integer t p a r s = record { related = tt }

  enumerated : (g h : Governor) (p : Place) (a : Option Atom) (r s : Room)
      → Alike Same (enumerated_at ms g h p a r) (enumerated_at ms g h p a s)
  enumerated g h p (Some (amount (named w steps))) r s = once Same (number_in_both ms g h p w) _ _ (λ z is. record { related = refl })
  enumerated g h p a r s = record { related = tt }

  bit_string : (t : TypeIn) (p : Place) (g : Governor) (v : Value) (r s : Room)
      → Alike Same (bit_string_at ms t p g v r) (bit_string_at ms t p g v s)
  bit_string t p g (braces at members) r s = by_names t p g members r s
  bit_string t p g v r s = bit_token p (single v) r s

-- ---- values that hold others

abbrev Valued : Type 0
Valued = TypeIn → ℕ → Value → Room → Read (AsnValue × Room)

abbrev ValuesSame : Valued → Type 0
ValuesSame f = (t : TypeIn) (m : ℕ) (v : Value) (r s : Room) → Alike Same (f t m v r) (f t m v s)

module _ (value : Valued) (same : ValuesSame value) where
  inner : (t : TypeIn) (m : ℕ) (v : Value) (r s : Room) → Alike Same (inner_at value t m v r) (inner_at value t m v s)
  inner t m v r s = behind Same (take_part (value_place m v) r) (take_part (value_place m v) s) _ _ (λ r' s'. same t m v r' s')

  slot : (m : ℕ) (c : Component) (v : Option Value) (f : Filled) (r s : Room) → Alike Same (slot_by value m c v f r) (slot_by value m c v f s)
  slot m c None f r s = record { related = refl }
  slot m c (Some v) f r s = bind Same Same _ _ _ _ (inner (type_in c.«module» c.type) m v _ _) (λ x y e. record { related = rw e refl })

  slots : (m : ℕ) (ss : List Slot) (f : Filled) (r s : Room) → Alike Same (filled_at value m ss f r) (filled_at value m ss f s)
  slots m [] f r s = record { related = refl }
  slots m (a ∷ ss) f r s =
      bind Same Same _ _ _ _ (slot m a.component a.value f r s) (λ x y is.
      along Same _ (λ g. filled_at value m ss g y.1) x.0 y.0 is (slots m ss x.0 x.1 y.1))

  item : (p q : Place) (t : TypeIn) (v : Option Value) (found : List AsnValue) (r s : Room)
      → Alike Same (item_by value p q t v found r) (item_by value p q t v found s)
  item p q t None found r s = record { related = tt }
  item p q t (Some v) found r s = bind Same Same _ _ _ _ (inner t p.«module» v _ _) (λ x y e. record { related = rw e refl })

  each_item : (p : Place) (t : TypeIn) (members : Members) (found : List AsnValue) (r s : Room)
      → Alike Same (items_at value p t members found r) (items_at value p t members found s)
  each_item p t no_members found r s = record { related = refl }
  each_item p t (member vs more) found r s =
      bind Same Same _ _ _ _ (item p (member_place p vs) t (only_part vs) found r s) (λ x y is.
      along Same _ (λ is. items_at value p t more is y.1) x.0 y.0 is (each_item p t more x.0 x.1 y.1))

  in_list : (p : Place) (t : TypeIn) (members : Members) (r s : Room) → Alike Same (list_at value p t members r) (list_at value p t members s)
  in_list p t members r s = bind Same Same _ _ _ _ (each_item p t members [] _ _) (λ x y e. record { related = rw e refl })

  list : (p : Place) (t : TypeIn) (v : Value) (r s : Room) → Alike Same (list_of value p t v r) (list_of value p t v s)
  list p t (braces at members) r s = in_list p t members r s
  list p t v r s = record { related = tt }

  list_by_item : (p : Place) (m : ℕ) (t : Option Tree) (v : Value) (r s : Room)
      → Alike Same (list_by value p m t v r) (list_by value p m t v s)
  list_by_item p m None v r s = record { related = tt }
  list_by_item p m (Some t) v r s = list p (type_in m t) v r s

  chosen_one : (p : Place) (w : List ℕ) (v : Value) (a : Alternative) (r s : Room)
      → Alike Same (chosen_at value p w v a r) (chosen_at value p w v a s)
  chosen_one p w v a r s = bind Same Same _ _ _ _ (inner a.of p.«module» v _ _) (λ x y e. record { related = rw e refl })

  module _ (ms : List Module) where
    in_sequence : (p : Place) (g : Governor) (members : Members) (r s : Room)
        → Alike Same (sequence_at value ms p g members r) (sequence_at value ms p g members s)
    in_sequence p g members r s =
        once Same (elements_of p g.type) _ _ (λ es have.
        bind Same Same _ _ _ _ (components_same ms g.«module» es r s) (λ a b is.
        along Same _ (λ cs. slots_in p cs members >>= λ ss. (filled_at value p.«module» ss empty (put (codes "{") b.1)
        >>= λ x. Ok (sequence_in x.0, put (codes "}") x.1))) a.0 b.0 is
        (once Same (slots_in p a.0 members) _ _ (λ ss got.
        bind Same Same _ _ _ _ (slots p.«module» ss empty _ _) (λ x y e. record { related = rw e refl })))))

    sequence : (p : Place) (g : Governor) (v : Value) (r s : Room) → Alike Same (sequence_by value ms p g v r) (sequence_by value ms p g v s)
    sequence p g (braces at members) r s = in_sequence p g members r s
    sequence p g v r s = record { related = tt }

    chosen_by : (p : Place) (g : Governor) (v : Value) (r s : Room) → Alike Same (choice_by value ms p g v r) (choice_by value ms p g v s)
    chosen_by p g (choice at w v) r s =
        bind Same Same _ _ _ _ (alternative_same ms p g w r s) (λ a b is.
        along Same _ (λ c. chosen_at value p w v c b.1) a.0 b.0 is (chosen_one p w v a.0 a.1 b.1))
    chosen_by p g v r s = record { related = tt }

    -- ---- all kinds

    of_kind : (k : Kind) (t : Target) (l : Literal) (r s : Room) → Alike Same (kind_at value ms k t l r) (kind_at value ms k t l s)
    of_kind Boolean t l r s = boolean l.place (single l.value) r s
    of_kind Null t l r s = null l.place (single l.value) r s
    of_kind Integer t l r s = integer ms t.of l.place (single l.value) r s
    of_kind Enumerated t l r s = enumerated ms t.governor l.governor l.place (single l.value) r s
    of_kind Octets t l r s = octet_string l.place (single l.value) r s
    of_kind Bits t l r s = bit_string ms t.of l.place l.governor l.value r s
    of_kind Text t l r s = string l.place (single l.value) r s
    of_kind Arcs t l r s = object_identifier l.place l.value r s
    of_kind Sequence t l r s = sequence l.place l.governor l.value r s
    of_kind SequenceOf t l r s = list_by_item l.place l.governor.«module» (item_in l.governor.type) l.value r s
    of_kind Choice t l r s = chosen_by l.place l.governor l.value r s

    literal : (t : Target) (l : Literal) (r s : Room) → Alike Same (literal_at value ms t l r) (literal_at value ms t l s)
    literal t l r s =
        choose Same (is_taken_by t.governor l.governor) _ _ _ _ (of_kind l.governor.kind t l r s) (record { related = tt })

    source : (t : Target) (u : Source) (r s : Room) → Alike Same (source_at value ms t u r) (source_at value ms t u s)
    source t u r s = once Same (walk ms 255 u) _ _ (λ l reached. literal t l r s)

    found : (t : Target) (p : Place) (v : Value) (u : Option Source) (r s : Room) → Alike Same (found_at value ms t p v u r) (found_at value ms t p v u s)
    found t p v (Some u) r s = source t u r s
    found t p v None r s = literal t (record { place = p; governor = t.governor; value = v }) r s

    governed : (t : TypeIn) (p : Place) (v : Value) (r s : Room) → Alike Same (governed_at value ms t p v r) (governed_at value ms t p v s)
    governed t p v r s =
        once Same (governor_at ms p t) _ _ (λ g governs.
        once Same (reference_at ms p g v) _ _ (λ u refers. found (record { of = t; governor = g }) p v u r s))

-- ---- all levels

module _ (ms : List Module) where
  no_levels : ValuesSame (value_at ms zero)
  unfolding value_at
  no_levels t m v r s = record { related = tt }

  more_levels : (levels : ℕ) → ValuesSame (value_at ms levels) → ValuesSame (value_at ms (suc levels))
  unfolding value_at
  more_levels levels same t m v r s = governed (value_at ms levels) same ms t (value_place m v) v r s

  all_levels : (levels : ℕ) → ValuesSame (value_at ms levels)
  all_levels zero = no_levels
  all_levels (suc levels) = more_levels levels (all_levels levels)

  pub default : (t : TypeIn) (m : ℕ) (ts : List Spot) (r s : Room) → Alike Same (default_at ms t m ts r) (default_at ms t m ts s)
  unfolding default_at
  default t m ts r s = once Same (governor_at ms (place_of_first m ts) t) _ _ (λ g governs.
      source (value_at ms 31) (all_levels 31) ms (record { of = t; governor = g }) (record { «module» = m; governor = g; spots = ts }) r s)
