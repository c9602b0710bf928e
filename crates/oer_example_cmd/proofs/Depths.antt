-- The JSON of a value nests no deeper than its type.
use Rattle.std.proofs.Common.{◌≡◌, ℕ, suc, ◌≤◌, ◌<◌, max, List, [], ◌∷◌, Bool, true, false, if◌then◌else◌, ℤ, Option, Some, None, refl, arith}
use Rattle.std.specs.Ordering.{match_ordering, nat_cmp}
use Rattle.std.specs.Cmp.Lexicographic.{slice_cmp}
use Rattle.std.specs.declared.cmp.Ordering.{Ordering}
use Rattle.std.specs.declared.cmp.Ordering.TheVariants.{Less, Equal, Greater}
use Rattle.serde_json.specs.Data.{Data, Members, member, no_members, put, depth, items_depth, members_depth}
use Rattle.oer_units.specs.declared.tagging.Tag.{Tag}
use Rattle.oer_model.specs.AsnType.{Additions, Alternatives, AsnType, Fields, NamedNumber, addition, alternative, choice}
use Rattle.oer_model.specs.AsnType.{extensible_sequence, field, later, leaf, no_additions, no_alternatives, no_fields, sequence, sequence_of}
use Rattle.oer_model.specs.AsnValue.{AsnValue, Places, Unknown, Values, absent, chosen, foreign, items, leaf_value, no_places, no_values, present, seq, unknown, value}
use Rattle.oer_model.specs.Constraints.{same_tag}
use Rattle.oer_model.specs.LeafValue.{LeafValue, bit_list, bool, enum, int, nothing, octets, oid, text}
use Rattle.oer_model.specs.WellFormed.{IsWellFormed, additions_depth, alternatives_depth, fields_depth}
use Rattle.oer_model.specs.WellFormed as well_formed
use Rattle.oer_model.specs.declared.fault.SchemaFault.TheVariants.{TooDeep}
use Rattle.oer_json.specs.Keys.{place_key}
use Rattle.oer_literals.specs.Items.{name_of}
use Rattle.oer_json.specs.Made.{has_64_bits, made, made_alternative, made_item, made_items, made_leaf, made_octets, named_numbers, put_additions, put_fields, put_unknown}

put_depth : (k : List ℕ) (d : Data) (ms : Members) (n : ℕ) → depth d ≤ n → members_depth ms ≤ n → members_depth (put k d ms) ≤ n
put_depth k d no_members n a b = omega arith
put_depth k d (member l e ms) n a b = by (slice_cmp nat_cmp k l) (put_depth k d ms n a (omega arith))
  where
    by : (o : Ordering) → members_depth (put k d ms) ≤ n → members_depth (match_ordering o (member k d (member l e ms)) (member l d ms) (member l e (put k d ms))) ≤ n
    by Less s = omega arith
    by Equal s = omega arith
    by Greater s = omega arith

integer_depth : (b : Bool) (x y : Data) → depth x ≡ 0 → depth y ≡ 0 → depth (if b then x else y) ≡ 0
integer_depth true x y e f = e
integer_depth false x y e f = f

item_depth : (name : Option (List ℕ)) (z : ℤ) → depth (made_item name z) ≡ 0
item_depth None z = refl
item_depth (Some name) z = refl

leaf_depth : (numbers : List NamedNumber) (v : LeafValue) → depth (made_leaf numbers v) ≡ 0
leaf_depth numbers (bool b) = refl
leaf_depth numbers nothing = refl
leaf_depth numbers (int z) = integer_depth (has_64_bits z) _ _ refl refl
leaf_depth numbers (enum z) = item_depth (name_of numbers z) z
leaf_depth numbers (bit_list s) = refl
leaf_depth numbers (octets w) = refl
leaf_depth numbers (oid arcs) = refl
leaf_depth numbers (text w) = refl

unknown_depth : (us : List Unknown) (ms : Members) (n : ℕ) → members_depth ms ≤ n → members_depth (put_unknown us ms) ≤ n
unknown_depth [] ms n h = h
unknown_depth (unknown m w ∷ us) ms n h = unknown_depth us (put (place_key m) (made_octets w) ms) n (put_depth (place_key m) (made_octets w) ms n (omega arith) h)

one_level : (T : AsnType) → 1 ≤ well_formed.depth T
one_level (leaf kind) = omega arith
one_level (sequence fs) = omega arith
one_level (extensible_sequence fs more) = omega arith
one_level (sequence_of s T) = omega arith
one_level (choice e more) = omega arith

either_depth : (b : Bool) (x y : Data) (n : ℕ) → depth x ≤ n → depth y ≤ n → depth (if b then x else y) ≤ n
either_depth true x y n h k = h
either_depth false x y n h k = k

values_depth : (f : AsnValue → Data) (n : ℕ) → ((v : AsnValue) → depth (f v) ≤ n) → (vs : Values) → items_depth (made_items f vs) ≤ n
values_depth f n h no_values = omega arith
values_depth f n h (value v vs) = let k = h v in let l = values_depth f n h vs in omega (arith, k, l)

mutual
  made_depth : (T : AsnType) (v : AsnValue) → depth (made T v) ≤ well_formed.depth T
  made_depth T (leaf_value v) = omega (arith, leaf_depth (named_numbers T) v, one_level T)
  made_depth (sequence fs) (seq root added us) = let k = fields_within fs root no_members (fields_depth fs) (omega arith) (omega arith) in omega (arith, k)
  made_depth (extensible_sequence fs more) (seq root added us) =
      let n = max (fields_depth fs) (additions_depth more) in
      let k = fields_within fs root no_members n (omega arith) (omega arith) in
      let l = additions_within more added (put_fields fs root no_members) n (omega arith) k in
      let m = unknown_depth us (put_additions more added (put_fields fs root no_members)) n l in
      omega (arith, m)
  made_depth (sequence_of s T) (items vs) = let k = values_depth (made T) (well_formed.depth T) (made_depth T) vs in omega (arith, k)
  made_depth (choice e more) (chosen t v) = alternative_within more t v
  made_depth T (foreign t w) = omega (arith, one_level T)
  made_depth T v = omega arith

  fields_within : (fs : Fields) (ps : Places) (ms : Members) (n : ℕ) → fields_depth fs ≤ n → members_depth ms ≤ n → members_depth (put_fields fs ps ms) ≤ n
  fields_within no_fields ps ms n h k = k
  fields_within (field name need T fs) no_places ms n h k = k
  fields_within (field name need T fs) (absent ps) ms n h k = fields_within fs ps ms n (omega arith) k
  fields_within (field name need T fs) (present v ps) ms n h k =
      let l = made_depth T v in
      fields_within fs ps (put name (made T v) ms) n (omega arith) (put_depth name (made T v) ms n (omega (arith, l)) k)

  additions_within : (more : Additions) (ps : Places) (ms : Members) (n : ℕ) → additions_depth more ≤ n → members_depth ms ≤ n
      → members_depth (put_additions more ps ms) ≤ n
  additions_within no_additions ps ms n h k = k
  additions_within (addition name T more) no_places ms n h k = k
  additions_within (addition name T more) (absent ps) ms n h k = additions_within more ps ms n (omega arith) k
  additions_within (addition name T more) (present v ps) ms n h k =
      let l = made_depth T v in
      additions_within more ps (put name (made T v) ms) n (omega arith) (put_depth name (made T v) ms n (omega (arith, l)) k)

  alternative_within : (more : Alternatives) (t : Tag) (v : AsnValue) → depth (made_alternative more t v) ≤ suc (alternatives_depth more)
  alternative_within no_alternatives t v = omega arith
  alternative_within (alternative name u T more) t v =
      let k = made_depth T v in let l = alternative_within more t v in either_depth (same_tag u t) _ _ _ (omega (arith, k)) (omega (arith, l))
  alternative_within (later name u T more) t v =
      let k = made_depth T v in let l = alternative_within more t v in either_depth (same_tag u t) _ _ _ (omega (arith, k)) (omega (arith, l))

few_levels : (n : ℕ) → (32 < n → ⊥) → n ≤ 127
few_levels n h = grind arith

pub made_shallow : (T : AsnType) (v : AsnValue) → IsWellFormed T → depth (made T v) ≤ 127
made_shallow T v w = let l = made_depth T v in let k = few_levels (well_formed.depth T) (w.faultless TooDeep) in omega (arith, l, k)
