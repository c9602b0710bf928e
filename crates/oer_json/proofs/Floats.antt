-- The JSON of a value has no float.
use Rattle.std.proofs.Common.{◌≡◌, ℕ, ℤ, pos, negsuc, List, [], ◌∷◌, Option, Some, None, Bool, true, false, refl, ap, ◌∙◌, Ordering, true≢false}
use Rattle.std.specs.Prelude.{◌||◌, if◌then◌else◌}
use Rattle.std.specs.Fmt.{signed_decimal}
use Rattle.std.specs.declared.cmp.Ordering.TheVariants.{Less, Equal, Greater}
use Rattle.std.specs.Ordering.{nat_cmp, match_ordering}
use Rattle.std.specs.Cmp.Lexicographic.{slice_cmp}
use Rattle.serde_json.specs.Data as json
use Rattle.serde_json.specs.Data.{Data, Members, no_members, member, put}
use Rattle.serde_json.specs.Find.{of_integer}
use Rattle.serde_json.specs.Written.{has_float, items_have_float, members_have_float}
use Rattle.oer_units.specs.declared.tagging.Tag.{Tag}
use Rattle.oer_model.specs.LeafValue.{LeafValue, enum, int}
use Rattle.oer_model.specs.AsnType.{Additions, Alternatives, AsnType, Fields, NamedNumber, addition, alternative, choice, extensible_sequence, field, later, no_additions, no_alternatives, no_fields, sequence, sequence_of}
use Rattle.oer_model.specs.AsnValue.{AsnValue, Places, Unknown, Values, absent, chosen, items, leaf_value, no_places, no_values, present, seq, unknown, value}
use Rattle.oer_model.specs.Constraints.{same_tag}
use Rattle.oer_json.specs.Keys.{place_key}
use Rattle.oer_json.specs.Made.{has_64_bits, made, made_alternative, made_item, made_items, made_leaf, made_octets, named_numbers, one_member, put_additions, put_fields, put_unknown}
use Rattle.oer_literals.specs.Items.{name_of}
use Rattle.oer_json.proofs.Making.{made-leaf_value}

or_none : (a b : Bool) → a ≡ false → b ≡ false → (a || b) ≡ false
or_none a b e f = rw (e, f) refl

left : (a b : Bool) → (a || b) ≡ false → a ≡ false
left true b e = e
left false b e = refl

right : (a b : Bool) → (a || b) ≡ false → b ≡ false
right true b e = absurd (true≢false e)
right false b e = e

at : (o : Ordering) (k l : List ℕ) (d e : Data) (ms : Members) → has_float d ≡ false → members_have_float (member l e ms) ≡ false
    → members_have_float (put k d ms) ≡ false
    → members_have_float (match_ordering o (member k d (member l e ms)) (member l d ms) (member l e (put k d ms))) ≡ false
at Less k l d e ms none more put = or_none _ _ none more
at Equal k l d e ms none more put = or_none _ _ none (right (has_float e) _ more)
at Greater k l d e ms none more put = or_none _ _ (left (has_float e) _ more) put

put_none : (k : List ℕ) (d : Data) (ms : Members) → has_float d ≡ false → members_have_float ms ≡ false → members_have_float (put k d ms) ≡ false
put_none k d no_members none more = or_none _ _ none refl
put_none k d (member l e ms) none more =
    at (slice_cmp nat_cmp k l) k l d e ms none more (put_none k d ms none (right (has_float e) _ more))

whole_none : (z : ℤ) → has_float (json.number (of_integer z)) ≡ false
whole_none (pos n) = refl
whole_none (negsuc n) = refl

integer_none : (b : Bool) (z : ℤ) → has_float (if b then json.number (of_integer z) else json.string (signed_decimal z)) ≡ false
integer_none true z = whole_none z
integer_none false z = refl

item_none : (name : Option (List ℕ)) (z : ℤ) → has_float (made_item name z) ≡ false
item_none None z = whole_none z
item_none (Some name) z = refl

one_none : (name : List ℕ) (d : Data) → has_float d ≡ false → has_float (one_member name d) ≡ false
one_none name d none = or_none _ _ none refl

one_of : (b : Bool) (c d : Data) → has_float c ≡ false → has_float d ≡ false → has_float (if b then c else d) ≡ false
one_of true c d e f = e
one_of false c d e f = f

unknown_none : (us : List Unknown) (ms : Members) → members_have_float ms ≡ false → members_have_float (put_unknown us ms) ≡ false
unknown_none [] ms more = more
unknown_none (unknown n w ∷ us) ms more = unknown_none us _ (put_none (place_key n) (made_octets w) ms refl more)

items_none : (f : AsnValue → Data) → ((v : AsnValue) → has_float (f v) ≡ false) → (vs : Values) → items_have_float (made_items f vs) ≡ false
items_none f each no_values = refl
items_none f each (value v vs) = or_none _ _ (each v) (items_none f each vs)

leaf_none : (numbers : List NamedNumber) (v : LeafValue) → has_float (made_leaf numbers v) ≡ false
leaf_none numbers (int z) = integer_none (has_64_bits z) z
leaf_none numbers (enum z) = item_none (name_of numbers z) z
leaf_none numbers v = refl

mutual
  pub made_none : (T : AsnType) (v : AsnValue) → has_float (made T v) ≡ false
  made_none T (leaf_value v) = ap has_float (made-leaf_value T v) ∙ leaf_none (named_numbers T) v
  made_none (sequence fs) (seq root added us) = fields_none fs root no_members refl
  made_none (extensible_sequence fs more) (seq root added us) = unknown_none us _ (additions_none more added _ (fields_none fs root no_members refl))
  made_none (sequence_of size T) (items vs) = items_none (made T) (λ v. made_none T v) vs
  made_none (choice extensible more) (chosen t v) = alternative_none more t v
  made_none _ _ = refl

  fields_none : (fs : Fields) (ps : Places) (ms : Members) → members_have_float ms ≡ false → members_have_float (put_fields fs ps ms) ≡ false
  fields_none no_fields ps ms more = more
  fields_none (field name need T fs) no_places ms more = more
  fields_none (field name need T fs) (absent ps) ms more = fields_none fs ps ms more
  fields_none (field name need T fs) (present v ps) ms more = fields_none fs ps _ (put_none name (made T v) ms (made_none T v) more)

  additions_none : (more : Additions) (ps : Places) (ms : Members) → members_have_float ms ≡ false → members_have_float (put_additions more ps ms) ≡ false
  additions_none no_additions ps ms none = none
  additions_none (addition name T more) no_places ms none = none
  additions_none (addition name T more) (absent ps) ms none = additions_none more ps ms none
  additions_none (addition name T more) (present v ps) ms none = additions_none more ps _ (put_none name (made T v) ms (made_none T v) none)

  alternative_none : (more : Alternatives) (t : Tag) (v : AsnValue) → has_float (made_alternative more t v) ≡ false
  alternative_none no_alternatives t v = refl
  alternative_none (alternative name u T more) t v = one_of (same_tag u t) _ _ (one_none name (made T v) (made_none T v)) (alternative_none more t v)
  alternative_none (later name u T more) t v = one_of (same_tag u t) _ _ (one_none name (made T v) (made_none T v)) (alternative_none more t v)
