-- Whether octets are canonical, read without making a value: the answers of the reader, and true exactly where the
-- octets taken are canonical.
use Rattle.std.specs.Prelude.{ℕ, zero, suc, ◌-◌, List, [], ◌∷◌, length, take, drop, Bool, true, false, not, ◌&&◌, ◌||◌, leb, eqb, ℤ, Option}
use Rattle.std.specs.Str.{is_utf8, chars}
use Rattle.oer_units.specs.Reading as unit
use Rattle.oer_units.specs.declared.fault.Why.TheVariants as reason
use Rattle.oer_units.specs.Least.{counted, enumerated_octets, length_octets, unsigned_octets}
use Rattle.oer_units.specs.Numbers.{natural, signed}
use Rattle.oer_units.specs.Reader.{Outcome, Place, Reader, bind, choose, filled_by, give, got, group, guard, refuse, refused, within}
use Rattle.oer_units.specs.Reading.{counted_number, counted_octets, determinant, number, octet, subidentifier, tag}
use Rattle.oer_units.specs.declared.fault.Why.TheVariants.{Character, IntegerRange, ObjectId, UnknownAddition, UnknownAlternative, UnknownEnum}
use Rattle.oer_units.specs.declared.tagging.Tag.{Tag}
use Rattle.oer_model.specs.Limits.{addition_places}
use Rattle.oer_model.specs.ContentType.{ContentType, object_id, octet_string, restricted_string, utf8_string}
use Rattle.oer_model.specs.LeafType.{LeafType, bit_string, boolean, content, enumerated, integer, null}
use Rattle.oer_model.specs.AsnType.{Additions, Alternatives, AsnType, Fields, Need, addition, alternative, choice, default, extensible_sequence, field, later, leaf, may, must, no_additions, no_alternatives, no_fields, sequence, sequence_of}
use Rattle.oer_model.specs.AsnValue.{AsnValue}
use Rattle.oer_model.specs.Bits.{all_false, bits_of, first_bit, later_bits, spare_bits}
use Rattle.oer_model.specs.Canonical.{bit_octets, bitmap_octets, canonical_octets, integer_octets, same_list, string_octets}
use Rattle.oer_model.specs.Constraints.{Form, addition_count, all_characters, fixed, form_of, has_number, has_tag, in_range, optional, same_tag, signed_counted, signed_fixed, size_fits, unsigned_counted, unsigned_fixed}
use Rattle.oer_model.specs.Reading.{bitmap, preamble, quantity, read_bits, read_octets}
use Rattle.oer_model.specs.declared.size.Size.{Size}

abbrev pub judge : {A : Type 0} → (A → List ℕ → Bool) → Place → Outcome A → Outcome (A × Bool)
judge test p (got x q) = got (x, test x (take (length p.input - length q.input) p.input)) q
judge test p (refused why rest) = refused why rest

-- what r reads, and whether it and the octets taken pass the test
unfoldable pub judged : {A : Type 0} → (A → List ℕ → Bool) → Reader A → Reader (A × Bool)
judged test r p = judge test p (r p)

-- what c answers, and whether f holds too
unfoldable pub and_also : Bool → Reader Bool → Reader Bool
and_also f c = bind c (λ g. give (f && g))

unfoldable pub both : Reader Bool → Reader Bool → Reader Bool
both c d = bind c (λ f. and_also f d)

-- c, and whether the octets taken are others than d
unfoldable pub unlike : List ℕ → Reader Bool → Reader Bool
unlike d c = bind (judged (λ f b. not (same_list b d)) c) (λ y. give (y.0 && y.1))

-- there are as many octets as in the least form of what they stand for
abbrev pub is_least : {A : Type 0} → (A → List ℕ) → A → List ℕ → Bool
is_least f x b = eqb (length b) (length (f x))

-- a length in its least form, and what it asks for
unfoldable pub check_length : (ℕ → Reader Bool) → Reader Bool
check_length c = bind (judged (is_least length_octets) determinant) (λ y. and_also y.1 (within y.0 (c y.0)))

unfoldable pub check_open : Reader Bool → Reader Bool
check_open c = check_length (λ n. filled_by n c)

unfoldable pub check_group : ℕ → Reader Bool
check_group n = bind (group n) (λ w. give true)

unfoldable pub check_octets : Reader Bool
check_octets = check_length check_group

abbrev pub check_times : ℕ → Reader Bool → Reader Bool
check_times zero c = give true
check_times (suc n) c = both c (check_times n c)

abbrev pub check_bit : Bool → Reader Bool → Reader Bool → Reader Bool
check_bit true c rest = both c rest
check_bit false c rest = rest

-- d: the canonical octets of a default
abbrev pub check_need : Need → (AsnValue → List ℕ) → Reader Bool → (List Bool → Reader Bool) → List Bool → Reader Bool
check_need must d c rest s = both c (rest s)
check_need may d c rest s = check_bit (first_bit s) c (rest (later_bits s))
check_need (default v) d c rest s = check_bit (first_bit s) (unlike (d v) c) (rest (later_bits s))

abbrev pub check_by_tag : Bool → Reader Bool → Reader Bool → Reader Bool
check_by_tag true c rest = c
check_by_tag false c rest = rest

abbrev pub check_unknown : List Bool → Reader Bool
check_unknown [] = give true
check_unknown (true ∷ s) = both check_octets (check_unknown s)
check_unknown (false ∷ s) = check_unknown s

-- its last bit is set, if it has any
abbrev pub ends_set : List Bool → Bool
ends_set [] = true
ends_set (x ∷ []) = x
ends_set (x ∷ y ∷ s) = ends_set (y ∷ s)

-- the bits after s, to the end of the last octet, are 0
abbrev pub ends_in_zeros : List Bool → List ℕ → Bool
ends_in_zeros s b = all_false (drop (length (bits_of b) - spare_bits (length s)) (bits_of b))

-- a bit string in its least form f
abbrev pub are_least_bits : (List Bool → List ℕ) → List Bool → List ℕ → Bool
are_least_bits f s b = is_least f s b && ends_in_zeros s b

-- a bitmap with a set bit, and as many bits as the known additions or the last unknown one ask for
abbrev pub is_bitmap : ℕ → List Bool → List ℕ → Bool
is_bitmap n s m = are_least_bits bitmap_octets s m && (not (all_false s) && (leb n (length s) && ends_set (drop n s)))

abbrev pub check_extension : Bool → Additions → (List Bool → Reader Bool) → Reader Bool
check_extension false more c = give true
check_extension true more c =
    bind (judged (is_bitmap (addition_count more)) bitmap)
    (λ y. guard (all_false (drop addition_places y.0)) UnknownAddition
    (and_also y.1 (both (c y.0) (check_unknown (drop (addition_count more) y.0)))))

unfoldable pub check_sequence : ℕ → (List Bool → Reader Bool) → Reader Bool
check_sequence k c = bind (preamble k) c

unfoldable pub check_extensible : ℕ → (List Bool → Reader Bool) → (Bool → Reader Bool) → Reader Bool
check_extensible k c x = bind (preamble (suc k)) (λ s. both (c (later_bits s)) (x (first_bit s)))

-- the least form of a quantity
abbrev pub quantity_octets : ℕ → List ℕ
quantity_octets n = counted (unsigned_octets n)

unfoldable pub check_items : (ℕ → Bool) → Reader Bool → Reader Bool
check_items fits c = bind (judged (is_least quantity_octets) quantity) (λ y. and_also y.1
    (within y.0 (guard (fits y.0) reason.Size (check_times y.0 c))))

abbrev pub check_chosen : Bool → Alternatives → (Tag → Reader Bool) → Tag → Reader Bool
check_chosen extensible more c t = choose (has_tag t more) (c t) (guard extensible UnknownAlternative check_octets)

unfoldable pub check_choice : Bool → Alternatives → (Tag → Reader Bool) → Reader Bool
check_choice extensible more c = bind tag (check_chosen extensible more c)

-- A number of fixed width has one spelling.
abbrev pub check_integer : Form → (ℤ → Bool) → Reader Bool
check_integer (unsigned_fixed n) test = bind (number IntegerRange natural test n) (λ z. give true)
check_integer (signed_fixed n) test = bind (number IntegerRange signed test n) (λ z. give true)
check_integer unsigned_counted test =
    bind (judged (is_least (integer_octets unsigned_counted)) (counted_number natural test)) (λ y. give y.1)
check_integer signed_counted test = bind (judged (is_least (integer_octets signed_counted)) (counted_number signed test)) (λ y. give y.1)

unfoldable pub check_enumerated : (ℤ → Bool) → Reader Bool
check_enumerated test = bind (judged (is_least enumerated_octets) unit.enumerated) (λ y. guard (test y.0) UnknownEnum (give y.1))

unfoldable pub check_bits : Option ℕ → Size → Reader Bool
check_bits fix s = bind (judged (are_least_bits (bit_octets fix)) (read_bits fix s)) (λ y. give y.1)

-- the subidentifiers of n octets, of which there are at most fuel
unfoldable pub check_subidentifiers : ℕ → ℕ → Reader Bool
check_subidentifiers zero n = give true
check_subidentifiers (suc fuel) n = choose (eqb n 0) (give true) (bind (subidentifier n) (λ x. check_subidentifiers fuel (n - x.1)))

-- Each subidentifier has one spelling.
unfoldable pub check_object_id : Reader Bool
check_object_id = check_length (λ n. guard (leb 1 n) ObjectId (check_subidentifiers n n))

unfoldable pub check_octet_string : Option ℕ → Size → Reader Bool
check_octet_string fix s = bind (judged (is_least (string_octets fix)) (read_octets fix s)) (λ y. give y.1)

unfoldable pub check_text : (List ℕ → Bool) → Option ℕ → Size → Reader Bool
check_text test fix s = bind (judged (is_least (string_octets fix)) (read_octets fix s)) (λ y. guard (test y.0) Character (give y.1))

unfoldable pub check_utf8 : Size → Reader Bool
check_utf8 s = bind (judged (is_least counted) counted_octets) (λ y. guard (is_utf8 y.0) Character
    (guard (size_fits s (length (chars y.0))) reason.Size (give y.1)))

abbrev pub check_content : ContentType → Reader Bool
check_content (octet_string s) = check_octet_string (fixed s) s
check_content object_id = check_object_id
check_content (restricted_string letters s) = check_text (all_characters letters) (fixed s) s
check_content (utf8_string s) = check_utf8 s

abbrev pub check_leaf : LeafType → Reader Bool
check_leaf boolean = bind octet (λ x. give (eqb x 0 || eqb x 255))
check_leaf null = give true
check_leaf (integer low high) = check_integer (form_of low high) (in_range low high)
check_leaf (enumerated numbers extensible) = check_enumerated (λ z. extensible || has_number numbers z)
check_leaf (bit_string s) = check_bits (fixed s) s
check_leaf (content kind) = check_content kind

abbrev mutual
  pub check_value : AsnType → Reader Bool
  check_value (leaf kind) = check_leaf kind
  check_value (sequence fs) = check_sequence (optional fs) (check_fields fs)
  check_value (extensible_sequence fs more) =
      check_extensible (optional fs) (check_fields fs) (λ x. check_extension x more (check_additions more))
  check_value (sequence_of s T) = check_items (size_fits s) (check_value T)
  check_value (choice extensible more) = check_choice extensible more (check_alternative more)

  pub check_fields : Fields → List Bool → Reader Bool
  check_fields no_fields s = give true
  check_fields (field name need T fs) s = check_need need (canonical_octets T) (check_value T) (check_fields fs) s

  pub check_additions : Additions → List Bool → Reader Bool
  check_additions no_additions s = give true
  check_additions (addition name T more) s = check_bit (first_bit s) (check_open (check_value T)) (check_additions more (later_bits s))

  pub check_alternative : Alternatives → Tag → Reader Bool
  check_alternative no_alternatives t = refuse UnknownAlternative
  check_alternative (alternative name u T more) t = check_by_tag (same_tag u t) (check_value T) (check_alternative more t)
  check_alternative (later name u T more) t = check_by_tag (same_tag u t) (check_open (check_value T)) (check_alternative more t)
