-- How a value is read from a list: the groups, the steps and the refusals, in their order.
use Rattle.std.specs.Prelude.{ℕ, suc, ◌-◌, ◌*◌, ◌^◌, List, [], ◌∷◌, length, take, drop, Bool, true, false, not, ◌&&◌, ◌||◌, leb, ltb, eqb, ℤ, Option, Some, None}
use Rattle.oer_units.specs.Reading as unit
use Rattle.oer_units.specs.declared.fault.Why.TheVariants as reason
use Rattle.oer_units.specs.Numbers.{natural, signed, unsigned}
use Rattle.oer_units.specs.Reader.{Reader, bind, choose, give, group, guard, refuse, times, within}
use Rattle.oer_units.specs.Reading.{counted_number, counted_octets, number, octet, open_type, tag, with_length}
use Rattle.oer_units.specs.declared.fault.Why.TheVariants.{BitUnused, IntegerRange, PreamblePadding, UnknownAddition, UnknownAlternative, UnknownEnum}
use Rattle.oer_units.specs.declared.tagging.Tag.{Tag}
use Rattle.oer_model.specs.Limits.{addition_places}
use Rattle.oer_model.specs.LeafType.{LeafType, bit_string, boolean, content, enumerated, integer, null}
use Rattle.oer_model.specs.AsnType.{Additions, Alternatives, AsnType, Fields, Need, addition, alternative, choice, default, extensible_sequence, field, later, leaf, may, must, no_additions, no_alternatives, no_fields, sequence, sequence_of}
use Rattle.oer_model.specs.AsnValue.{AsnValue, Places, Unknown, absent, bit_list, bool, chosen, enum, foreign, int, items, leaf_value, no_places, nothing, present, seq, unknown}
use Rattle.oer_model.specs.Bits.{all_false, bits_of, first_bit, later_bits, octets_for}
use Rattle.oer_model.specs.Constraints.{Form, addition_count, any_size, fixed, form_of, has_number, has_tag, in_range, optional, same_tag, signed_counted, signed_fixed, size_fits, unsigned_counted, unsigned_fixed}
use Rattle.oer_model.specs.Contents.{content_value, read_content}
pub use Rattle.oer_model.specs.Contents.{read_octets, read_text, read_utf8}
use Rattle.oer_model.specs.Fits.{all_absent, listed}
use Rattle.oer_model.specs.declared.size.Size.{Size}

-- a number in its form that passes the test, 128 bits and the bounds
abbrev pub read_integer : Form → (ℤ → Bool) → Reader ℤ
read_integer (unsigned_fixed n) test = number IntegerRange natural test n
read_integer (signed_fixed n) test = number IntegerRange signed test n
read_integer unsigned_counted test = counted_number natural test
read_integer signed_counted test = counted_number signed test

-- k bits, and zeros to the octet's end
unfoldable pub preamble : ℕ → Reader (List Bool)
preamble k = bind (group (octets_for k)) (λ p. guard (all_false (drop k (bits_of p))) PreamblePadding (give (take k (bits_of p))))

-- after the initial octet u, in a bit string of n octets
abbrev pub bits_sized : Size → ℕ → ℕ → Reader (List Bool)
bits_sized s n u = guard (leb u 7 && (leb 2 n || eqb u 0)) BitUnused (guard (size_fits s (8 * (n - 1) - u)) reason.Size
    (bind (group (n - 1)) (λ d. give (take (length (bits_of d) - u) (bits_of d)))))

-- a BIT STRING: of one size, or after a length and the initial octet
abbrev pub read_bits : Option ℕ → Size → Reader (List Bool)
read_bits (Some n) s = bind (group (octets_for n)) (λ w. give (take n (bits_of w)))
read_bits None s = with_length (λ n. guard (leb 1 n) BitUnused (bind octet (bits_sized s n)))

-- the bits of a BIT STRING without size constraint
unfoldable pub bitmap : Reader (List Bool)
bitmap = read_bits None any_size

-- a quantity, of 128 bits signed
unfoldable pub quantity : Reader ℕ
quantity = counted_number unsigned (λ n. ltb n (2 ^ 127))

-- a component that is there, and those after it
unfoldable pub read_present : Reader AsnValue → Reader Places → Reader Places
read_present r rest = bind r (λ v. bind rest (λ ps. give (present v ps)))

-- a component that is absent, and those after it
unfoldable pub read_absent : Reader Places → Reader Places
read_absent rest = bind rest (λ ps. give (absent ps))

-- a component whose presence bit is given, and those after it
abbrev pub read_by_bit : Bool → Reader AsnValue → Reader Places → Reader Places
read_by_bit true r rest = read_present r rest
read_by_bit false r rest = read_absent rest

-- a component, by its presence bit if it has one; rest: those after it, by the bits that are left
abbrev pub read_by_need : Need → Reader AsnValue → (List Bool → Reader Places) → List Bool → Reader Places
read_by_need must r rest s = read_present r (rest s)
read_by_need may r rest s = read_by_bit (first_bit s) r (rest (later_bits s))
read_by_need (default d) r rest s = read_by_bit (first_bit s) r (rest (later_bits s))

-- by the first alternative that has the tag
abbrev pub read_by_tag : Bool → Reader AsnValue → Reader AsnValue → Reader AsnValue
read_by_tag true r rest = r
read_by_tag false r rest = rest

-- the additions from the place on that the type doesn't know
abbrev pub read_unknown : ℕ → List Bool → Reader (List Unknown)
read_unknown place [] = give []
read_unknown place (true ∷ s) = bind counted_octets (λ w. bind (read_unknown (suc place) s) (λ us. give (unknown place w ∷ us)))
read_unknown place (false ∷ s) = read_unknown (suc place) s

-- known additions, and then unknown ones
unfoldable pub read_both : Reader Places → Reader (List Unknown) → Reader (Places × List Unknown)
read_both r q = bind r (λ added. bind q (λ us. give (added, us)))

-- the additions; without the extension bit none
abbrev pub read_extension : Bool → Additions → (List Bool → Reader Places) → Reader (Places × List Unknown)
read_extension false more r = give (all_absent more, [])
read_extension true more r =
    bind bitmap (λ s. guard (all_false (drop addition_places s)) UnknownAddition
    (read_both (r s) (read_unknown (addition_count more) (drop (addition_count more) s))))

-- k presence bits, and then the root
unfoldable pub read_sequence : ℕ → (List Bool → Reader Places) → Reader AsnValue
read_sequence k r = bind (preamble k) (λ s. bind (r s) (λ root. give (seq root no_places [])))

-- the extension bit and k presence bits, the root, the additions
unfoldable pub read_extensible : ℕ → (List Bool → Reader Places) → (Bool → Reader (Places × List Unknown)) → Reader AsnValue
read_extensible k r x = bind (preamble (suc k)) (λ s. bind (r (later_bits s))
    (λ root. bind (x (first_bit s)) (λ added. give (seq root added.0 added.1))))

-- the quantity, which is not above the octets left, and so many elements
unfoldable pub read_items : Size → Reader AsnValue → Reader AsnValue
read_items s r = bind quantity (λ n. within n (guard (size_fits s n) reason.Size (bind (times n r) (λ vs. give (items (listed vs))))))

-- what follows the tag t
abbrev pub read_chosen : Bool → Alternatives → (Tag → Reader AsnValue) → Tag → Reader AsnValue
read_chosen extensible more r t =
    choose (has_tag t more) (bind (r t) (λ v. give (chosen t v)))
    (guard extensible UnknownAlternative (bind counted_octets (λ w. give (foreign t w))))

-- a tag, and what follows it
unfoldable pub read_choice : Bool → Alternatives → (Tag → Reader AsnValue) → Reader AsnValue
read_choice extensible more r = bind tag (read_chosen extensible more r)

-- a value that holds no other, case by case as IsLeafSpelling has them
abbrev pub read_leaf : LeafType → Reader AsnValue
read_leaf boolean = bind octet (λ x. give (bool (not (eqb x 0))))
read_leaf null = give nothing
read_leaf (integer low high) = bind (read_integer (form_of low high) (in_range low high)) (λ z. give (int z))
read_leaf (enumerated numbers extensible) =
    bind unit.enumerated (λ z. guard (extensible || has_number numbers z) UnknownEnum (give (enum z)))
read_leaf (bit_string s) = bind (read_bits (fixed s) s) (λ w. give (bit_list w))
read_leaf (content kind) = bind (read_content kind) (λ w. give (leaf_value (content_value kind w)))

-- How a value is read, case by case as IsSpelling has them.
abbrev mutual
  pub read_value : AsnType → Reader AsnValue
  read_value (leaf kind) = read_leaf kind
  read_value (sequence fs) = read_sequence (optional fs) (read_fields fs)
  read_value (extensible_sequence fs more) =
      read_extensible (optional fs) (read_fields fs) (λ x. read_extension x more (read_additions more))
  read_value (sequence_of s T) = read_items s (read_value T)
  read_value (choice extensible more) = read_choice extensible more (read_alternative more)

  -- s: the presence bits of these components
  pub read_fields : Fields → List Bool → Reader Places
  read_fields no_fields s = give no_places
  read_fields (field name need T fs) s = read_by_need need (read_value T) (read_fields fs) s

  pub read_additions : Additions → List Bool → Reader Places
  read_additions no_additions s = give no_places
  read_additions (addition name T more) s = read_by_bit (first_bit s) (open_type (read_value T)) (read_additions more (later_bits s))

  pub read_alternative : Alternatives → Tag → Reader AsnValue
  read_alternative no_alternatives t = refuse UnknownAlternative
  read_alternative (alternative name u T more) t = read_by_tag (same_tag u t) (read_value T) (read_alternative more t)
  read_alternative (later name u T more) t = read_by_tag (same_tag u t) (open_type (read_value T)) (read_alternative more t)
