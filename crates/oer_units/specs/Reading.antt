-- How the units are read from a list: the groups, the steps and the refusals, in their order.
use Rattle.std.specs.Prelude.{ℕ, zero, suc, ◌+◌, ◌-◌, ◌*◌, ◌/◌, ◌%◌, ◌^◌, min, pos, neg_ℤ, ◌-ℤ◌, int_le, List, [], ◌∷◌, get_or, Bool, not, ◌&&◌, leb, ltb, eqb, ℤ}
use Rattle.oer_units.specs.Reader.{Reader, give, refuse, bind, guard, choose, group, within, filled_by}
use Rattle.oer_units.specs.Numbers.{unsigned, signed}
use Rattle.oer_units.specs.declared.fault.Why.{Why}
use Rattle.oer_units.specs.declared.fault.Why.TheVariants.{LengthForm, EmptyNumber, IntegerRange, EnumForm, ObjectId, TagForm}
use Rattle.oer_units.specs.declared.tagging.Class.{Class}
use Rattle.oer_units.specs.declared.tagging.Class.TheVariants.{Universal, Application, Context, Private}
use Rattle.oer_units.specs.declared.tagging.Tag.{Tag}

unfoldable pub octet : Reader ℕ
octet = bind (group 1) (λ w. give (get_or w 0 0))

-- after the first octet x of a length
abbrev pub length_after : ℕ → Reader ℕ
length_after x = choose (ltb x 128) (give x) (guard (leb 129 x && leb x 255) LengthForm (bind (group (x - 128)) (λ w. give (unsigned w))))

unfoldable pub determinant : Reader ℕ
determinant = bind octet length_after

-- a length, and then what it asks for, which has that many octets
unfoldable pub with_length : {A : Type 0} → (ℕ → Reader A) → Reader A
with_length k = bind determinant (λ n. within n (k n))

-- a length that is not above what is left after it
unfoldable pub counted_length : Reader ℕ
counted_length = with_length give

-- a length, and that many octets
unfoldable pub counted_octets : Reader (List ℕ)
counted_octets = with_length (λ n. group n)

-- a length, and what r reads in just as many octets
unfoldable pub open_type : {A : Type 0} → Reader A → Reader A
open_type r = with_length (λ n. filled_by n r)

-- a number of n octets that passes the test
unfoldable pub number : {A : Type 0} → Why → (List ℕ → A) → (A → Bool) → ℕ → Reader A
number why f test n = bind (group n) (λ w. guard (test (f w)) why (give (f w)))

unfoldable pub counted_number : {A : Type 0} → (List ℕ → A) → (A → Bool) → Reader A
counted_number f test = with_length (λ n. guard (leb 1 n) EmptyNumber (number IntegerRange f test n))

-- numbers of 128 bits
unfoldable pub is_int128 : ℤ → Bool
is_int128 z = int_le (neg_ℤ (pos (2 ^ 127))) z && int_le z (pos (2 ^ 127) -ℤ pos 1)

-- numbers of 64 bits
unfoldable pub is_int64 : ℤ → Bool
is_int64 z = int_le (neg_ℤ (pos (2 ^ 63))) z && int_le z (pos (2 ^ 63) -ℤ pos 1)

-- after the first octet x of an enumeration's number
abbrev pub enumerated_after : ℕ → Reader ℤ
enumerated_after x = choose (ltb x 128) (give (pos x)) (guard (leb 129 x && leb x 255) EnumForm (number EnumForm signed is_int64 (x - 128)))

unfoldable pub enumerated : Reader ℤ
enumerated = bind octet enumerated_after

-- after the octet x, in a tag's number that goes on from high
abbrev pub digits_after : (ℕ → Reader ℕ) → ℕ → ℕ → Reader ℕ
digits_after next high x = guard (leb x 255 && ltb (high * 128 + x % 128) (2 ^ 32)) TagForm
    (choose (ltb x 128) (guard (leb 63 (high * 128 + x % 128)) TagForm (give (high * 128 + x % 128))) (next (high * 128 + x % 128)))

-- at most k octets
unfoldable pub digits : ℕ → ℕ → Reader ℕ
digits zero high = refuse TagForm
digits (suc k) high = bind octet (digits_after (digits k) high)

-- A number below 2^32 has at most five octets, since its first digit isn't 0.
unfoldable pub long_number : Reader ℕ
long_number = bind octet (λ x. guard (not (eqb x 128)) TagForm (digits_after (digits 5) 0 x))

-- the class whose number bits 8 and 7 hold
abbrev pub class_of : ℕ → Class
class_of zero = Universal
class_of (suc zero) = Application
class_of (suc (suc zero)) = Context
class_of (suc (suc (suc n))) = Private

abbrev pub tag_after : ℕ → Reader Tag
tag_after x = guard (leb x 255) TagForm (choose (ltb (x % 64) 63) (give (record { class = class_of (x / 64); number = x % 64 }))
    (bind long_number (λ n. give (record { class = class_of (x / 64); number = n }))))

unfoldable pub tag : Reader Tag
tag = bind octet tag_after

-- After the octet x, in a subidentifier that goes on from high, k octets being left after x. Beside the number stands
-- how many octets it has.
abbrev pub subidentifier_after : (ℕ → Reader (ℕ × ℕ)) → ℕ → ℕ → Reader (ℕ × ℕ)
subidentifier_after next high x = guard (leb x 255 && ltb (high * 128 + x % 128) (2 ^ 128)) ObjectId
    (choose (ltb x 128) (give (high * 128 + x % 128, 1)) (bind (next (high * 128 + x % 128)) (λ y. give (y.0, suc y.1))))

unfoldable pub subidentifier_digits : ℕ → ℕ → Reader (ℕ × ℕ)
subidentifier_digits zero high = refuse ObjectId
subidentifier_digits (suc k) high = bind octet (subidentifier_after (subidentifier_digits k) high)

-- a subidentifier of at most k octets
abbrev pub first_subidentifier : ℕ → Reader (ℕ × ℕ)
first_subidentifier zero = refuse ObjectId
first_subidentifier (suc k) = bind octet (λ x. guard (not (eqb x 128)) ObjectId (subidentifier_after (subidentifier_digits k) 0 x))

unfoldable pub subidentifier : ℕ → Reader (ℕ × ℕ)
subidentifier k = first_subidentifier k

-- the subidentifiers of n octets, of which there are at most fuel
unfoldable pub subidentifiers : ℕ → ℕ → Reader (List ℕ)
subidentifiers zero n = give []
subidentifiers (suc fuel) n =
    choose (eqb n 0) (give []) (bind (subidentifier n) (λ x. bind (subidentifiers fuel (n - x.1)) (λ xs. give (x.0 ∷ xs))))

abbrev pub arcs_of : List ℕ → List ℕ
arcs_of [] = []
arcs_of (x ∷ xs) = min 2 (x / 40) ∷ (x - 40 * min 2 (x / 40)) ∷ xs

unfoldable pub object_identifier : Reader (List ℕ)
object_identifier = with_length (λ n. guard (leb 1 n) ObjectId (bind (subidentifiers n n) (λ xs. give (arcs_of xs))))
