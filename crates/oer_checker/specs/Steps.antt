-- Steps of the checker, as readers of lists.
use Rattle.std.specs.Prelude.{ℕ, ◌-◌, List, length, take, drop, Bool, true, false, ◌&&◌}
use Rattle.oer_units.specs.Least.{length_octets}
use Rattle.oer_units.specs.Reader.{Outcome, Place, Reader, bind, choose, give, got, guard, leave, refused, within}
use Rattle.oer_units.specs.Reading.{determinant, subidentifier}
use Rattle.oer_units.specs.declared.fault.Why.TheVariants as reason
use Rattle.oer_units.specs.declared.fault.Why.TheVariants.{UnknownAddition}
use Rattle.oer_units.specs.declared.tagging.Tag.{Tag}
use Rattle.oer_model.specs.AsnType.{Alternatives, AsnType, Need, default, may, must}
use Rattle.oer_model.specs.Bits.{all_false, bits_of}
use Rattle.oer_model.specs.Canonical.{canonical_octets, same_list}
use Rattle.oer_model.specs.Checking.{check_alternative, check_octets, check_value, is_bitmap, is_least, judged, quantity_octets, unlike}
use Rattle.oer_model.specs.Constraints.{has_tag, size_fits}
use Rattle.oer_model.specs.Limits.{addition_places}
use Rattle.oer_model.specs.Reading.{bitmap, quantity}
use Rattle.oer_model.specs.declared.size.Size.{Size}

-- x and f were read
abbrev pub got_both : {A : Type 0} → A → Bool → Place → Outcome (A × Bool)
got_both x f q = got (x, f) q

-- the octets from p to q
abbrev pub between : Place → Place → List ℕ
between p q = take (length p.input - length q.input) p.input

-- a length that is not above what is left after it, and whether it is in its least form
unfoldable pub sized_length : Reader (ℕ × Bool)
sized_length = bind (judged (is_least length_octets) determinant) (λ y. within y.0 (give y))

-- an answer, and whether f holds too
abbrev pub and_after : Bool → Outcome Bool → Outcome Bool
and_after f (got g q) = got (f && g) q
and_after f (refused why rest) = refused why rest

-- after an open type of n octets that begins at q: what its content answered, and whether f holds too
abbrev pub left_open : Place → ℕ → Bool → Outcome Bool → Outcome Bool
left_open q n f o = and_after f (leave (q.left - n) o)

-- a quantity that is not above what is left after it and that the size allows, and whether it is in its least form
unfoldable pub sized_quantity : Size → Reader (ℕ × Bool)
sized_quantity s = bind (judged (is_least quantity_octets) quantity) (λ y. within y.0 (guard (size_fits s y.0) reason.Size (give y)))

-- how many octets a subidentifier has, at most k
unfoldable pub subidentifier_size : ℕ → Reader ℕ
subidentifier_size k = bind (subidentifier k) (λ x. give x.1)

-- the presence bitmap of additions, n of which are known, and whether it is canonical
unfoldable pub addition_map : ℕ → Reader (List Bool × Bool)
addition_map n = bind (judged (is_bitmap n) bitmap) (λ y. guard (all_false (drop addition_places y.0)) UnknownAddition (give y))

-- the last u bits of the octets are 0
abbrev pub last_are_zero : ℕ → List ℕ → Bool
last_are_zero u b = all_false (drop (length (bits_of b) - u) (bits_of b))

-- the octets are those of the default
abbrev pub is_default : Need → AsnType → List ℕ → Bool
is_default (default d) T b = same_list b (canonical_octets T d)
is_default must T b = false
is_default may T b = false

-- a component that is there
abbrev pub check_there : Need → AsnType → Reader Bool
check_there (default d) T = unlike (canonical_octets T d) (check_value T)
check_there must T = check_value T
check_there may T = check_value T

-- a component, if it is there
abbrev pub check_if : Bool → Reader Bool → Reader Bool
check_if true c = c
check_if false c = give true

-- what follows a tag that no alternative of the root has, where there is an extension marker
abbrev pub check_later : Alternatives → Tag → Reader Bool
check_later more t = choose (has_tag t more) (check_alternative more t) check_octets
