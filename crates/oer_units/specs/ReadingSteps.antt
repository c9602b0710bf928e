-- What the steps of the readers of units do.
use Rattle.std.specs.Prelude.{ℕ, zero, suc, ◌+◌, ◌-◌, ◌*◌, ◌%◌, ◌^◌, min, Bool, true, false, not, ◌&&◌, leb, ltb, eqb, List, [], ◌∷◌, take, ℤ, pos, negsuc, Result, Ok, Err}
use Rattle.oer_units.specs.declared.fault.Why.{Why}
use Rattle.oer_units.specs.declared.fault.Why.TheVariants.{ObjectId, TagForm}
use Rattle.oer_units.specs.declared.fault.ReadFault.{ReadFault}
use Rattle.oer_units.specs.declared.twos.Twos.{Twos}
use Rattle.oer_units.specs.Numbers.{unsigned}
use Rattle.oer_units.specs.Reader.{Reader, give, refuse, bind, guard, choose, group, within}
use Rattle.oer_units.specs.Reading.{octet}
use Rattle.oer_units.specs.Reads.{State, Reads}
use Rattle.oer_units.specs.Fixed.{group_as}

-- n, which the bound allows
abbrev pub allow_at : ℕ → Reader ℕ
allow_at n = within n (give n)

-- A call took n octets into the front of this list, or it was refused as one for a single octet is.
abbrev pub Fills : State → Result ℕ ReadFault → List ℕ → State → Type 0
Fills old (Ok n) into new = Reads (group n) old (Ok (take n into)) new
Fills old (Err e) into new = Reads octet old (Err e) new

-- a length in k octets
abbrev pub long_length_at : ℕ → Reader ℕ
long_length_at k = bind (group_as k unsigned) allow_at

-- what an octet adds: of a number below 0, its complement
abbrev pub digit : Bool → ℕ → ℕ
digit false x = x
digit true x = 255 - x

-- the size of a number, going on from v, up to `u128::MAX`
abbrev pub size_after : Bool → ℕ → List ℕ → ℕ
size_after below v [] = v
size_after below v (x ∷ xs) = size_after below (min (min (v * 256) (2 ^ 128 - 1) + digit below x) (2 ^ 128 - 1)) xs

-- a number in two's complement, whose size is its own from 0 on, and one less than its distance from 0 below
abbrev pub twos_of : Bool → ℕ → Twos
twos_of below size = record { is_below = below; size = size }

-- the number, its size up to `u128::MAX`
abbrev pub twos_of_octets : List ℕ → Twos
twos_of_octets [] = twos_of false 0
twos_of_octets (x ∷ xs) = twos_of (leb 128 x) (size_after (leb 128 x) (digit (leb 128 x) x) xs)

abbrev pub int_by : Bool → ℕ → ℤ
int_by false n = pos n
int_by true n = negsuc n

-- the number itself
abbrev pub int_of : Twos → ℤ
int_of t = int_by t.is_below t.size

-- a refusal of a form that the rules don't have, whose name no bound changes
abbrev pub IsOfForm : Why → Type 0
IsOfForm ObjectId = Unit {0}
IsOfForm TagForm = Unit {0}
IsOfForm why = ⊥

-- after the octet x, in a number below the limit that goes on from high; beside it stands how many octets it has
abbrev pub digits_then : Why → ℕ → (ℕ → Reader (ℕ × ℕ)) → ℕ → ℕ → Reader (ℕ × ℕ)
digits_then why limit next high x = guard (leb x 255 && ltb (high * 128 + x % 128) limit) why
    (choose (ltb x 128) (give (high * 128 + x % 128, 1)) (bind (next (high * 128 + x % 128)) (λ y. give (y.0, suc y.1))))

-- in at most k octets
unfoldable pub digits_within : Why → ℕ → ℕ → ℕ → Reader (ℕ × ℕ)
digits_within why limit zero high = refuse why
digits_within why limit (suc k) high = bind octet (digits_then why limit (digits_within why limit k) high)

-- a whole number in base 128
abbrev pub base128_within : Why → ℕ → ℕ → Reader (ℕ × ℕ)
base128_within why limit zero = refuse why
base128_within why limit (suc k) = bind octet (λ x. guard (not (eqb x 128)) why (digits_then why limit (digits_within why limit k) 0 x))
