-- Readers over lists: the plain program, with each refusal where it is decided.
use Rattle.std.specs.Prelude.{ℕ, zero, suc, ◌-◌, List, [], ◌∷◌, length, take, drop, Bool, true, false, leb}
use Rattle.oer_units.specs.declared.fault.Why.{Why}
use Rattle.oer_units.specs.declared.fault.Why.TheVariants.{End, Limit, Window}

-- what is left to be read, and how many of these octets the bound in force still allows
pub record Place : Type 0 where
  pub input : List ℕ
  pub left : ℕ

abbrev pub at : List ℕ → ℕ → Place
at input left = record { input = input; left = left }

-- a value and the place after it, or a refusal and what was not taken
pub data Outcome (A : Type 0) : Type 0 where
  got : A → Place → Outcome A
  refused : Why → List ℕ → Outcome A

abbrev pub Reader : Type 0 → Type 0
Reader A = Place → Outcome A

-- x, with nothing taken
unfoldable pub give : {A : Type 0} → A → Reader A
give x p = got x p

unfoldable pub refuse : {A : Type 0} → Why → Reader A
refuse why p = refused why p.input

abbrev pub then_read : {A B : Type 0} → (A → Reader B) → Outcome A → Outcome B
then_read k (got x q) = k x q
then_read k (refused why rest) = refused why rest

-- r, and then what its value asks for
unfoldable pub bind : {A B : Type 0} → Reader A → (A → Reader B) → Reader B
bind r k p = then_read k (r p)

-- r where the test holds
abbrev pub guard : {A : Type 0} → Bool → Why → Reader A → Reader A
guard true why r = r
guard false why r = refuse why

-- r where the test holds, else s
abbrev pub choose : {A : Type 0} → Bool → Reader A → Reader A → Reader A
choose true r s = r
choose false r s = s

abbrev pub group_by : Bool → Bool → ℕ → Reader (List ℕ)
group_by false come n p = refused Limit p.input
group_by true false n p = refused End []
group_by true true n p = got (take n p.input) (at (drop n p.input) (p.left - n))

-- the next n octets
unfoldable pub group : ℕ → Reader (List ℕ)
group n p = group_by (leb n p.left) (leb n (length p.input)) n p

abbrev pub bounded : {A : Type 0} → Bool → Reader A → Reader A
bounded true r p = r p
bounded false r p = refused Limit p.input

-- r, where n octets are within the bound
unfoldable pub within : {A : Type 0} → ℕ → Reader A → Reader A
within n r p = bounded (leb n p.left) r p

-- Around an open type, what passed its bound is refused as Window.
abbrev pub named_inside : Why → Why
named_inside Limit = Window
named_inside why = why

-- x was read in the open type, k of whose octets are left
abbrev pub leave_at : {A : Type 0} → A → List ℕ → ℕ → ℕ → Outcome A
leave_at x rest outer zero = got x (at rest outer)
leave_at x rest outer (suc k) = refused Window rest

abbrev pub leave : {A : Type 0} → ℕ → Outcome A → Outcome A
leave outer (got x q) = leave_at x q.input outer q.left
leave outer (refused why rest) = refused (named_inside why) rest

abbrev pub open_by : {A : Type 0} → Bool → ℕ → Place → Outcome A → Outcome A
open_by true n p o = leave (p.left - n) o
open_by false n p o = refused Limit p.input

-- the content of an open type of n octets, by r
unfoldable pub filled_by : {A : Type 0} → ℕ → Reader A → Reader A
filled_by n r p = open_by (leb n p.left) n p (r (at p.input n))

-- r n times
abbrev pub times : {A : Type 0} → ℕ → Reader A → Reader (List A)
times zero r = give []
times (suc n) r = bind r (λ x. bind (times n r) (λ xs. give (x ∷ xs)))
