-- Where octets nest deeper than a type is written out.
use Rattle.std.specs.Prelude.{◌≡◌, ◌≢◌, ℕ, ◌-◌, eqb, List, length, Bool, Option, Some, None, if◌then◌else◌}
use Rattle.oer_units.specs.Reader.{Outcome, at, got, refused}
use Rattle.oer_units.specs.declared.fault.Why.TheVariants.{UnknownAlternative}
use Rattle.oer_model.specs.AsnType.{AsnType}
use Rattle.oer_model.specs.Checking.{check_value}
use Rattle.oer_model.specs.FaultTest.{first_fault}
use Rattle.oer_model.specs.declared.fault.SchemaFault.{SchemaFault}
use Rattle.oer_checker.specs.Check.{most}
use Rattle.oer_ends.specs.Opened.{opened}

-- after how many of the octets b they are rejected as an alternative that a CHOICE doesn't have
abbrev pub unknown_in : List ℕ → Outcome Bool → Option ℕ
unknown_in b (refused UnknownAlternative rest) = Some (length b - length rest)
unknown_in b outcome = None

abbrev pub unknown_at : AsnType → List ℕ → Option ℕ
unknown_at T b = unknown_in b (check_value T (at b most))

-- The octets b nest deeper than T is written out, after n of them: there they are rejected as an unknown alternative, and with an
-- extension marker in each end of T, which is a type then, they aren't.
pub record NestsAt (T : AsnType) (b : List ℕ) (n : ℕ) : Type 0 where
  pub stops : unknown_at T b ≡ Some n
  pub sound : first_fault (opened T) ≡ None
  pub goes_on : unknown_at (opened T) b ≢ Some n

-- ---- the same as a plain function

-- the first place, unless it is the other one, too
abbrev pub unless_same : Option ℕ → Option ℕ → Option ℕ
unless_same None other = None
unless_same (Some n) None = Some n
unless_same (Some n) (Some m) = if eqb n m then None else Some n

abbrev pub if_sound : Option SchemaFault → Option ℕ → Option ℕ
if_sound None place = place
if_sound (Some fault) place = None

abbrev pub nests_at : AsnType → List ℕ → Option ℕ
nests_at T b = if_sound (first_fault (opened T)) (unless_same (unknown_at T b) (unknown_at (opened T) b))
