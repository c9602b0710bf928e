-- What the call that checks answers.
use Rattle.std.specs.Prelude.{◌≡◌, ◌↔◌, ◌<◌, ◌≤◌, ℕ, Bool, true, false, List, length, Result, Ok, Err, ◌⊎◌}
use Rattle.oer_units.specs.Faults.{why_number}
use Rattle.oer_units.specs.declared.fault.ReadFault.{ReadFault}
use Rattle.oer_model.specs.AsnType.{AsnType}
use Rattle.oer_model.specs.AsnValue.{AsnValue}
use Rattle.oer_model.specs.Strict.{IsCanonical}
use Rattle.oer_checker.specs.Check.{Answers, Finds, IsOfOctets, Tells}
use Rattle.oer_checker.specs.declared.verdict.Verdict.{Verdict}
use Rattle.oer_c.specs.declared.check.Checked.{Checked}

abbrev pub digit : Bool → ℕ
digit false = 0
digit true = 1

-- the answer of `check`, in numbers
abbrev pub numbers : Result Verdict ReadFault → Checked
numbers (Ok v) = record { status = 0; why = 0; octets = v.octets; canonical = digit v.canonical }
numbers (Err e) = record { status = 1; why = why_number e.why; octets = e.taken; canonical = 0 }

-- They are an answer of which all holds that `check` promises.
abbrev pub IsChecked : AsnType → List ℕ → Checked → Type 0
IsChecked T octets a = (r : Result Verdict ReadFault) × (a ≡ numbers r) × Tells T octets r × Finds T octets r × Answers T octets r
    × IsOfOctets r

-- a status and nothing else
abbrev pub only : ℕ → Checked
only status = record { status = status; why = 0; octets = 0; canonical = 0 }

-- ---- the call that checks the whole

-- The status where an encoding with the verdict is at the front of n octets: 12 where others follow it; 11 where none do and it is not
-- canonical; 0 where none do and it is.
abbrev pub IsStatus : ℕ → Verdict → ℕ → Type 0
IsStatus n v status = ((status ≡ 12) × (v.octets < n))
    ⊎ (((status ≡ 11) × (n ≤ v.octets) × (v.canonical ≡ false))
    ⊎ ((status ≡ 0) × (n ≤ v.octets) × (v.canonical ≡ true)))

-- the answer of `check` on n octets, in numbers
abbrev pub IsJudged : ℕ → Result Verdict ReadFault → Checked → Type 0
IsJudged n (Ok v) a = IsStatus n v a.status × (a.why ≡ 0) × (a.octets ≡ v.octets) × (a.canonical ≡ digit v.canonical)
IsJudged n (Err e) a = a ≡ numbers (Err e)

-- The status is 0 exactly where the octets are the canonical octets of a value. They are an answer of which all holds that `check` promises.
abbrev pub IsWhole : AsnType → List ℕ → Checked → Type 0
IsWhole T octets a = ((a.status ≡ 0) ↔ ((v : AsnValue) × IsCanonical T v octets))
    × ((r : Result Verdict ReadFault) × IsJudged (length octets) r a × Tells T octets r × Finds T octets r × Answers T octets r
    × IsOfOctets r)
