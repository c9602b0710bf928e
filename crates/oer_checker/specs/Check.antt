-- What the caller of `check` learns, in the words of encodings.
use Rattle.std.specs.Prelude.{◌≡◌, ◌↔◌, ◌≤◌, ℕ, ◌-◌, ◌^◌, List, ◌++◌, length, drop, true, Result, Ok, Err, IfErr}
use Rattle.oer_units.specs.Reader.{at, got, refused}
use Rattle.oer_units.specs.declared.fault.ReadFault.{ReadFault}
use Rattle.oer_model.specs.AsnType.{AsnType}
use Rattle.oer_model.specs.AsnValue.{AsnValue}
use Rattle.oer_model.specs.Checking.{check_value}
use Rattle.oer_model.specs.Encoding.{Encodes}
use Rattle.oer_model.specs.Laws.{Means}
use Rattle.oer_model.specs.Strict.{IsCanonical}
use Rattle.oer_checker.specs.Plain.{is_plain}
use Rattle.oer_checker.specs.declared.verdict.Verdict.{Verdict}

-- how many octets the checker allows
abbrev pub most : ℕ
most = 2 ^ 64 - 1

-- An encoding of a value is at the front of the octets, and it is as long as the verdict says; it is canonical exactly where the verdict
-- says so. A refusal took t, and means what it means where a value is read.
abbrev pub Tells : AsnType → List ℕ → Result Verdict ReadFault → Type 0
Tells T octets (Ok verdict) = (b : List ℕ) × (rest : List ℕ) × (octets ≡ b ++ rest) × (verdict.octets ≡ length b)
    × ((v : AsnValue) × Encodes T v b)
    × ((verdict.canonical ≡ true) ↔ ((w : AsnValue) × IsCanonical T w b))
Tells T octets (Err e) = (t : List ℕ) × (rest : List ℕ) × (octets ≡ t ++ rest) × (e.taken ≡ length t) × Means e.why T most t rest

abbrev pub IsLong : List ℕ → Result Verdict ReadFault → Type 0
IsLong b (Ok verdict) = verdict.octets ≡ length b
IsLong b (Err e) = ⊥

-- An encoding at the front of the octets is found.
abbrev pub Finds : AsnType → List ℕ → Result Verdict ReadFault → Type 0
Finds T octets result = (v : AsnValue) (b rest : List ℕ) → octets ≡ b ++ rest → Encodes T v b → IsLong b result

-- Which refusal it is, and where: as the checker on lists answers.
abbrev pub Answers : AsnType → List ℕ → Result Verdict ReadFault → Type 0
Answers T octets (Ok verdict) =
    check_value T (at octets most) ≡ got verdict.canonical (at (drop verdict.octets octets) (most - verdict.octets))
Answers T octets (Err e) = check_value T (at octets most) ≡ refused e.why (drop e.taken octets)

-- Memory and the device are never the reason.
abbrev pub IsOfOctets : Result Verdict ReadFault → Type 0
IsOfOctets result = IfErr result (λ e. is_plain e.why ≡ true)

-- The checker finds an encoding at the front of the octets, with this verdict.
abbrev pub IsFound : AsnType → List ℕ → Verdict → Type 0
IsFound T octets verdict = Answers T octets (Ok verdict) × (verdict.octets ≤ length octets)
