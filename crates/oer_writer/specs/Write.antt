-- What a writer of a value does: by the canonical octets, and by the computed ones.
use Rattle.std.specs.Prelude.{◌≡◌, ◌↔◌, ◌⊎◌, ℕ, ◌-◌, ◌^◌, ◌<◌, ◌≤◌, List, length, take, Option, Some, Result, Ok, Err, MatchOption, MatchResult}
use Rattle.std.specs.Io.KnownBytes.{Appends}
use Rattle.oer_units.specs.Stream.{one_more}
use Rattle.oer_model.specs.AsnType.{AsnType}
use Rattle.oer_model.specs.AsnValue.{AsnValue}
use Rattle.oer_model.specs.Strict.{IsCanonical}
use Rattle.oer_writer.specs.declared.fault.WriteFault.{WriteFault}
use Rattle.oer_writer.specs.declared.fault.WriteFault.TheVariants.{Device, TooLong}

-- v has no canonical octets of fewer than 2 ^ 64.
abbrev pub IsTooLong : AsnType → AsnValue → Type 0
IsTooLong T v = (b : List ℕ) → IsCanonical T v b → 2 ^ 64 ≤ length b

-- v has n canonical octets, and these are fewer than 2 ^ 64.
abbrev pub HasLength : AsnType → AsnValue → ℕ → Type 0
HasLength T v n = (b : List ℕ) × IsCanonical T v b × (n ≡ length b) × (n < 2 ^ 64)

-- The number of canonical octets is answered exactly where there is one.
abbrev pub TellsLength : AsnType → AsnValue → Option ℕ → Type 0
TellsLength T v result = (n : ℕ) → (result ≡ Some n) ↔ HasLength T v n

-- After a failure the sink holds what it held and the first so many of the canonical octets, fewer than all; or they
-- are too many, and it is as it was.
abbrev pub StopsWriting : AsnType → AsnValue → Option (List ℕ) → WriteFault → Option (List ℕ) → Type 0
StopsWriting T v old (Device written) new = (b : List ℕ) × IsCanonical T v b × (length b < 2 ^ 64) × (written < length b)
    × Appends old new (take written b)
StopsWriting T v old TooLong new = IsTooLong T v × (new ≡ old)

-- The canonical octets were appended, and their number is answered; or it stopped.
abbrev pub WritesCanonical : AsnType → AsnValue → Option (List ℕ) → Result ℕ WriteFault → Option (List ℕ) → Type 0
WritesCanonical T v old result new =
    MatchResult result (λ n. (b : List ℕ) × IsCanonical T v b × (n ≡ length b) × Appends old new b) (λ e. StopsWriting T v old e new)

abbrev pub IsDevice : Result ℕ WriteFault → Type 0
IsDevice (Err (Device written)) = Unit {0}
IsDevice _ = ⊥

-- A failure is answered wherever the count of failures rose, and elsewhere only where it stands at its greatest.
abbrev pub TellsFailure : ℕ → Result ℕ WriteFault → ℕ → Type 0
TellsFailure failed result failed' = (failed < failed' → IsDevice result) × (IsDevice result → (failed < failed') ⊎ (failed' ≡ 2 ^ 64 - 1))

-- All is written wherever the sink takes all: it is Ok where the length is below 2 ^ 64 and the count of failures,
-- below its greatest, stands still.
abbrev pub WritesAll : AsnType → AsnValue → ℕ → Result ℕ WriteFault → ℕ → Type 0
WritesAll T v failed result failed' = (n : ℕ) → HasLength T v n → failed < 2 ^ 64 - 1 → failed' ≡ failed → result ≡ Ok n

-- ---- by the computed octets

-- their number, if it is below 2 ^ 64
abbrev pub Counts : List ℕ → Option ℕ → Type 0
Counts octets result = MatchOption result (2 ^ 64 ≤ length octets) (λ n. (n ≡ length octets) × (n < 2 ^ 64))

-- The sink failed once, after it took the first so many of the octets; or they are too many, and the sink is as it was.
abbrev pub Fails : List ℕ → Option (List ℕ) → ℕ → WriteFault → Option (List ℕ) → ℕ → Type 0
Fails octets old failed (Device written) new failed' = (length octets < 2 ^ 64) × (written < length octets)
    × Appends old new (take written octets) × (failed' ≡ one_more failed)
Fails octets old failed TooLong new failed' = (2 ^ 64 ≤ length octets) × (new ≡ old) × (failed' ≡ failed)

-- The octets were appended, and their number is answered, below 2 ^ 64.
abbrev pub Writes : List ℕ → Option (List ℕ) → ℕ → Result ℕ WriteFault → Option (List ℕ) → ℕ → Type 0
Writes octets old failed result new failed' =
    MatchResult result (λ n. (n ≡ length octets) × (n < 2 ^ 64) × Appends old new octets × (failed' ≡ failed))
    (λ e. Fails octets old failed e new failed')
