-- What the call that rewrites answers.
use Rattle.std.specs.Prelude.{◌≡◌, ◌≢◌, ◌≤◌, ℕ, ◌-◌, List, ◌++◌, length, Result, Ok, Err, ◌⊎◌}
use Rattle.oer_units.specs.Reader.{at, got, refused}
use Rattle.oer_units.specs.declared.fault.ReadFault.{ReadFault}
use Rattle.oer_units.specs.declared.fault.Why.TheVariants.{Memory, Device}
use Rattle.oer_model.specs.AsnType.{AsnType}
use Rattle.oer_model.specs.AsnValue.{AsnValue}
use Rattle.oer_model.specs.Encoding.{Encodes}
use Rattle.oer_model.specs.Laws.{Means}
use Rattle.oer_model.specs.Reading.{read_value}
use Rattle.oer_model.specs.Strict.{IsCanonical}
use Rattle.oer_c.specs.Buffers.{IsPut, only_written, rejection}
use Rattle.oer_c.specs.declared.buffer.Written.{Written}

-- The first m of the octets, at most as many as the limit, are an encoding of a value whose canonical octets are c, and the reader on lists
-- reads this value from just these.
abbrev pub IsMade : AsnType → ℕ → List ℕ → ℕ → List ℕ → Type 0
IsMade T limit octets m c = (v : AsnValue) × (b : List ℕ) × (rest : List ℕ) × (octets ≡ b ++ rest) × (m ≡ length b)
    × (length b ≤ limit) × Encodes T v b × IsCanonical T v c × (read_value T (at octets limit) ≡ got v (at rest (limit - length b)))

-- no encoding of at most so many octets is at the front
abbrev pub IsNone : AsnType → ℕ → List ℕ → Type 0
IsNone T limit octets = (v : AsnValue) (b rest : List ℕ) → octets ≡ b ++ rest → Encodes T v b → length b ≤ limit → ⊥

-- No encoding is at the front; t was looked at when it was rejected, and the reason means of t what it means where a value is read. Which
-- reason it is, and where, is what the reader on lists answers. Or an allocation failed.
abbrev pub IsRejected : AsnType → ℕ → List ℕ → Written → Type 0
IsRejected T limit octets a =
    ((e : ReadFault) × (t : List ℕ) × (rest : List ℕ) × (a ≡ rejection e) × (octets ≡ t ++ rest) × (e.taken ≡ length t)
    × Means e.why T limit t rest × IsNone T limit octets × (read_value T (at octets limit) ≡ refused e.why rest))
    ⊎ (a ≡ only_written 4)

-- The canonical octets are put into the buffer; or it is as before, and the octets are rejected.
abbrev pub Rewrites : AsnType → ℕ → List ℕ → List ℕ → List ℕ → Written → Type 0
Rewrites T limit octets old new a = ((m : ℕ) × (c : List ℕ) × IsMade T limit octets m c × IsPut c m old new a)
    ⊎ ((new ≡ old) × IsRejected T limit octets a)

-- the octets that were taken and made; or why there are none
abbrev pub Tries : {A : Type 0} → (A → ℕ × List ℕ) → AsnType → ℕ → List ℕ → Result A Written → Type 0
Tries f T limit octets (Ok p) = IsMade T limit octets (f p).0 (f p).1
Tries f T limit octets (Err a) = IsRejected T limit octets a

-- a reader's error: memory and the device have a status of their own
abbrev pub IsRejection : ReadFault → Written → Type 0
IsRejection e a = (a ≡ only_written 4) ⊎ ((a ≡ rejection e) × (e.why ≢ Memory) × (e.why ≢ Device))
