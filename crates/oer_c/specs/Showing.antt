-- What the call that shows JSON answers.
use Rattle.std.specs.Prelude.{◌≡◌, ◌≤◌, ℕ, ◌-◌, List, ◌++◌, length, ◌⊎◌}
use Rattle.serde_json.specs.Written.{compact_text}
use Rattle.oer_units.specs.Reader.{at, got}
use Rattle.oer_model.specs.AsnType.{AsnType}
use Rattle.oer_model.specs.AsnValue.{AsnValue}
use Rattle.oer_model.specs.Encoding.{Encodes}
use Rattle.oer_model.specs.Reading.{read_value}
use Rattle.oer_json.specs.Made.{made}
use Rattle.oer_c.specs.Buffers.{IsPut}
use Rattle.oer_c.specs.Rewriting.{IsRejected}
use Rattle.oer_c.specs.declared.buffer.Written.{Written}

-- The text is that of the JSON of the value of which the first m octets, at most as many as the limit, are an encoding, and the reader on
-- lists reads this value from just these.
abbrev pub IsTextOf : AsnType → ℕ → List ℕ → ℕ → List ℕ → Type 0
IsTextOf T limit octets m s = (v : AsnValue) × (b : List ℕ) × (rest : List ℕ) × (octets ≡ b ++ rest) × (m ≡ length b)
    × (length b ≤ limit) × Encodes T v b × (s ≡ compact_text (made T v)) × (read_value T (at octets limit) ≡ got v (at rest (limit - length b)))

-- That text is put into the buffer; or the buffer is as before, and the octets are rejected.
abbrev pub Shows : AsnType → ℕ → List ℕ → List ℕ → List ℕ → Written → Type 0
Shows T limit octets old new a = ((m : ℕ) × (s : List ℕ) × IsTextOf T limit octets m s × IsPut s m old new a)
    ⊎ ((new ≡ old) × IsRejected T limit octets a)
