-- The headline: what holds of every well-formed type.
use Rattle.std.specs.Prelude.{◌≡◌, ◌↔◌, ℕ, ◌+◌, ◌^◌, ◌<◌, ◌≤◌, List, ◌++◌, length}
use Rattle.oer_units.specs.Octets.{IsOctets}
use Rattle.oer_units.specs.Reader.{Place, at, got}
use Rattle.oer_model.specs.AsnType.{AsnType}
use Rattle.oer_model.specs.AsnValue.{AsnValue}
use Rattle.oer_model.specs.Encoding.{Encodes}
use Rattle.oer_model.specs.Filling.{filled}
use Rattle.oer_model.specs.Fits.{Fits}
use Rattle.oer_model.specs.Laws.{rewritten}
use Rattle.oer_model.specs.Reading.{read_value}
use Rattle.oer_model.specs.Strict.{IsCanonical}
use Rattle.oer_model.specs.WellFormed.{IsWellFormed}

-- Values that fit have the same canonical octets exactly where they are equal after defaults are filled in.
abbrev pub TellsValues : AsnType → Type 0
TellsValues T = (v w : AsnValue) (b : List ℕ) → Fits T v → Fits T w → IsCanonical T v b → (IsCanonical T w b ↔ (filled T v ≡ filled T w))

-- The reader accepts exactly the inputs that begin with an encoding within the limit, gives its value and takes its octets.
abbrev pub Accepts : AsnType → Type 0
Accepts T = (input : List ℕ) (n : ℕ) → IsOctets input → (v : AsnValue) (rest : List ℕ)
    → ((left : ℕ) × (read_value T (at input n) ≡ got v (at rest left)))
    ↔ ((b : List ℕ) × (input ≡ b ++ rest) × (length b ≤ n) × Encodes T v b)

-- No encoding begins another, and an encoding has one value.
abbrev pub HasOneValue : AsnType → Type 0
HasOneValue T = (v w : AsnValue) (b c rest : List ℕ) → Encodes T v b → Encodes T w c → c ≡ b ++ rest → (b ≡ c) × (v ≡ w)

-- What is rewritten are the canonical octets of the value at the front of the input, and rewriting leaves these
-- unchanged, whatever follows them.
abbrev pub Rewrites : AsnType → Type 0
Rewrites T = (input : List ℕ) (n : ℕ) (c : List ℕ) (q : Place) → IsOctets input → rewritten T (at input n) ≡ got c q → length c < 2 ^ 64
    → ((v : AsnValue) × (b : List ℕ) × (input ≡ b ++ q.input) × (length b ≤ n) × Encodes T v b × IsCanonical T v c)
    × ((rest : List ℕ) (m : ℕ) → rewritten T (at (c ++ rest) (length c + m)) ≡ got c (at rest m))

abbrev pub Headline : Type 0
Headline = (T : AsnType) → IsWellFormed T → TellsValues T × Accepts T × HasOneValue T × Rewrites T
