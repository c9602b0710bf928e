-- The line that `oer example` prints: the JSON of a skeleton, or of a value that a seed gives.
use Rattle.std.specs.Prelude.{◌≡◌, ℕ, List, Ok, Some}
use Rattle.serde_json.specs.Read.{read}
use Rattle.serde_json.specs.Written.{compact_text}
use Rattle.oer_model.specs.AsnType.{AsnType}
use Rattle.oer_model.specs.AsnValue.{AsnValue}
use Rattle.oer_json.specs.Made.{made}
use Rattle.oer_json.specs.Take.{taken}
use Rattle.oer_random.specs.Drawn.{random_value}
use Rattle.oer_random.specs.Weight.{random_weight}
use Rattle.oer_skeleton.specs.Skeleton.{skeleton}
use Rattle.oer_skeleton.specs.Weight.{weight}
use Rattle.oer_skeleton.specs.declared.parts.Parts.{Parts}
use Rattle.oer_example_cmd.specs.declared.wanted.Wanted.{Wanted}
use Rattle.oer_example_cmd.specs.declared.wanted.Wanted.TheVariants.{Random, Skeleton}

-- the text of the JSON, without a space
abbrev pub line_of : AsnType → AsnValue → List ℕ
line_of T v = compact_text (made T v)

abbrev pub skeleton_line : Parts → AsnType → List ℕ
skeleton_line parts T = line_of T (skeleton parts T)

abbrev pub random_line : ℕ → AsnType → List ℕ
random_line seed T = line_of T (random_value seed T)

abbrev pub wanted_line : Wanted → AsnType → List ℕ
wanted_line (Skeleton parts) T = skeleton_line parts T
wanted_line (Random seed) T = random_line seed T

-- how many parts the value has
abbrev pub wanted_weight : Wanted → AsnType → ℕ
wanted_weight (Skeleton parts) T = weight parts T
wanted_weight (Random seed) T = random_weight seed T

-- The text is JSON that is taken as the value v.
abbrev pub IsTakenAs : AsnType → AsnValue → List ℕ → Type 0
IsTakenAs T v text = (read text ≡ Some (made T v)) × (taken T (made T v) ≡ Ok v)
