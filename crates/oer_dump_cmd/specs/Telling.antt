-- What is told of octets that are rejected, by where the type is from.
use Rattle.std.specs.Prelude.{ℕ, List, Bool, Option}
use Rattle.clap.specs.Words.{Text}
use Rattle.oer_model.specs.AsnType.{AsnType}
use Rattle.oer_cmd.specs.Answer.{checked, hex_octets, limited_octets}
use Rattle.oer_cmd.specs.Expected.{Expected, ◌>>=◌}
use Rattle.oer_ends_cmd.specs.Telling.{told_by}
use Rattle.oer_ends_cmd.specs.declared.telling.Origin.{Origin}

-- what `oer check` judges of the octets, as it is told
abbrev pub judged_by : Origin → ℕ → AsnType → List ℕ → Expected Bool
judged_by origin limit T b = told_by origin T limit b (checked T b)

-- the same of the octets of `--hex`, else of all that the input had left
abbrev pub judged_octets_by : Origin → Option Text → ℕ → Option (List ℕ) → AsnType → Expected Bool
judged_octets_by origin hex limit told T = hex_octets hex >>= λ spelt. limited_octets limit spelt told >>= judged_by origin limit T
