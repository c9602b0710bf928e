-- What `check` says of octets that aren't canonical, as an error.
use Rattle.std.specs.Prelude.{◌≡◌, ◌↔◌, ◌==◌, ℕ, List, Bool, false, codes, if◌then◌else◌}
use Rattle.std.specs.List.{starts_with}
use Rattle.clap.specs.Words.{Text}
use Rattle.oer_model.specs.AsnType.{AsnType}
use Rattle.oer_cmd.specs.Expected.{Expected, stop, value, ◌>>=◌}
use Rattle.oer_cmd.specs.Run.{AreCanonical, IsCheckLine}
use Rattle.oer_cmd.specs.declared.fault.Fault.TheVariants.{NotCanonical}

-- the line says that octets are an encoding, and not the canonical one
abbrev pub is_basic : Text → Bool
is_basic line = starts_with (λ a b. a == b) line (codes "basic ")

abbrev pub strict_line : Text → Expected Text
strict_line line = if is_basic line then stop NotCanonical else value line

-- an answer of `check`, where octets that aren't canonical are an error
abbrev pub strict : Expected Text → Expected Text
strict answer = answer >>= strict_line

-- Of the lines of `check` for octets, those that aren't refused are the ones of canonical octets.
abbrev pub TellsCanonical : Type 0
TellsCanonical = (T : AsnType) (limit : ℕ) (line : Text) (b : List ℕ) → IsCheckLine T limit line b → (is_basic line ≡ false) ↔ AreCanonical T b
