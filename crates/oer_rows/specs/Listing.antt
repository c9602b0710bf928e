-- What the caller of `rows` learns.
use Rattle.std.specs.Prelude.{◌≡◌, ℕ, ◌-◌, List, [], ◌∷◌, ◌++◌, length, drop, take, Result, Ok, Err}
use Rattle.oer_units.specs.Reader.{at}
use Rattle.oer_units.specs.declared.fault.ReadFault.{ReadFault}
use Rattle.oer_model.specs.AsnType.{AsnType}
use Rattle.oer_checker.specs.Check.{most}
use Rattle.oer_rows.specs.Lines.{AreLines}
use Rattle.oer_rows.specs.Rows.{Line, Walk, halted, line, walk_value, went}
use Rattle.oer_checker.specs.declared.verdict.Verdict.{Verdict}

-- the lines that were made
abbrev pub lines_in : Walk → List Line
lines_in (went ls q) = ls
lines_in (halted ls) = ls

-- the rows of the octets of a value of the type, or up to where they are refused
abbrev pub rows_of : AsnType → List ℕ → List Line
rows_of T octets = lines_in (walk_value T (length octets) [] [] (at octets most))

-- From the front of the octets to the rest, each octet stands in one line, in order, and each line says where.
abbrev pub Cover : ℕ → List ℕ → List Line → List ℕ → Type 0
Cover total octets [] rest = octets ≡ rest
Cover total octets (line offset path role b ∷ ls) rest = (more : List ℕ) × (octets ≡ b ++ more) × (offset ≡ total - length octets)
    × Cover total more ls rest

-- The lines are those of the encoding at the front, which is as long as the verdict says; or of octets in front of what is rejected.
abbrev pub Covers : List ℕ → List Line → Result Verdict ReadFault → Type 0
Covers octets ls (Ok verdict) = Cover (length octets) octets ls (drop verdict.octets octets)
Covers octets ls (Err e) = (rest : List ℕ) × Cover (length octets) octets ls rest

-- The lines are the rows of the encoding at the front, which is as long as the verdict says.
abbrev pub AreListed : AsnType → List ℕ → List Line → Result Verdict ReadFault → Type 0
AreListed T octets ls (Ok verdict) = AreLines T [] 0 ls (take verdict.octets octets)
AreListed T octets ls (Err e) = Unit {0}
