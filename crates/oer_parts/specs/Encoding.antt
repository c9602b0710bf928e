-- What is known of an encoding that was checked.
use Rattle.std.specs.Prelude.{ℕ, List, Result, Ok, Err}
use Rattle.oer_units.specs.declared.fault.ReadFault.{ReadFault}
use Rattle.oer_model.specs.AsnType.{AsnType}
use Rattle.oer_types.specs.Schema.{the_type}
use Rattle.oer_parts.specs.declared.encoding.Encoding.{Encoding}
use Rattle.oer_checker.specs.declared.verdict.Verdict.{Verdict}

-- its type
abbrev pub type_of_encoding : Encoding → AsnType
type_of_encoding e = the_type e.schema.now

-- the octets at whose front it stands
abbrev pub octets_in : Encoding → List ℕ
octets_in e = e.octets.now

-- how long it is, and whether it is canonical; or the refusal
abbrev pub verdict_seen : Result Encoding ReadFault → Result Verdict ReadFault
verdict_seen (Ok e) = Ok e.verdict
verdict_seen (Err fault) = Err fault
