use Rattle.std.proofs.Common.{arith}
use Rattle.std.specs.Int.{w64}
use Rattle.std.proofs.lemmas.Int.{to_z-of_z}
use Rattle.oer_units.specs.declared.fault.Why.TheVariants.{EnumForm}
use Rattle.oer_units.specs.Numbers.{signed}
use Rattle.oer_units.specs.Reading.{is_int64}
use Rattle.oer_units.specs.ReadingSteps.{twos_of_octets}
use Rattle.oer_units.proofs.ReadExits.{at_exit}
use Rattle.oer_units.proofs.ReadNumbers.{number_stop}
use Rattle.oer_units.proofs.ReadCounted.{enum_number_in, enum_number_out}
use Rattle.oer_units.proofs.reading.long_enumerated.Goals as goal

pub returns-in_err-number-clause-reads : goal.returns-in_err-number-clause-reads
returns-in_err-number-clause-reads g c =
    rw (at_exit c.from_residual.result c.in_err-number.field-0.0 c.from_residual.ensures.1)
    (number_stop EnumForm twos_of_octets signed is_int64 c.args.count _ _ _ c.in_err-number.ensures.reads)

pub returns-then-number-clause-reads : goal.returns-then-number-clause-reads
returns-then-number-clause-reads g c =
    rw (to_z-of_z w64 c.narrow.result (record { sfits = c.narrow.type_inv }), c.narrow.ensures)
    (enum_number_in c.args.count c.in_ok-number.number _ _ c.requires (omega arith) c.in_ok-number.ensures.reads)

pub returns-else-number-clause-reads : goal.returns-else-number-clause-reads
returns-else-number-clause-reads g c =
    enum_number_out c.args.count c.in_ok-number.number _ _ _ c.requires (omega arith) c.fault.ensures.why c.fault.ensures.taken c.in_ok-number.ensures.reads
