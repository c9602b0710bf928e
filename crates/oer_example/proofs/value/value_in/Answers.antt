use Rattle.std.proofs.Common.{Some, arith, refl}
use Rattle.oer_units.specs.Stream.{inner_of}
use Rattle.oer_types.specs.Schema.{the_type}
use Rattle.oer_values.specs.ValueView.{value_of}
use Rattle.oer_example.proofs.Values.{all_taken, not_read}
use Rattle.oer_example.proofs.value.value_in.Goals as goal

pub returns-in-Err-clause-none : goal.returns-in-Err-clause-none
returns-in-Err-clause-none c = λ other v enc.
    not_read (the_type c.args.schema.now) _ c.args.octets.now (Some ((inner_of c.new-reader.result).now)) (Some ((inner_of c.read_with_length.new.reader).now)) v c.in-Err.fault c.in-Err.ensures.comes (rw (c.new-reader.ensures.inner) refl) (omega arith) enc (c.fault_of.ensures other)

pub returns-then-taken-octets-clause-none : goal.returns-then-taken-octets-clause-none
returns-then-taken-octets-clause-none c = λ other v enc.
    let same = all_taken (the_type c.args.schema.now) _ c.args.octets.now (Some ((inner_of c.new-reader.result).now)) (Some ((inner_of c.read_with_length.new.reader).now)) v (value_of c.in-Ok.read.0) c.in-Ok.read.1 c.in-Ok.ensures.taken c.in-Ok.ensures.comes (rw (c.new-reader.ensures.inner) refl) (omega arith) enc in
    absurd (omega (arith, same))
