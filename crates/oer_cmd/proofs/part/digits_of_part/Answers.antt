use Rattle.std.proofs.Common.{string_bytes}
use Rattle.oer_units.specs.Octets.{IsOctets}
use Rattle.oer_types.specs.Schema.{the_type}
use Rattle.oer_parts.specs.Walk.{path_of as steps_of}
use Rattle.oer_cmd.proofs.Exact.{part_found}
use Rattle.oer_cmd.proofs.Meeting.{anyway, named}
use Rattle.oer_cmd.proofs.part.digits_of_part.Goals as goal

pub returns-clause-octets : goal.returns-clause-octets
returns-clause-octets c = anyway (IsOctets c.args.octets.now) c.in_digits.result c.in_ok-encoding.ensures.whole.1.0

pub returns-clause-exact : goal.returns-clause-exact
returns-clause-exact c =
    let T = the_type c.args.schema.now in
    let path = steps_of c.args.path.now in
    let e = c.in_ok-encoding.ensures in
    named string_bytes _ _ c.in_digits.result (part_found (λ s. s.now) T c.args.octets.now path _ c.in-Ok.octets e.says
    (rw (e.kind, e.octets) at c.in-Ok.ensures.exact))
    c.in_digits.ensures
