use Rattle.std.proofs.Common.{Ok, Err}
use Rattle.std.proofs.lemmas.Result.{err_from_is_err_and}
use Rattle.oer_types.specs.Schema.{the_type}
use Rattle.oer_parts.specs.Handing.{Follows, Hands}
use Rattle.oer_parts.specs.Walk.{path_of}
use Rattle.oer_example.proofs.Parts.{is_part, no_part, of_given, one_part}
use Rattle.oer_example.proofs.renewed.part_of.Goals as goal

pub returns-in-Ok-clause-part : goal.returns-in-Ok-clause-part
returns-in-Ok-clause-part c =
    let T = the_type c.args.schema.now in
    let path = path_of c.args.path.now in
    is_part (λ s. s.now) T c.args.octets.now path c.in-Ok.part
    (of_given (λ U xs. Hands (λ s. s.now) U xs path (Ok c.in-Ok.part)) c.in_ok-encoding.encoding T c.args.octets.now c.in_ok-encoding.ensures.kind c.in_ok-encoding.ensures.octets c.in-Ok.ensures.told) c.in_ok-encoding.ensures.only

pub returns-in-Ok-clause-only : goal.returns-in-Ok-clause-only
returns-in-Ok-clause-only c =
    let T = the_type c.args.schema.now in
    let path = path_of c.args.path.now in
    one_part (λ s. s.now) T c.args.octets.now path c.in-Ok.part
    (of_given (λ U xs. Follows (λ s. s.now) U xs path (Ok c.in-Ok.part)) c.in_ok-encoding.encoding T c.args.octets.now c.in_ok-encoding.ensures.kind c.in_ok-encoding.ensures.octets c.in-Ok.ensures.comes) c.in_ok-encoding.ensures.whole
