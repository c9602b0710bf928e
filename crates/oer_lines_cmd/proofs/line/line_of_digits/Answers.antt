use Rattle.std.proofs.Common.{Ok, Some, option_map, subst}
use Rattle.oer_types.specs.Schema.{the_type}
use Rattle.oer_cmd.specs.Answer.{hex_octets}
use Rattle.oer_cmd.specs.Expected.{Meets}
use Rattle.oer_cmd.specs.Octets.{octets_of}
use Rattle.oer_lines_cmd.proofs.Digits.{by_fault, by_octets}
use Rattle.oer_lines_cmd.proofs.line.line_of_digits.Goals as goal

pub returns-in-Ok-Some : goal.returns-in-Ok-Some
returns-in-Ok-Some c = λ path of. by_octets c.args.digits.now c.args.asked.tells_nesting c.args.asked.task (the_type c.args.schema.now) c.args.asked.limit path
    c.in-Ok-Some.octets c.as_slice.result.now c.told_line.result
    (subst (λ o. Meets (option_map octets_of) (hex_octets (Some c.args.digits.now)) (Ok o)) c.in-Ok-Some.field-0-is c.in-Ok-Some.ensures.exact)
    c.as_slice.ensures.value (c.told_line.ensures path of)

pub returns-in-Err : goal.returns-in-Err
returns-in-Err c = λ path of. by_fault c.args.digits.now c.args.asked.tells_nesting c.args.asked.task (the_type c.args.schema.now) c.args.asked.limit path
    c.in-Err.fault c.in-Err.ensures.exact
