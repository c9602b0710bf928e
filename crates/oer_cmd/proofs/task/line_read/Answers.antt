use Rattle.oer_types.specs.Schema.{the_type}
use Rattle.oer_cmd.proofs.Answered.{part_line}
use Rattle.oer_cmd.proofs.task.line_read.Goals as goal

pub returns-in-Part-clause-exact : goal.returns-in-Part-clause-exact
returns-in-Part-clause-exact g c = λ path of b is.
    part_line c.args.task c.in-Part.hex c.in-Part.path (the_type c.args.schema.now) c.args.limit path b c.part_of_input.result c.in-Part.is c.requires of
    (λ same. c.part_of_input.ensures.exact path same b is)
