use Rattle.oer_writer.proofs.TypeBounds.{string_most}
use Rattle.oer_writer.proofs.most.most_of_string.Goals as goal

pub returns : goal.returns
returns c = string_most c.args.size c.plus.result c.in_ok-size.field-0 c.in_ok-size.was c.plus.ensures
