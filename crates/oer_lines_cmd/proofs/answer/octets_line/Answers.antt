use Rattle.std.proofs.Common.{refl}
use Rattle.oer_types.specs.Schema.{the_type}
use Rattle.oer_lines_cmd.proofs.Telling.{of_task}
use Rattle.oer_lines_cmd.proofs.answer.octets_line.Goals as goal

pub returns : goal.returns
returns c = of_task c.args.asked.task c.on_input.result.task (the_type c.args.schema.now) c.args.asked.limit c.on_input.result.limit c.args.octets.now
    _ c.line_of.result c.on_input.ensures.task c.on_input.ensures.limit refl c.line_of.ensures.exact
