use Rattle.std.proofs.Common.{String, Global}
use Rattle.oer_cmd.proofs.Meeting.{bytes}
use Rattle.oer_types_cmd.specs.Answer.{defined_text, on_a_line}
use Rattle.oer_types_cmd.proofs.Meeting.{lined, stops}
use Rattle.oer_types_cmd.proofs.listing.defined_line.Goals as goal

pub returns-in-Ok : goal.returns-in-Ok
returns-in-Ok c = lined (defined_text c.args.types.now c.args.name.now) c.in-Ok.text c.line.result c.in-Ok.ensures
    c.line.ensures.made c.line.ensures.failed

pub returns-in-Err : goal.returns-in-Err
returns-in-Err c = stops {X = String Global} {Z = String Global} bytes bytes (defined_text c.args.types.now c.args.name.now) on_a_line
    c.in-Err.stop c.in-Err.ensures
