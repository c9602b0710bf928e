use Rattle.std.proofs.Common.{Global, String}
use Rattle.oer_types.specs.Schema.{the_type}
use Rattle.oer_cmd.proofs.Meeting.{bytes}
use Rattle.oer_ends_cmd.proofs.Rejections.{fault_told, made_told}
use Rattle.oer_ends_cmd.proofs.given.line_in_hand.Goals as goal

pub returns-in-Ok-clause-exact : goal.returns-in-Ok-clause-exact
returns-in-Ok-clause-exact c = λ path of. made_told bytes (the_type c.args.schema.now) c.args.options.limit c.args.octets.now
    _ c.in-Ok.line (c.in-Ok.ensures.exact path of)

pub returns-in-Err-clause-exact : goal.returns-in-Err-clause-exact
returns-in-Err-clause-exact c = λ path of. fault_told {X = String Global} bytes (the_type c.args.schema.now) c.args.options.limit c.args.octets.now
    _ c.in-Err.fault c.told.result c.told.ensures (c.in-Err.ensures.exact path of)
