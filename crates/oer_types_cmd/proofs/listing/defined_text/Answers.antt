use Rattle.oer_types_cmd.proofs.Meeting.{defined_met, undefined, unnamed}
use Rattle.oer_types_cmd.proofs.listing.defined_text.Goals as goal

pub returns-in-Err : goal.returns-in-Err
returns-in-Err c = undefined c.args.types.now c.args.name.now c.in-Err.fault c.in-Err.ensures.exact

pub returns : goal.returns
returns c = defined_met c.args.types.now c.args.name.now c.in-Ok.types c.in-Ok-named_type.schema c.printed_text.result
    c.in-Ok.ensures.exact c.in-Ok-named_type.ensures.exact c.printed_text.ensures

pub returns-in-Err-named_type : goal.returns-in-Err-named_type
returns-in-Err-named_type c = unnamed c.args.types.now c.args.name.now c.in-Ok.types c.in-Err-named_type.fault
    c.in-Ok.ensures.exact c.in-Err-named_type.ensures.exact
