use Rattle.oer_modules.proofs.Wholes.{unread}
use Rattle.oer_modules.specs.Refusals.{refusal_of}
use Rattle.oer_c.proofs.Stopping.{now_of, stop_told}
use Rattle.oer_c.proofs.modules.no_types.Goals as goal

pub returns-in-Err : goal.returns-in-Err
returns-in-Err c =
    let ts = now_of c.args.texts.now in
    stop_told ts c.args.nesting c.in-Err.refusal c.stop_of.result c.stop_of.ensures
    (λ not_memory. unread ts c.args.nesting (refusal_of c.in-Err.refusal) (c.in-Err.ensures not_memory))
