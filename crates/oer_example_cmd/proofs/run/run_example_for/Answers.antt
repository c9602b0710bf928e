use Rattle.std.proofs.Common.{inr, map, string_bytes}
use Rattle.oer_example_cmd.proofs.Endings.{not_taken}
use Rattle.oer_example_cmd.proofs.run.run_example_for.Goals as goal

pub returns-in-Err-clause-exact : goal.returns-in-Err-clause-exact
returns-in-Err-clause-exact g c =
    let r = c.refused.ensures in
    inr (not_taken (map string_bytes c.args.words.now) c.in-Err.error c.refused.result _ r.memory c.in-Err.ensures.kinds c.in-Err.ensures.err r.kept r.shows r.alone r.words r.quiet r.failed)
