use Rattle.std.proofs.Common.{Global, None, Some, Vec, ℕ}
use Rattle.oer_types.specs.Schema.{the_type}
use Rattle.oer_cmd.proofs.Meeting.{bytes, left, stops}
use Rattle.oer_cmd.specs.Answer.{limited_octets, task_answer}
use Rattle.oer_cmd.specs.Octets.{octets_of}
use Rattle.oer_ends_cmd.specs.Telling.{told_answer}
use Rattle.oer_ends_cmd.proofs.given.line_of_input.Goals as goal

pub returns-in_err-octets-clause-exact : goal.returns-in_err-octets-clause-exact
returns-in_err-octets-clause-exact g c =
    let T = the_type c.args.schema.now in
    let o = c.args.options in
    rw (left c.from_residual.result _ c.from_residual.ensures.1)
    (λ path of. stops {X = Vec ℕ Global} octets_of bytes (limited_octets o.limit None (g.R.Read.remaining c.args.input.now))
    (λ b. told_answer T o.limit b (task_answer o.task T o.limit path (Some b))) _ c.in_err-octets.ensures.exact)
