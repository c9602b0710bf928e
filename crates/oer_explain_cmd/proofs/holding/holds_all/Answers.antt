use Rattle.std.proofs.Common.{◌∙◌, sym}
use Rattle.oer_explain_cmd.proofs.Fails.{unless_refused}
use Rattle.oer_explain_cmd.proofs.holding.holds_all.Goals as goal

pub returns : goal.returns
returns c is = unless_refused _ c.holds.result c.holds.ensures (sym c.unwrap_or.ensures ∙ is)
