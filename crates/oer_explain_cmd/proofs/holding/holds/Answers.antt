use Rattle.std.proofs.Common.{◌∙◌, inl, inr, sym}
use Rattle.std.proofs.lemmas.Bool.{and_from}
use Rattle.std.proofs.lemmas.Result.{IfOk-weaker}
use Rattle.oer_options.specs.Words.{texts_of}
use Rattle.oer_explain_cmd.specs.Holding.{reads_all}
use Rattle.oer_explain_cmd.specs.Looking.{is_accepted}
use Rattle.oer_explain_cmd.proofs.holding.holds.Goals as goal

pub returns-then-reads_all : goal.returns-then-reads_all
returns-then-reads_all c =
    let o = c.args.options in
    IfOk-weaker c.is_accepted.result _ _
    (λ found e is. inl (and_from (reads_all c.args.command o.task) (is_accepted (texts_of o)) (sym c.reads_all.ensures ∙ c.if-reads_all.true) (sym e ∙ is)))
    c.is_accepted.ensures

pub returns : goal.returns
returns c = IfOk-weaker c.leads_by.result _ _ (λ found h is. inr (h is)) c.leads_by.ensures
