use Rattle.std.proofs.Common.{◌∙◌, inl, inr, map, string_bytes, refl, sym}
use Rattle.oer_types.specs.Schema.{the_type}
use Rattle.oer_explain_cmd.proofs.Endings.{not_taken_for}
use Rattle.oer_explain_cmd.proofs.run.run_explained_for.Goals as goal

pub returns-in-Err-clause-exact : goal.returns-in-Err-clause-exact
returns-in-Err-clause-exact g c =
    inl (
      λ taken. c.refused.ensures.memory (c.in-Err.ensures.err taken),
      not_taken_for c.args.command (the_type c.args.schema.now) (map string_bytes c.args.words.now) _ _ c.in-Err.error c.refused.result _
          c.in-Err.ensures.kinds c.in-Err.ensures.err c.refused.ensures.memory c.refused.ensures.shows c.refused.ensures.alone c.refused.ensures.words
          c.refused.ensures.quiet c.refused.ensures.failed c.refused.ensures.kept c.refused.ensures.line refl,
    )

pub returns-then-holds_all_for-clause-exact : goal.returns-then-holds_all_for-clause-exact
returns-then-holds_all_for-clause-exact g c =
    inr (inr (inr (c.in-Ok.options, c.in-Ok.ensures.ok, c.holds_all_for.ensures.held c.if-holds_all_for.true, c.run_holding_for.ensures.holds)))

pub returns-then-reads_octets-clause-exact : goal.returns-then-reads_octets-clause-exact
returns-then-reads_octets-clause-exact g c =
    inr (inr (inl (
      c.in-Ok.options,
      c.in-Ok.ensures.ok,
      c.holds_all_for.ensures.others c.if-holds_all_for.false,
      sym c.reads_octets.ensures ∙ c.if-reads_octets.true,
      c.run_looking_for.ensures.looks,
    )))

pub returns-clause-exact : goal.returns-clause-exact
returns-clause-exact g c = inr (inl (record {
  options = c.in-Ok.options;
  asks = c.in-Ok.ensures.ok;
  stopped = c.explain_for.ensures.0;
  ends = (_, c.run_without_for-status.ensures.ends, c.explain_for.ensures.1);
}))
