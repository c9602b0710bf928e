use Rattle.std.proofs.Common.{List, ℕ, Some, inl, inr, map, refl, string_bytes, subst, true}
use Rattle.oer_explain_cmd.proofs.Endings.{done_on, not_taken}
use Rattle.oer_options.specs.Words.{texts_of}
use Rattle.oer_explain_cmd.specs.Adding.{is_held, notes_of}
use Rattle.oer_explain_cmd.specs.Found.{type_by}
use Rattle.oer_explain_cmd.specs.Saying.{AddsGiven, SaysBy}
use Rattle.oer_explain_cmd.proofs.run.run_explained.Goals as goal

pub returns-in-Err-clause-exact : goal.returns-in-Err-clause-exact
returns-in-Err-clause-exact g c =
    inl (
      λ taken. c.refused.ensures.memory (c.in-Err.ensures.err taken),
      not_taken c.args.command (map string_bytes c.args.words.now) _ _ c.in-Err.error c.refused.result _ c.in-Err.ensures.kinds c.in-Err.ensures.err
          c.refused.ensures.memory c.refused.ensures.shows c.refused.ensures.alone c.refused.ensures.words c.refused.ensures.quiet c.refused.ensures.failed
          c.refused.ensures.kept c.refused.ensures.line refl,
    )

pub returns-then-looks_first-clause-exact : goal.returns-then-looks_first-clause-exact
returns-then-looks_first-clause-exact g c =
    inr (inr (inr (inl (c.in-Ok.options, c.in-Ok.ensures.ok, c.looks_first.ensures c.if-looks_first.true, c.run_looking.ensures.looks))))

pub returns-then-holds_all-clause-exact : goal.returns-then-holds_all-clause-exact
returns-then-holds_all-clause-exact g c =
    inr (inr (inr (inr (c.in-Ok.options, c.in-Ok.ensures.ok, c.holds_all.ensures c.if-holds_all.true, c.run_holding.ensures.holds))))

pub returns-clause-exact : goal.returns-clause-exact
returns-clause-exact g c =
    let words = map string_bytes c.args.words.now in
    let o = c.in-Ok.options in
    let b = c.in-Some.octets in
    let middle = g.E.Write.contents c.run_without-status-2.new.errors in
    let errors = g.E.Write.contents c.explain-2.new.errors in
    inr (inr (inl (record {
      options = o;
      asks = c.in-Ok.ensures.ok;
      held = Some b.items;
      stopped = c.explain-2.ensures.0;
      ends = (
        middle,
        done_on c.args.command words (g.R.Read.remaining c.args.input.now) _ _ c.in-Ok-held_types.held b c.as_slice-reader.result.now (is_held c.args.command o)
            c.run_without-status-2.result _ _ _ middle c.in-Ok-held_types.ensures.held c.in-Some.is c.as_slice-reader.ensures.value c.run_without-status-2.ensures.ends,
        subst (λ (l : List ℕ). AddsGiven (notes_of c.explain-2.ensures.0 c.args.command o (Some l)) (SaysBy o true (type_by (texts_of o) (Some l))) o
            c.run_without-status-2.result middle errors) c.as_slice.ensures.value c.explain-2.ensures.1,
      );
    })))
