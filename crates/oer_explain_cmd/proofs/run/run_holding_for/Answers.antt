use Rattle.std.proofs.Common.{List, inr, ℕ, map, string_bytes, subst}
use Rattle.oer_types.specs.Schema.{the_type}
use Rattle.oer_explain_cmd.proofs.Endings.{held_on_for}
use Rattle.oer_explain_cmd.specs.Holding.{AddsHeldFor}
use Rattle.oer_explain_cmd.proofs.run.run_holding_for.Goals as goal

pub returns-clause-holds : goal.returns-clause-holds
returns-clause-holds g c =
    let words = map string_bytes c.args.words.now in
    let T = the_type c.args.schema.now in
    let b = c.in-Ok.octets in
    let middle = g.E.Write.contents c.run_without_for-status.new.errors in
    let errors = g.E.Write.contents c.add_held_for.new.errors in
    let status = c.run_without_for-status.result in
    inr (record {
      octets = b.items;
      all = c.in-Ok.ensures.all;
      done = (
        middle,
        held_on_for c.args.command T words _ b.items c.as_slice-reader.result.now status _ _ _ middle c.as_slice-reader.ensures.value
            c.run_without_for-status.ensures.ends,
        subst (λ (l : List ℕ). AddsHeldFor c.args.options.task T c.args.options l status middle errors) c.as_slice.ensures.value c.add_held_for.ensures,
      );
    })
