use Rattle.std.proofs.Common.{List, inr, ℕ, map, string_bytes, subst}
use Rattle.oer_explain_cmd.proofs.Endings.{held_on}
use Rattle.oer_explain_cmd.specs.Holding.{AddsHeld}
use Rattle.oer_explain_cmd.proofs.run.run_holding.Goals as goal

pub returns-clause-holds : goal.returns-clause-holds
returns-clause-holds g c =
    let words = map string_bytes c.args.words.now in
    let b = c.in-Ok.octets in
    let middle = g.E.Write.contents c.run_without-status.new.errors in
    let errors = g.E.Write.contents c.add_held.new.errors in
    let status = c.run_without-status.result in
    inr (record {
      octets = b.items;
      all = c.in-Ok.ensures.all;
      done = (
        middle,
        held_on c.args.command words _ b.items c.as_slice-reader.result.now status _ _ _ middle c.as_slice-reader.ensures.value
            c.run_without-status.ensures.ends,
        subst (λ (l : List ℕ). AddsHeld c.args.options.task c.args.options l status middle errors) c.as_slice.ensures.value c.add_held.ensures,
      );
    })
