use Rattle.std.proofs.lemmas.Result.{IfOk-weaker}
use Rattle.oer_types.specs.Schema.{the_type}
use Rattle.oer_layout.specs.declared.layout.Lines.{Lines}
use Rattle.oer_layout.proofs.Printed.{lines_of_rows}
use Rattle.oer_layout.proofs.layout.print_each.Goals as goal

pub returns-clause-loan : goal.returns-clause-loan
returns-clause-loan g c = IfOk-weaker c.each_entry.result _ _
    (λ done h. let x = lines_of_rows g.W.Write.contents (λ (p : Lines _). p.out) (λ (p : Lines _). p.widths) (the_type c.args.schema.now) c.args.octets.now c.args.lines done.0 h in x.2.loan)
    c.each_entry.ensures.taken

pub returns-clause-printed : goal.returns-clause-printed
returns-clause-printed g c = IfOk-weaker c.each_entry.result _ _
    (λ done h. lines_of_rows g.W.Write.contents (λ (p : Lines _). p.out) (λ (p : Lines _). p.widths) (the_type c.args.schema.now) c.args.octets.now c.args.lines done.0 h)
    c.each_entry.ensures.taken
