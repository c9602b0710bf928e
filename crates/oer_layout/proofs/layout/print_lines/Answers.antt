use Rattle.std.proofs.Common.{◌∙◌, subst, sym}
use Rattle.oer_types.specs.Schema.{the_type}
use Rattle.oer_layout.specs.Pages.{PrintsLinesOf}
use Rattle.oer_layout.proofs.Printed.{begins_with, lines_page}
use Rattle.oer_layout.proofs.layout.print_lines.Goals as goal

pub returns-clause-printed : goal.returns-clause-printed
returns-clause-printed g c =
    let same = c.output-2-1.given.1 (sym (c.in_ok-lines.ensures.loan ∙ c.new.ensures.loan)) in
    subst (λ w. PrintsLinesOf c.args.width (the_type c.args.schema.now) c.args.octets.now (g.W.Write.contents c.args.output.now)
    (g.W.Write.contents w)) (sym same)
    (lines_page g.W.Write.contents c.args.width (the_type c.args.schema.now) c.args.octets.now c.in_ok-widths.widths _ _ c.in_ok-lines.lines.out _
    (begins_with g.W.Write.contents _ _ _ _ c.in_ok-text.ensures c.new.ensures.begins) c.in_ok-widths.ensures c.in_ok-lines.ensures.printed c.in_ok-write_last.ensures)
