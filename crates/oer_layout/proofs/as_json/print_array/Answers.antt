use Rattle.std.proofs.Common.{◌∙◌, subst, sym}
use Rattle.oer_types.specs.Schema.{the_type}
use Rattle.oer_layout.specs.Pages.{PrintsArrayOf}
use Rattle.oer_layout.proofs.Printed.{array_page, begins_with}
use Rattle.oer_layout.proofs.as_json.print_array.Goals as goal

pub returns : goal.returns
returns g c =
    let same = c.output-2-1.given.1 (sym (c.in_ok-objects.ensures.loan ∙ c.new.ensures.loan)) in
    subst (λ w. PrintsArrayOf (the_type c.args.schema.now) c.args.octets.now (g.W.Write.contents c.args.output.now)
    (g.W.Write.contents w)) (sym same)
    (array_page g.W.Write.contents (the_type c.args.schema.now) c.args.octets.now _ _ c.in_ok-objects.objects.out _
    (begins_with g.W.Write.contents _ _ _ _ c.in_ok-text.ensures c.new.ensures.begins) c.in_ok-objects.ensures.printed c.in_ok-write_last.ensures)
