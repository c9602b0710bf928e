use Rattle.std.proofs.Common.{◌∙◌, ap, map, sym}
use Rattle.oer_types.specs.Schema.{the_type}
use Rattle.oer_cmd.proofs.Endings.{keeps_same}
use Rattle.oer_cmd.specs.Ending.{Streams}
use Rattle.oer_at.specs.Hops.{hops_of}
use Rattle.oer_at_cmd.specs.Answer.{at_of}
use Rattle.oer_words.specs.Scan.{text_behind}
use Rattle.oer_at_cmd.proofs.Endings.{name_lost}
use Rattle.oer_at_cmd.proofs.run.run_type.Goals as goal

pub returns-in-Err-Name-clause-ends : goal.returns-in-Err-Name-clause-ends
returns-in-Err-Name-clause-ends g c =
    let lost = rw c.in-Err-Name.field-0-is at c.in-Err-Name.ensures.exact in
    let s : Streams = record {
      output = g.W.Write.contents c.args.output.now;
      output' = g.W.Write.contents c.args.output.now;
      errors = g.E.Write.contents c.args.errors.now;
      errors' = g.E.Write.contents c.tell_name.new.errors;
    } in
    let one = ap (map text_behind) c.deref.ensures.value in
    let told = ap (map text_behind) c.deref-in-Err-Name.ensures.value in
    name_lost c.args.origin (at_of c.args.at) (g.R.Read.remaining c.args.input.now) (the_type c.args.schema.now) c.in-Ok.spelt
    (map text_behind c.deref-in-Err-Name.result.now) _ c.in-Err-Name.fault c.tell_name.result s (sym c.in-Err-Name.fault-is) c.in-Ok.ensures.exact
    (told ∙ c.in-Ok-names_in.ensures) (ap (hops_of (the_type c.args.schema.now)) (told ∙ sym one) ∙ lost) (keeps_same (g.W.Write.contents c.args.output.now)) c.tell_name.ensures
