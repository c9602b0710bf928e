use Rattle.std.proofs.lemmas.Result.{IfOk-weaker}
use Rattle.oer_types.specs.Schema.{the_type}
use Rattle.oer_layout.specs.declared.as_json.Objects.{Objects}
use Rattle.oer_layout.proofs.Printed.{objects_of_rows}
use Rattle.oer_layout.proofs.as_json.print_each.Goals as goal

pub returns-clause-loan : goal.returns-clause-loan
returns-clause-loan g c = IfOk-weaker c.each_entry.result _ _ (λ done h. let x = (objects_of_rows g.W.Write.contents (λ (p : Objects _). p.out) (λ (p : Objects _). p.is_first) (the_type c.args.schema.now) c.args.octets.now c.args.objects done.0 h) in x.2.loan) c.each_entry.ensures.taken

pub returns-clause-printed : goal.returns-clause-printed
returns-clause-printed g c = IfOk-weaker c.each_entry.result _ _ (λ done h. (objects_of_rows g.W.Write.contents (λ (p : Objects _). p.out) (λ (p : Objects _). p.is_first) (the_type c.args.schema.now) c.args.octets.now c.args.objects done.0 h)) c.each_entry.ensures.taken
