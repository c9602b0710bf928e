use Rattle.std.proofs.Common.{◌∙◌, ap, Bor, List, ℕ}
use Rattle.std.proofs.lemmas.Result.{on_ok_weaker}
use Rattle.oer_parts.specs.Walk.{path_of}
use Rattle.oer_entries.proofs.Tags.{placed, reached_stands}
use Rattle.oer_entries.proofs.entries.Making.enter.Goals as goal

pub returns : goal.returns
returns g c = on_ok_weaker c.take.result (λ took. λ T before h.
    let row = c.args.row in
    let v = c.args.self.now.way in
    let w = c.go_to.new.self in
    let octets = v.octets.now in
    let leads = c.in_ok-go_to.ensures.way T h.leads in
    let stands = reached_stands T octets before v w row.path.now h leads (c.in_ok-go_to.ensures.parts T h.leads) (ap (λ (o : Bor (List ℕ)). o.now) c.in_ok-go_to.ensures.octets) in
    let texts = placed T octets before (path_of row.path.now) w stands in (
      stands,
      (
        c.entry-entry.result,
        c.entry-entry.ensures.spot,
        (
          c.entry-entry.ensures.path ∙ c.part.ensures.0 ∙ texts.0,
          c.entry-entry.ensures.names ∙ c.part.ensures.1 ∙ texts.1,
          c.entry-entry.ensures.kind ∙ c.part.ensures.2 ∙ texts.2,
        ),
        took,
      ),
    )) c.take.ensures
