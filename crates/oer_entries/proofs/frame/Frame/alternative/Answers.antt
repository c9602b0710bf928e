use Rattle.std.proofs.Common.{ap, ◌∙◌, Some, None}
use Rattle.oer_model.specs.Parts.{to_chosen}
use Rattle.oer_entries.specs.Known.{Known}
use Rattle.oer_entries.proofs.Parts.{alternative_is}
use Rattle.oer_entries.proofs.frame.Frame.alternative.Goals as goal

pub returns-in-Some : goal.returns-in-Some
returns-in-Some c =
    let b = c.in-Some-Choice in
    c.as_str.ensures.value ∙ ap (λ (k : Known). k.name)
    (alternative_is c.args.self.now b.field-0 b.root b.additions c.args.tag to_chosen c.deref.result.now (Some c.in-Some.one.now) b.is (rw b.is at b.field-0-is)
    c.deref.ensures.value c.in-Some.ensures)

pub returns-in-None : goal.returns-in-None
returns-in-None c =
    let b = c.in-Some-Choice in
    ap (λ (k : Known). k.name)
    (alternative_is c.args.self.now b.field-0 b.root b.additions c.args.tag to_chosen c.deref.result.now None b.is (rw b.is at b.field-0-is) c.deref.ensures.value c.in-None.ensures)
