use Rattle.std.proofs.Common.{sym, ◌∙◌}
use Rattle.oer_entries.proofs.Parts.{follows_is}
use Rattle.oer_entries.proofs.frame.Frame.has_alternative.Goals as goal

pub returns-else-is_some : goal.returns-else-is_some
returns-else-is_some c =
    let b = c.in-Some-Choice in
    c.is_some-else-is_some.ensures ∙ follows_is c.args.self.now b.field-0 b.root b.additions c.args.tag c.deref.result.now c.find_alternative.result
    b.is (rw b.is at b.field-0-is) c.deref.ensures.value (sym c.is_some.ensures ∙ c.if-is_some.false) c.find_alternative.ensures
