use Rattle.std.proofs.Common.{◌∙◌}
use Rattle.oer_entries.proofs.Parts.{next_is}
use Rattle.oer_entries.proofs.next.next_of.Goals as goal

pub returns-in-Some-Sequence : goal.returns-in-Some-Sequence
returns-in-Some-Sequence c =
    let b = c.in-Some-Sequence in
    c.next_in_sequence.ensures ∙ next_is c.args.frame.now b.field-0 b.root b.additions c.deref.result.now b.is (rw b.is at b.field-0-is) c.deref.ensures.value
