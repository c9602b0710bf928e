use Rattle.std.proofs.Common.{Ok, sym, ap, ◌∙◌}
use Rattle.serde_json.specs.View.{view}
use Rattle.oer_json.specs.Take.{one_member}
use Rattle.oer_json.proofs.PartSteps.{not_only, only_one}
use Rattle.oer_json.proofs.parts.one_member.Goals as goal

pub returns-then-len-ne1 : goal.returns-then-len-ne1
unfolding one_member
returns-then-len-ne1 c = λ not_memory. rw c.in_ok-members.ensures (not_only c.in_ok-members.members.now.entries c.len.result c.len.ensures.len c.if-len-ne1.true)

pub returns : goal.returns
unfolding one_member
returns c =
    let e = only_one c.in_ok-members.members.now.entries c.len.result _ c.len.ensures.len c.if-len-ne1.false c.in-Some.ensures.first in
    rw c.in_ok-members.ensures (e ∙ ap (λ s. Ok (s, view c.in-Some.json.now)) (sym c.as_str.ensures.value))
