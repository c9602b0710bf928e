use Rattle.std.proofs.Common.{Some, sym, ap, ◌∙◌}
use Rattle.serde_json.specs.View.{members_view, view}
use Rattle.oer_json.proofs.PartSteps.{not_only, only_one}
use Rattle.oer_json_places.specs.Next.{ok_of}
use Rattle.oer_json_places.proofs.Members.{of_none, of_object}
use Rattle.oer_json_places.proofs.next.one_member.Goals as goal

pub returns-in_default : goal.returns-in_default
returns-in_default c =
    let e = rw c.in_default.is at c.as_object.ensures in
    sym (of_none (view c.args.json.now) (sym e))

pub returns-then-len-ne1 : goal.returns-then-len-ne1
returns-then-len-ne1 c =
    let es = c.in-Some.members.now.entries in
    let e = rw c.in-Some.is at c.as_object.ensures in
    sym (of_object (view c.args.json.now) (members_view es) (sym e) ∙ ap ok_of
    (not_only es c.len.result c.len.ensures.len c.if-len-ne1.true))

pub returns : goal.returns
returns c =
    let es = c.in-Some.members.now.entries in
    let e = rw c.in-Some.is at c.as_object.ensures in
    let k = only_one es c.len.result _ c.len.ensures.len c.if-len-ne1.false c.in-Some-first_key_value.ensures.first in
    sym (of_object (view c.args.json.now) (members_view es) (sym e) ∙ ap ok_of k ∙ ap (λ s. Some
    (s, view c.in-Some-first_key_value.json.now)) (sym c.as_str.ensures.value))
