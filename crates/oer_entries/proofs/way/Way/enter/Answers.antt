use Rattle.std.proofs.Common.{◌∙◌, vec_len}
use Rattle.oer_entries.proofs.Steps.{enter_parts, enter_way}
use Rattle.oer_entries.proofs.way.Way.enter.Goals as goal

pub returns-clause-parts : goal.returns-clause-parts
returns-clause-parts c = λ T h.
    let frames = c.args.self.now.frames in
    enter_parts frames.items _ (vec_len frames) c.in-Some.last.now c.inner-inner.result c.args.step _ _ _ _ c.len.result c.len-2.result
    frames.ok.0 c.args.self.now.has_whole c.in-Some.ensures.value c.inner-inner.ensures h.path h.names c.in_ok-push_step.ensures c.in_ok-push_name.ensures (c.len.ensures
    ∙ c.push_step.new.text.bytes.ok.0) (c.len-2.ensures ∙ c.push_name.new.text.bytes.ok.0) c.in_ok-push.ensures.items

pub returns-clause-way : goal.returns-clause-way
returns-clause-way c = λ T h.
    let frames = c.args.self.now.frames in
    enter_way T c.args.self.now _ c.in-Some.last.now c.inner-inner.result c.args.step h frames.ok.0 c.args.self.now.has_whole c.in-Some.ensures.value c.inner-inner.ensures
    c.in_ok-push_step.ensures c.in_ok-push_name.ensures (returns-clause-parts c T h)
