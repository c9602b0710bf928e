use Rattle.std.proofs.Common.{◌≡◌, ◌++◌, ◌∷◌, [], Some, add-one, rules}
use Rattle.oer_parts.specs.Encoding.{type_of_encoding}
use Rattle.oer_at.specs.Finding.{octets_at_front}
use Rattle.oer_at.proofs.Going.{all_steps, ends, next, one_step_more}
use Rattle.oer_at.proofs.part.steps_at.Goals as goal

pub loop-hop-preserved : goal.loop-hop-preserved
loop-hop-preserved c =
    let l = c.loop-hop in
    let e = c.args.encoding.now in
    let hops = c.args.hops.now in
    let step = c.in_ok-step.step in
    let less = c.loop-hop-test.true in
    let after = next _ (Some (type_of_encoding e)) (octets_at_front e) l.path.items _ hops l.hop-index _ step less c.as_slice.ensures.value l.invariant.found c.in_ok-step.ensures.found in
    let steps = one_step_more hops l.hop-index _ l.path.items step less l.invariant.steps c.in_ok-step.ensures.step in
    let pushed : c.push.new.self.items ≡ l.path.items ++ (step ∷ []) = search rules in
    record { found = rw (pushed, add-one l.hop-index) after; steps = rw (pushed, add-one l.hop-index) steps }

pub returns-clause-found : goal.returns-clause-found
returns-clause-found c = ends _ _ c.args.hops.now c.loop-hop.hop-index c.loop-hop-test.false c.loop-hop.invariant.found

pub returns-clause-steps : goal.returns-clause-steps
returns-clause-steps c = all_steps c.args.hops.now c.loop-hop.hop-index c.loop-hop.path.items c.loop-hop-test.false c.loop-hop.invariant.steps
