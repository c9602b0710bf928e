use Rattle.std.proofs.Common.{ap, subst, option_map}
use Rattle.oer_model.specs.Parts.{knows, nothing_at}
use Rattle.oer_values.specs.ShapeView.{type_of}
use Rattle.oer_parts.specs.Walk.{CanSplit, step_of, type_in}
use Rattle.oer_parts.proofs.Leading.{found_splits, found_step, spelt_checked}
use Rattle.oer_parts.proofs.Ranging.{step_stands}
use Rattle.oer_parts.proofs.walk.Piece.enter.Goals as goal

pub step_into-requires-clause-checked : goal.step_into-requires-clause-checked
step_into-requires-clause-checked c =
    let is = ap (option_map (λ s. type_of s.now)) c.in-Some.is in
    spelt_checked (type_of c.in-Some.shape.now) c.args.self.octets.now (subst (λ V. CanSplit V c.args.self.octets.now) is c.requires)

pub returns-in-Some-step_into-clause-found : goal.returns-in-Some-step_into-clause-found
returns-in-Some-step_into-clause-found c =
    let is = ap (option_map (λ s. type_of s.now)) c.in-Some.is in
    let p = c.in-Some-step_into.piece in
    let T = type_of c.in-Some.shape.now in
    let b = c.args.self.octets.now in
    let e = found_step (type_in c.args.self) T b (step_of c.args.step) (type_in p) p.octets.now is (c.in-Some-step_into.ensures.found (nothing_at (knows T (step_of c.args.step)))) in
    (e, found_splits (type_in c.args.self) b (step_of c.args.step) (type_in p) p.octets.now c.requires e)

pub returns-in-Some-step_into-clause-stands : goal.returns-in-Some-step_into-clause-stands
returns-in-Some-step_into-clause-stands c =
    let is = ap (option_map (λ s. type_of s.now)) c.in-Some.is in
    let p = c.in-Some-step_into.piece in
    let T = type_of c.in-Some.shape.now in
    let b = c.args.self.octets.now in
    let step = step_of c.args.step in
    let e = found_step (type_in c.args.self) T b step (type_in p) p.octets.now is (c.in-Some-step_into.ensures.found (nothing_at (knows T step))) in
    step_stands (type_in c.args.self) T b step p is c.requires e c.in-Some-step_into.ensures.stands
