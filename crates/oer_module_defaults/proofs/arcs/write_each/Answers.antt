use Rattle.std.proofs.lemmas.Result.{err_from_is_err_and}
use Rattle.oer_module_defaults.proofs.Loops.{arcs_err, arcs_next}
use Rattle.oer_module_text.specs.Room.{room_of}
use Rattle.oer_module_defaults.proofs.arcs.write_each.Goals as goal

pub returns-in_err-arc : goal.returns-in_err-arc
returns-in_err-arc c =
    let l = c.loop-part in
    let p = err_from_is_err_and c.from_residual.result c.from_residual.ensures.1 in
    rw (p.1, p.2) (λ not_memory. arcs_err c.args.place c.args.parts.now l.part-index l.arcs.items (room_of l.room) _ l.invariant
    c.part-item.result c.loop-part-test.true c.part-item.is (c.in_err-arc.ensures not_memory))

pub loop-part-preserved : goal.loop-part-preserved
loop-part-preserved c =
    let l = c.loop-part in
    arcs_next c.args.place c.args.parts.now l.part-index l.arcs.items (room_of l.room) _ l.invariant
    c.part-item.result c.loop-part-test.true c.part-item.is c.in_ok-arc.ensures c.in_ok-push.ensures.items
