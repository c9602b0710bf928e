use Rattle.std.proofs.Common.{arith, rules, length, map, ◌^◌, ◌<◌}
use Rattle.oer_values.specs.ValueView.{unknown_of}
use Rattle.oer_writer.proofs.Bounds.{unknown_end, unknown_more, unknown_start}
use Rattle.oer_writer.proofs.bound.bound_unknown.Goals as goal

pub loop-one-init : goal.loop-one-init
loop-one-init c = unknown_start c.args.done (map unknown_of c.args.unknown.now)

pub loop-one-preserved : goal.loop-one-preserved
loop-one-preserved c =
    let x = c.one-item.result in
    let few : length x.octets.items < 2 ^ 64 = search rules in
    unknown_more c.args.done c.loop-one.done c.in_ok-done.done (map unknown_of c.args.unknown.now) c.args.unknown.now c.loop-one.one-index x c.loop-one-test.true c.one-item.is few (omega (arith, c.in_ok-done.ensures, c.in_ok-plus.ensures)) c.loop-one.invariant

pub returns : goal.returns
returns c = unknown_end c.args.done c.loop-one.done (map unknown_of c.args.unknown.now) c.args.unknown.now c.loop-one.one-index c.loop-one-test.false c.loop-one.invariant
