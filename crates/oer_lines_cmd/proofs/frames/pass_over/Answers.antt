use Rattle.std.proofs.Common.{arith}
use Rattle.oer_lines_cmd.proofs.Blocks.{one_block}
use Rattle.oer_lines_cmd.proofs.frames.pass_over.Goals as goal

pub loop-passed-preserved : goal.loop-passed-preserved
loop-passed-preserved g c = one_block c.args.count c.min.result c.loop-passed.passed c.len.result _ _ _ c.take_octets.new.octets.items
    c.loop-passed.invariant.0 c.loop-passed.invariant.1 c.in_ok-take_octets.ensures (omega (arith, c.min.ensures)) (omega (arith, c.len.ensures, c.take_octets.new.octets.ok.0))
