use Rattle.std.proofs.Common.{arith, ◌∙◌, ap}
use Rattle.oer_units.specs.Numbers.{unsigned}
use Rattle.oer_units.specs.Width.{octets_of_width}
use Rattle.oer_lines_cmd.proofs.Blocks.{cut_message}
use Rattle.oer_lines_cmd.proofs.frames.take_frame.Goals as goal

pub returns-then-there-size : goal.returns-then-there-size
returns-then-there-size g c = cut_message (octets_of_width c.args.width) c.octets.result c.unsigned_of-size.result c.args.limit c.len-before.result
    c.in_ok-there.there (g.R.Read.remaining c.args.input.now) (g.R.Read.remaining c.take_octets.new.input) (g.R.Read.remaining c.take_message.new.input)
    c.take_octets.new.octets.items c.take_message.new.message.items c.octets.ensures c.in_ok-take_octets.ensures
    (omega (arith, c.len-before.ensures, c.take_octets.new.octets.ok.0)) (omega (arith, c.if-before-octets.false, c.octets-2.ensures))
    (c.unsigned_of-size.ensures ∙ ap unsigned c.deref.ensures.value) c.in_ok-there.ensures (omega (arith, c.if-before-eq0.false)) c.if-there-size.true
