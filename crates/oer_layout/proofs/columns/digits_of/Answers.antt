use Rattle.std.proofs.Common.{arith}
use Rattle.std.proofs.lemmas.Fmt.{length-decimal-le}
use Rattle.oer_layout.proofs.Counted.{digits_more, digits_one}
use Rattle.oer_layout.proofs.columns.digits_of.Goals as goal

pub loop-left-preserved : goal.loop-left-preserved
loop-left-preserved c = omega (arith, digits_more c.loop-left.left (omega arith) (omega arith), length-decimal-le 20 c.args.number (omega arith) (omega arith) (omega arith))

pub returns : goal.returns
returns c = omega (arith, digits_one c.loop-left.left (omega arith))
