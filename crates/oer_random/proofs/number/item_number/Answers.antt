use Rattle.std.proofs.Common.{arith}
use Rattle.std.proofs.lemmas.Grind.{common_steps}
use Rattle.oer_random.proofs.Loops.{item_at}
use Rattle.oer_random.proofs.number.item_number.Goals as goal

pub returns : goal.returns
returns c = let e = item_at c.args.items.now c.args.seed c.index-items-seed.result c.requires in grind (arith, common_steps, e)
