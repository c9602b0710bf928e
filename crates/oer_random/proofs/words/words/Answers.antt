use Rattle.std.proofs.Common.{◌-◌, ◌+◌, ◌++◌, ◌∙◌, ap, arith}
use Rattle.oer_random.specs.Words.{words}
use Rattle.oer_random.proofs.Loops.{word_pushed}
use Rattle.oer_random.proofs.words.words.Goals as goal

pub loop-preserved : goal.loop-preserved
loop-preserved c = (
  ap (λ ws. ws ++ words (c.args.count - (c.loop.counter + 1)) c.next.new.rng) c.in_ok-push.ensures.items
      ∙ word_pushed c.loop.words.items c.args.count c.loop.counter c.loop.rng c.next.result c.next.new.rng c.loop-test.true c.next.ensures.word c.next.ensures.rest
      ∙ c.loop.invariant.0,
  omega (arith, c.loop-test.true),
)
