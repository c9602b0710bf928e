use Rattle.std.proofs.Common.{◌++◌, ◌∙◌, ap₂}
use Rattle.std.specs.Char.{encode_utf8}
use Rattle.oer_random.specs.Leaves.{letter}
use Rattle.oer_random.proofs.Strings.{text_more}
use Rattle.oer_random.proofs.letters.text.Goals as goal

pub loop-word-preserved : goal.loop-word-preserved
loop-word-preserved c =
    c.in_ok-push.ensures.bytes ∙ ap₂ (λ a b. a ++ encode_utf8 b) c.loop-word.invariant c.letter.ensures
    ∙ text_more (letter c.args.letters) c.deref-word-items.result.now c.loop-word.word-index _ c.loop-word-test.true
