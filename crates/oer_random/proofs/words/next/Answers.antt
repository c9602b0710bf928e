use Rattle.std.proofs.Common.{ap}
use Rattle.oer_random.specs.Words.{after, word}
use Rattle.oer_random.proofs.words.next.Goals as goal

pub returns-clause-word : goal.returns-clause-word
unfolding word
returns-clause-word c = ap (λ p. p.0) c.next_word.ensures

pub returns-clause-rest : goal.returns-clause-rest
unfolding after
returns-clause-rest c = ap (λ p. p.1) c.next_word.ensures
