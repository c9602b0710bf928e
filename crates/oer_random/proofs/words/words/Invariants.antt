use Rattle.std.proofs.Common.{◌≡◌, ◌≤◌, ◌-◌, ◌++◌}
use Rattle.oer_random.specs.Words.{words}
use Rattle.oer_random.proofs.words.words.Given as goal

abbrev pub invariant-loop : goal.invariant-loop
invariant-loop l = (l.words.items ++ words (l.count - l.counter) l.rng ≡ words l.count l.seed) × (l.counter ≤ l.count)
