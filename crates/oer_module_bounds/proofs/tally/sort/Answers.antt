use Rattle.std.proofs.Common.{rules}
use Rattle.std.proofs.lemmas.Fn.{always_returns_same}
use Rattle.oer_module_bounds.specs.Tally.{number_at}
use Rattle.oer_module_bounds.proofs.tally.sort.Goals as goal

pub returns-clause-sorted : goal.returns-clause-sorted
returns-clause-sorted c = c.sort_unstable_by_key.ensures.sorted number_at (always_returns_same _ _ _ (λ a r g h. search rules))
