use Rattle.std.proofs.Common.{rules}
use Rattle.std.proofs.lemmas.List.MinMax.{ranks_by}
use Rattle.std.proofs.lemmas.Fn.{always_returns_same}
use Rattle.oer_types.proofs.NameOrder.{order_total}
use Rattle.oer_types.specs.NameOrder.{name_at, stands_before}
use Rattle.oer_types.proofs.order.sort.Goals as goal

pub returns-clause-sorted : goal.returns-clause-sorted
returns-clause-sorted c =
    c.sort_unstable_by.ensures.sorted (stands_before c.args.names) (ranks_by order_total (name_at c.args.names)) (always_returns_same _ _ _ (λ a r g h. search rules))
