use Rattle.oer_module_bounds.proofs.Members.{of_both}
use Rattle.oer_module_bounds.proofs.hull.both.Goals as goal

pub returns : goal.returns
returns c = λ p q g h.
    of_both c.new-tally.result c.add.new.self c.add-2.new.self c.args.first.now c.args.second.now p q c.at_least.result
    c.new-tally.ensures.holding c.new-tally.ensures.turns c.in_ok-add.ensures.holding c.in_ok-add.ensures.turns
    c.in_ok-add-2.ensures.holding c.in_ok-add-2.ensures.turns g h c.at_least.ensures
