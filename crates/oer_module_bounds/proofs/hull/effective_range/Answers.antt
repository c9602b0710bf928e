use Rattle.std.proofs.Common.{map, sym, ◌∙◌}
use Rattle.oer_module_bounds.specs.Sets.{constraint_of}
use Rattle.oer_module_bounds.proofs.Plainness.{plain_is_effective}
use Rattle.oer_module_bounds.proofs.hull.effective_range.Goals as goal

pub returns-then-bound_plainly : goal.returns-then-bound_plainly
returns-then-bound_plainly c =
    c.loose_effective_range.ensures
    ∙ plain_is_effective (map constraint_of c.args.constraints.now) (sym c.bound_plainly.ensures ∙ c.if-bound_plainly.true)
