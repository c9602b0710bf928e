use Rattle.std.proofs.Common.{◌∙◌}
use Rattle.oer_module_bounds.specs.Sets.{set_of}
use Rattle.oer_module_bounds.proofs.Giving.{hull_given}
use Rattle.oer_module_bounds.proofs.hull.hull_of.Goals as goal

pub returns : goal.returns
returns c = c.hull.ensures ∙ hull_given c.in_ok-steps.steps (set_of c.args.set.now) c.in_ok-steps.ensures
