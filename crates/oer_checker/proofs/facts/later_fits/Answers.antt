use Rattle.oer_checker.proofs.TagSteps.{later_defaults, later_limits}
use Rattle.oer_checker.proofs.facts.later_fits.Goals as goal

pub returns-clause-limits : goal.returns-clause-limits
returns-clause-limits c = later_limits c.args.alternatives.now c.requires.one.0 c.args.alternative.now c.requires.one.1 c.requires.one.2 c.requires.limits

pub returns-clause-defaults : goal.returns-clause-defaults
returns-clause-defaults c = later_defaults c.args.alternatives.now c.requires.one.0 c.args.alternative.now c.requires.one.1 c.requires.one.2 c.requires.defaults
