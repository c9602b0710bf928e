use Rattle.oer_checker.proofs.FieldSteps.{addition_defaults, addition_limits}
use Rattle.oer_checker.proofs.facts.addition_fits.Goals as goal

pub returns-clause-limits : goal.returns-clause-limits
returns-clause-limits c = addition_limits c.args.additions.now c.requires.one.0 c.args.addition.now c.requires.one.1 c.requires.one.2 c.requires.limits

pub returns-clause-defaults : goal.returns-clause-defaults
returns-clause-defaults c = addition_defaults c.args.additions.now c.requires.one.0 c.args.addition.now c.requires.one.1 c.requires.one.2 c.requires.defaults
