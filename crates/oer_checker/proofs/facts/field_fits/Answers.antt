use Rattle.oer_checker.proofs.FieldSteps.{field_default, field_defaults, field_limits}
use Rattle.oer_checker.proofs.facts.field_fits.Goals as goal

pub returns-clause-limits : goal.returns-clause-limits
returns-clause-limits c = field_limits c.args.fields.now c.requires.one.0 c.args.field.now c.requires.one.1 c.requires.one.2 c.requires.limits

pub returns-clause-defaults : goal.returns-clause-defaults
returns-clause-defaults c = field_defaults c.args.fields.now c.requires.one.0 c.args.field.now c.requires.one.1 c.requires.one.2 c.requires.defaults

pub returns-clause-fits : goal.returns-clause-fits
returns-clause-fits c = field_default c.args.fields.now c.requires.one.0 c.args.field.now c.requires.one.1 c.requires.one.2 c.requires.defaults
