use Rattle.std.proofs.Common.{◌∙◌}
use Rattle.oer_module_names.proofs.Readings.{says_exported}
use Rattle.oer_module_names.proofs.names.Names.is_exported.Goals as goal

pub returns : goal.returns
returns c = c.exports.ensures ∙ says_exported c.args.self.now c.args.«module» c.part.result.now c.args.name.now c.part.ensures
