use Rattle.std.proofs.Common.{arith}
use Rattle.oer_module_names.proofs.Readings.{module_read, modules_count}
use Rattle.oer_module_names.proofs.names.Names.the_module.Goals as goal

pub returns : goal.returns
returns c = module_read c.args.self.now c.args.«module» c.index-self-module.result (omega (arith, c.requires, modules_count c.args.self.now))
