use Rattle.std.proofs.Common.{length, subst, sym, ◌∙◌}
use Rattle.oer_module_names.proofs.Adding.{source_in_below}
use Rattle.oer_module_names.proofs.Readings.{says_source}
use Rattle.oer_module_names.specs.Tables.{imports_in}
use Rattle.oer_module_names.specs.Views.{IsSoleBelow, modules_in}
use Rattle.oer_module_names.proofs.names.Names.source.Goals as goal

pub returns-clause-value : goal.returns-clause-value
returns-clause-value c = c.get.ensures ∙ says_source c.args.self.now c.args.«module» c.part.result.now c.args.from.now c.part.ensures

pub returns-clause-below : goal.returns-clause-below
returns-clause-below c =
    let n = c.args.self.now in
    subst (IsSoleBelow (length (imports_in (modules_in n) c.args.«module»))) (sym (c.get.ensures ∙ says_source n c.args.«module» c.part.result.now c.args.from.now c.part.ensures))
    (source_in_below (modules_in n) c.args.«module» c.args.from.now)
