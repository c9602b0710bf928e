use Rattle.std.proofs.Common.{length, subst, sym, ◌∙◌}
use Rattle.oer_module_names.proofs.Adding.{imported_below}
use Rattle.oer_module_names.proofs.Readings.{says_imported}
use Rattle.oer_module_names.specs.Tables.{imports_in}
use Rattle.oer_module_names.specs.Views.{IsSoleBelow, modules_in}
use Rattle.oer_module_names.proofs.names.Names.imported.Goals as goal

pub returns-clause-value : goal.returns-clause-value
returns-clause-value c = c.get.ensures ∙ says_imported c.args.self.now c.args.«module» c.part.result.now c.args.name.now c.part.ensures

pub returns-clause-below : goal.returns-clause-below
returns-clause-below c =
    let n = c.args.self.now in
    subst (IsSoleBelow (length (imports_in (modules_in n) c.args.«module»))) (sym (c.get.ensures ∙ says_imported n c.args.«module» c.part.result.now c.args.name.now c.part.ensures))
    (imported_below (modules_in n) c.args.«module» c.args.name.now)
