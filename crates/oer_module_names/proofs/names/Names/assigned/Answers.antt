use Rattle.std.proofs.Common.{length, subst, sym, ◌∙◌}
use Rattle.oer_module_names.proofs.Adding.{assigned_below}
use Rattle.oer_module_names.proofs.Readings.{says_assigned}
use Rattle.oer_module_names.specs.Tables.{assignments_in}
use Rattle.oer_module_names.specs.Views.{IsSoleBelow, modules_in}
use Rattle.oer_module_names.proofs.names.Names.assigned.Goals as goal

pub returns-clause-value : goal.returns-clause-value
returns-clause-value c = c.get.ensures ∙ says_assigned c.args.self.now c.args.«module» c.part.result.now c.args.name.now c.part.ensures

pub returns-clause-below : goal.returns-clause-below
returns-clause-below c =
    let n = c.args.self.now in
    subst (IsSoleBelow (length (assignments_in (modules_in n) c.args.«module»))) (sym (c.get.ensures ∙ says_assigned n c.args.«module» c.part.result.now c.args.name.now c.part.ensures))
    (assigned_below (modules_in n) c.args.«module» c.args.name.now)
