use Rattle.std.proofs.Common.{length, subst, sym, ◌∙◌}
use Rattle.oer_module_names.proofs.Adding.{named_below}
use Rattle.oer_module_names.proofs.Readings.{says_named}
use Rattle.oer_module_names.specs.Views.{IsSoleBelow, modules_in}
use Rattle.oer_module_names.proofs.names.Names.named.Goals as goal

pub returns-clause-value : goal.returns-clause-value
returns-clause-value c = c.get.ensures ∙ says_named c.args.self.now c.args.name.now

pub returns-clause-below : goal.returns-clause-below
returns-clause-below c =
    let n = c.args.self.now in
    subst (IsSoleBelow (length (modules_in n))) (sym (c.get.ensures ∙ says_named n c.args.name.now)) (named_below (modules_in n) c.args.name.now)
