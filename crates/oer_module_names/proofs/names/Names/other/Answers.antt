use Rattle.std.proofs.Common.{arith, length, ◌≡◌, ◌<◌, Some, slice_get, refl, subst, sym, ◌∙◌}
use Rattle.std.proofs.lemmas.Option.{slice_get_read}
use Rattle.oer_module_names.proofs.Adding.{other_in_below}
use Rattle.oer_module_names.proofs.Readings.{others_count, says_other}
use Rattle.oer_module_names.specs.Tables.{imports_in}
use Rattle.oer_module_names.specs.Views.{IsSoleBelow, modules_in}
use Rattle.oer_module_names.proofs.names.Names.other.Goals as goal

pub index-requires : goal.index-requires
index-requires c = omega (arith, c.requires, others_count c.args.self.now, c.args.self.now.others.ok.0)

pub returns-clause-value : goal.returns-clause-value
returns-clause-value c =
    let n = c.args.self.now in
    let within : c.args.«module» < length n.others.items = omega (arith, c.requires, others_count n) in
    let at : slice_get n.others.items c.args.«module» ≡ Some c.index.result.now =
    slice_get_read n.others.items (length n.others.items) c.args.«module» c.index.result.now refl within c.index.ensures in
    c.get.ensures ∙ says_other n c.args.«module» c.index.result.now c.args.from.now at

pub returns-clause-below : goal.returns-clause-below
returns-clause-below c =
    let n = c.args.self.now in
    let within : c.args.«module» < length n.others.items = omega (arith, c.requires, others_count n) in
    let at : slice_get n.others.items c.args.«module» ≡ Some c.index.result.now =
    slice_get_read n.others.items (length n.others.items) c.args.«module» c.index.result.now refl within c.index.ensures in
    subst (IsSoleBelow (length (imports_in (modules_in n) c.args.«module»))) (sym (c.get.ensures ∙ says_other n c.args.«module» c.index.result.now c.args.from.now at))
    (other_in_below (modules_in n) c.args.«module» c.args.from.now)
