use Rattle.std.proofs.Common.{arith, length, ◌≡◌, ◌<◌, subst, Some, slice_get, sym}
use Rattle.oer_module_syntax.specs.Tree.{assignment_of}
use Rattle.oer_module_names.proofs.Readings.{assignments_count, assignments_read, item_read}
use Rattle.oer_module_names.specs.Views.{modules_in}
use Rattle.oer_module_names.proofs.names.Names.assignment.Goals as goal

pub index-requires : goal.index-requires
index-requires c =
    let m = c.the_module.result.now in
    omega (arith, c.requires.assignment, assignments_count (modules_in c.args.self.now) c.args.found.«module» m c.the_module.ensures, m.assignments.ok.0)

pub returns : goal.returns
returns c =
    let m = c.the_module.result.now in
    let within : c.args.found.assignment < length m.assignments.items =
    omega (arith, c.requires.assignment, assignments_count (modules_in c.args.self.now) c.args.found.«module» m c.the_module.ensures) in
    subst (λ is. slice_get is c.args.found.assignment ≡ Some (assignment_of c.index.result.now)) (sym (assignments_read (modules_in c.args.self.now) c.args.found.«module» m c.the_module.ensures))
    (item_read assignment_of m.assignments.items c.args.found.assignment c.index.result.now within c.index.ensures)
