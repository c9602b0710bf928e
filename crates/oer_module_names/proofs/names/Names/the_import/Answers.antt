use Rattle.std.proofs.Common.{arith, length, ◌≡◌, ◌<◌, subst, Some, slice_get, sym}
use Rattle.oer_module_syntax.specs.Tree.{import_of}
use Rattle.oer_module_names.proofs.Readings.{imports_count, imports_read, item_read}
use Rattle.oer_module_names.specs.Views.{modules_in}
use Rattle.oer_module_names.proofs.names.Names.the_import.Goals as goal

pub index-requires : goal.index-requires
index-requires c =
    let m = c.the_module.result.now in
    omega (arith, c.requires.import, imports_count (modules_in c.args.self.now) c.args.«module» m c.the_module.ensures, m.imports.ok.0)

pub returns : goal.returns
returns c =
    let m = c.the_module.result.now in
    let within : c.args.import < length m.imports.items = omega (arith, c.requires.import, imports_count (modules_in c.args.self.now) c.args.«module» m c.the_module.ensures) in
    subst (λ is. slice_get is c.args.import ≡ Some (import_of c.index.result.now)) (sym (imports_read (modules_in c.args.self.now) c.args.«module» m c.the_module.ensures))
    (item_read import_of m.imports.items c.args.import c.index.result.now within c.index.ensures)
