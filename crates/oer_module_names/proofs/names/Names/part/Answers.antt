use Rattle.std.proofs.Common.{arith, length, ◌<◌, refl}
use Rattle.std.proofs.lemmas.Option.{slice_get_read}
use Rattle.oer_module_names.proofs.Readings.{parts_count}
use Rattle.oer_module_names.proofs.names.Names.part.Goals as goal

pub index-requires : goal.index-requires
index-requires c = omega (arith, c.requires, parts_count c.args.self.now, c.args.self.now.parts.ok.0)

pub returns : goal.returns
returns c =
    let within : c.args.«module» < length c.args.self.now.parts.items = omega (arith, c.requires, parts_count c.args.self.now) in
    slice_get_read c.args.self.now.parts.items (length c.args.self.now.parts.items) c.args.«module» c.index.result.now refl within c.index.ensures
