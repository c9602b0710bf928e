use Rattle.std.proofs.lemmas.Int.{to_z-of_z}
use Rattle.std.specs.Int.{w128}
use Rattle.oer_module_defaults.proofs.Shorts.{short_some, short_none}
use Rattle.oer_module_defaults.proofs.bits.short.Goals as goal

pub returns-in-Ok : goal.returns-in-Ok
returns-in-Ok c =
    let found = rw (to_z-of_z w128 c.args.number c.ranges.number) at c.in-Ok.ensures in
    short_some c.args.number _ found.0 found.1

pub returns-in-Err : goal.returns-in-Err
returns-in-Err c = short_none c.args.number (rw (to_z-of_z w128 c.args.number c.ranges.number) at c.in-Err.ensures)
