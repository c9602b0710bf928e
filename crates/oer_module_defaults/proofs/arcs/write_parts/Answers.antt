use Rattle.std.proofs.Common.{refl, ◌∙◌, arith}
use Rattle.oer_module_defaults.proofs.Loops.{no_two, two}
use Rattle.oer_module_text.specs.Room.{room_of}
use Rattle.oer_module_defaults.proofs.arcs.write_parts.Goals as goal

pub returns-then-parts-lt2 : goal.returns-then-parts-lt2
returns-then-parts-lt2 c =
    λ not_memory. no_two c.args.place c.args.parts.now (room_of c.args.room.now) (omega arith)
    ∙ rw (c.none_such.ensures.place, c.none_such.ensures.why) refl

pub returns : goal.returns
returns c = rw (two c.args.place c.args.parts.now (room_of c.args.room.now) (omega arith)) c.write_braced.ensures
