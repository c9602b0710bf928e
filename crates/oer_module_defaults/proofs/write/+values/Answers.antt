use Rattle.std.proofs.Common.{◌-◌, arith}
use Rattle.std.proofs.lemmas.Result.{err_from_is_err_and}
use Rattle.oer_module_names.specs.Views.{modules_in}
use Rattle.oer_module_terms.specs.Trees.{value_of}
use Rattle.oer_module_text.specs.Room.{room_of}
use Rattle.oer_module_values.specs.Views.{type_in}
use Rattle.oer_module_defaults.proofs.Levels.{value_once}
use Rattle.oer_module_defaults.proofs.Rounds.{filled_err}
use Rattle.oer_module_defaults.specs.Defaults.{value_at}
use Rattle.oer_module_defaults.specs.Filled.{filled_of}
use Rattle.oer_module_defaults.proofs.write.+values.Goals as goal

pub write_value-returns : goal.write_value-returns
write_value-returns t c =
    rw (value_once (modules_in c.args.scope.names.now) c.args.levels (c.args.levels - 1) (type_in c.args.of) c.args.«module» c.value_place-place.result
    (value_of c.args.value.now) (room_of c.args.room.now) (omega arith) c.value_place-place.ensures) c.write_governed.ensures

pub write_slots-returns-in_err-write_slot : goal.write_slots-returns-in_err-write_slot
write_slots-returns-in_err-write_slot t c =
    let l = c.loop-slot in
    let p = err_from_is_err_and c.from_residual.result c.from_residual.ensures.1 in
    rw (p.1, p.2) (λ not_memory. filled_err (value_at (modules_in c.args.scope.names.now) c.args.levels) c.args.«module» c.args.slots.now l.slot-index
    (filled_of l.filled) (room_of l.room) _ l.invariant c.slot-item.result c.loop-slot-test.true c.slot-item.is (c.in_err-write_slot.ensures not_memory))
