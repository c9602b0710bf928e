use Rattle.std.proofs.Common.{◌∙◌, ◌*◌, ◌+◌, ◌≤◌, arith, get_or, refl}
use Rattle.oer_units.proofs.ReadNumbers.{eight_small, unsigned_at, unsigned_end, unsigned_room}
use Rattle.oer_units.proofs.reading.unsigned_of.Goals as goal

pub loop-octet-init : goal.loop-octet-init
loop-octet-init c = record { room = omega arith; same = refl }

pub overflow_mul-number : goal.overflow_mul-number
overflow_mul-number c =
    let small = eight_small c.loop-octet.number c.loop-octet.octet-index (omega arith) c.loop-octet.invariant.room in
    omega arith

pub overflow_add-number : goal.overflow_add-number
overflow_add-number c =
    let small = eight_small c.loop-octet.number c.loop-octet.octet-index (omega arith) c.loop-octet.invariant.room in
    omega arith

pub loop-octet-preserved : goal.loop-octet-preserved
loop-octet-preserved c =
    let here = c.loop-octet in
    let octet = get_or c.args.octets.now here.octet-index 0 in
    let small : octet ≤ 255 = omega arith in
    record {
      room = unsigned_room here.number octet (here.number * 256 + octet) here.octet-index here.invariant.room small (omega arith);
      same = unsigned_at here.number _ c.args.octets.now here.octet-index _ c.loop-octet-test.true refl (omega arith) ∙ here.invariant.same;
    }

pub returns : goal.returns
returns c = unsigned_end c.loop-octet.number c.args.octets.now c.loop-octet.octet-index c.loop-octet-test.false c.loop-octet.invariant.same
