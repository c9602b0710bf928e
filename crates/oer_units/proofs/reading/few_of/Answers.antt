use Rattle.std.proofs.Common.{◌≡◌, ◌+◌, ◌*◌, ◌≤◌, ◌^◌, ◌∙◌, ℕ, arith, refl, subst, length}
use Rattle.oer_units.proofs.ReadNumbers.{few_small, size_at, size_room, size_end}
use Rattle.oer_units.proofs.reading.few_of.Goals as goal

pub loop-octet-init : goal.loop-octet-init
loop-octet-init c = record { room = omega arith; same = refl }

pub returns-clause-value : goal.returns-clause-value
returns-clause-value c = size_end c.args.is_below c.loop-octet.size c.args.value c.args.octets.now c.loop-octet.octet-index c.loop-octet-test.false c.loop-octet.invariant.same

pub returns-clause-room : goal.returns-clause-room
returns-clause-room c =
    let test = c.loop-octet-test.false in
    let end = c.loop-octet.auto.octet-index-end in
    let done : c.loop-octet.octet-index ≡ length c.args.octets.now = omega arith in
    let P = λ (k : ℕ). c.loop-octet.size + 1 ≤ (c.args.value + 1) * 256 ^ k in
    subst P done c.loop-octet.invariant.room

pub overflow_mul-size : goal.overflow_mul-size
overflow_mul-size c =
    let small = few_small c.args.value c.loop-octet.size c.loop-octet.octet-index c.requires.value (omega arith) c.loop-octet.invariant.room in
    omega arith

pub overflow_add-size : goal.overflow_add-size
overflow_add-size c =
    let small = few_small c.args.value c.loop-octet.size c.loop-octet.octet-index c.requires.value (omega arith) c.loop-octet.invariant.room in
    let fits = c.digit.type_inv in
    omega arith

pub loop-octet-preserved : goal.loop-octet-preserved
loop-octet-preserved c =
    let small = few_small c.args.value c.loop-octet.size c.loop-octet.octet-index c.requires.value (omega arith) c.loop-octet.invariant.room in
    let fits = c.digit.type_inv in
    let digit_is = c.digit.ensures in
    record {
      room = size_room (c.args.value + 1) c.loop-octet.size c.digit.result _ c.loop-octet.octet-index c.loop-octet.invariant.room (omega arith) (omega arith);
      same = size_at c.args.is_below c.loop-octet.size _ c.args.octets.now c.loop-octet.octet-index _ c.loop-octet-test.true refl (omega arith) ∙ c.loop-octet.invariant.same;
    }
