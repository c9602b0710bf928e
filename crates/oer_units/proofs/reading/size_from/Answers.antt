use Rattle.std.proofs.Common.{arith, refl, ◌-◌, ◌+◌, ◌≡◌, ◌*◌, ◌≤◌, ◌^◌, ℕ, subst}
use Rattle.oer_units.specs.ReadingSteps.{size_after}
use Rattle.oer_units.proofs.ReadExits.{at_exit}
use Rattle.oer_units.proofs.ReadGroups.{none_as, next_refused, all_read}
use Rattle.oer_units.proofs.ReadNumbers.{size_more, size_room}
use Rattle.oer_units.proofs.ReadSteps.{Keeps-refl, Keeps-then}
use Rattle.oer_units.proofs.reading.size_from.Goals as goal

pub loop-step-init : goal.loop-step-init
loop-step-init g c = record { room = omega arith; bound = Keeps-refl _; size = omega arith; leads = none_as c.args.count (size_after c.args.is_below c.args.value) _ }

pub next-requires : goal.next-requires
next-requires g c = let room = c.loop-step.invariant.room in omega arith

pub returns-in_err-octet-clause-reads : goal.returns-in_err-octet-clause-reads
returns-in_err-octet-clause-reads g c =
    rw (at_exit c.from_residual.result c.in_err-octet.field-0.0 c.from_residual.ensures.1)
    (next_refused (c.args.count - c.loop-step._step) (c.args.count - (c.loop-step._step + 1)) _ _ _ _ _ _ (omega arith) c.loop-step.invariant.room c.loop-step.invariant.leads c.in_err-octet.ensures.reads)

pub loop-step-preserved : goal.loop-step-preserved
loop-step-preserved g c =
    let one = c.in_ok-octet.ensures.one in
    let room = c.loop-step.invariant.room in
    let kept = c.in_ok-octet.ensures.bound in
    let digit_is = c.digit-more.ensures in
    let product = c.saturating_mul.ensures in
    let sum = c.saturating_add-size.ensures in
    record {
      room = omega arith;
      bound = Keeps-then _ _ _ c.loop-step.invariant.bound kept;
      size = size_room (c.args.value + 1) c.loop-step.size c.digit-more.result _ c.loop-step._step c.loop-step.invariant.size (omega arith) (omega arith);
      leads = size_more c.args.is_below (c.args.count - c.loop-step._step) (c.args.count - (c.loop-step._step + 1)) _ _ _ c.in_ok-octet.octet c.loop-step.size _ _ (omega arith) room (omega arith) c.loop-step.invariant.leads c.in_ok-octet.ensures.reads;
    }

pub returns-clause-size : goal.returns-clause-size
returns-clause-size g c =
    let done : c.loop-step._step ≡ c.args.count = omega arith in
    let P = λ (k : ℕ). c.loop-step.size + 1 ≤ (c.args.value + 1) * 256 ^ k in
    subst P done c.loop-step.invariant.size

pub returns-clause-reads : goal.returns-clause-reads
returns-clause-reads g c = all_read (c.args.count - c.loop-step._step) _ _ _ _ _ (omega arith) refl c.loop-step.invariant.leads
