use Rattle.std.proofs.Common.{◌≡◌, ℕ, arith, ◌+◌, ◌-◌, ◌*◌, ◌%◌, suc, ap, refl}
use Rattle.oer_units.proofs.ReadExits.{at_exit}
use Rattle.oer_units.proofs.ReadSteps.{Keeps-refl, Keeps-then}
use Rattle.oer_units.proofs.ReadDigits.{digits_start, digits_stop, digits_large, digits_end, digits_go, digits_none}
use Rattle.oer_units.proofs.reading.more_digits.Goals as goal

pub loop-step-init : goal.loop-step-init
loop-step-init g c = record { bound = Keeps-refl _; taken = omega arith; leads = digits_start c.args.why _ c.args.count _ c.args.high _ (omega arith) }

pub returns-in_err-octet-clause-reads : goal.returns-in_err-octet-clause-reads
returns-in_err-octet-clause-reads g c =
    let limit = (c.args.most + 1) * 128 in
    rw (at_exit c.from_residual.result c.in_err-octet.field-0.0 c.from_residual.ensures.1)
    (digits_stop c.args.why limit (c.args.count - c.loop-step._step) (c.args.count - (c.loop-step._step + 1)) c.loop-step.number _ _ _ _ _ _ (omega arith) c.loop-step.invariant.leads c.in_err-octet.ensures.reads)

pub returns-then-number-most-clause-reads : goal.returns-then-number-most-clause-reads
returns-then-number-most-clause-reads g c =
    let limit = (c.args.most + 1) * 128 in
    digits_large c.args.why limit (c.args.count - c.loop-step._step) (c.args.count - (c.loop-step._step + 1)) c.loop-step.number c.in_ok-octet.octet _ _ _ _ _ _ c.requires.why (omega arith) (omega arith) (omega arith) c.fault.ensures.why c.fault.ensures.taken c.loop-step.invariant.leads c.in_ok-octet.ensures.reads

pub returns-then-octet-lt128-clause-reads : goal.returns-then-octet-lt128-clause-reads
returns-then-octet-lt128-clause-reads g c =
    let limit = (c.args.most + 1) * 128 in
    let taken = c.loop-step.invariant.taken in
    let one = c.in_ok-octet.ensures.one in
    let v = c.loop-step.number * 128 + c.in_ok-octet.octet % 128 in
    let total : 1 + c.loop-step._step ≡ c.octet.new.w.bound.taken - c.args.w.now.bound.taken = omega arith in
    digits_end c.args.why limit (c.args.count - c.loop-step._step) (c.args.count - (c.loop-step._step + 1)) c.loop-step.number c.in_ok-octet.octet v _ _ _ _ _ _ (omega arith) c.if-octet-lt128.true refl (omega arith) (ap (λ (n : ℕ). (v, n)) total) c.loop-step.invariant.leads c.in_ok-octet.ensures.reads

one_on : (y : ℕ × ℕ) (n : ℕ) → let a : ℕ × ℕ = (y.0, suc y.1 + n) in let b : ℕ × ℕ = (y.0, y.1 + (n + 1)) in a ≡ b
one_on y n = let e : suc y.1 + n ≡ y.1 + (n + 1) = omega arith in ap (λ (k : ℕ). (y.0, k)) e

pub loop-step-preserved : goal.loop-step-preserved
loop-step-preserved g c =
    let limit = (c.args.most + 1) * 128 in
    let taken = c.loop-step.invariant.taken in
    let one = c.in_ok-octet.ensures.one in
    record {
      bound = Keeps-then _ _ _ c.loop-step.invariant.bound c.in_ok-octet.ensures.bound;
      taken = omega arith;
      leads = digits_go c.args.why limit (c.args.count - c.loop-step._step) (c.args.count - (c.loop-step._step + 1)) c.loop-step.number c.in_ok-octet.octet _ _ _ _ _ _ _ (omega arith) c.if-octet-lt128.false (omega arith) refl (omega arith) (λ y. one_on y c.loop-step._step) c.loop-step.invariant.leads c.in_ok-octet.ensures.reads;
    }

pub returns-clause-reads : goal.returns-clause-reads
returns-clause-reads g c = digits_none c.args.why _ (c.args.count - c.loop-step._step) c.loop-step.number _ _ _ _ _ c.requires.why (omega arith) c.fault-2.ensures.why c.fault-2.ensures.taken c.loop-step.invariant.leads
