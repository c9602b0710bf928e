use Rattle.std.proofs.Common.{◌≡◌, ◌≤◌, ◌<◌, ◌+◌, arith, sym, ap, ◌∙◌, ◌-◌, vec_len, take, append-nil}
use Rattle.oer_units.proofs.ReadExits.{at_exit}
use Rattle.oer_units.proofs.ReadGroups.{nothing_yet, part_refused, chunk_more, on_ok, memory_out, all_read, group_refused}
use Rattle.oer_units.proofs.ReadSteps.{Keeps-refl, Keeps-then}
use Rattle.oer_units.proofs.reading.octets.Goals as goal

pub returns-in_err-allow-clause-reads : goal.returns-in_err-allow-clause-reads
returns-in_err-allow-clause-reads g c = rw (at_exit c.from_residual.result c.in_err-allow.field-0.0 c.from_residual.ensures.1) (group_refused c.args.n _ _ c.in_err-allow.ensures.reads)

pub loop-octets-init : goal.loop-octets-init
loop-octets-init g c =
    let room = c.in_ok-allow.ensures.room in
    let none = c.new-octets.ensures.len in
    record { most = omega arith; room = omega arith; bound = Keeps-refl _; leads = nothing_yet c.args.n (c.args.n - vec_len c.new-octets.result) _ _ room (omega arith) c.new-octets.ensures.items }

pub returns-then-is_err-clause-reads : goal.returns-then-is_err-clause-reads
returns-then-is_err-clause-reads g c = memory_out (c.args.n - vec_len c.loop-octets.octets) _ _ _ _ _ c.fault.ensures.why c.fault.ensures.taken c.loop-octets.invariant.leads

pub returns-in_err-fill_from-clause-reads : goal.returns-in_err-fill_from-clause-reads
returns-in_err-fill_from-clause-reads g c =
    let place = c.len-at.result in
    let was = c.loop-octets.octets in
    let room = c.loop-octets.invariant.room in
    let here : place ≡ vec_len was = c.len-at.ensures in
    let ok = sym c.is_err.ensures.value ∙ c.if-is_err.false in
    let more : vec_len was < vec_len c.grow.new.octets = on_ok c.grow.result _ ok c.grow.ensures.more in
    let most : vec_len c.grow.new.octets ≤ vec_len was + (c.args.n - place) = on_ok c.grow.result _ ok c.grow.ensures.most in
    rw (at_exit c.from_residual-in_err-fill_from.result c.in_err-fill_from.field-0.0 c.from_residual-in_err-fill_from.ensures.1)
    (part_refused (vec_len c.grow.new.octets - place) (c.args.n - vec_len was) _ _ _ _ _ _ (omega arith) room c.loop-octets.invariant.leads c.in_err-fill_from.ensures.reads)

pub loop-octets-preserved : goal.loop-octets-preserved
loop-octets-preserved g c =
    let place = c.len-at.result in
    let was = c.loop-octets.octets in
    let room = c.loop-octets.invariant.room in
    let here : place ≡ vec_len was = c.len-at.ensures in
    let ok = sym c.is_err.ensures.value ∙ c.if-is_err.false in
    let more : vec_len was < vec_len c.grow.new.octets = on_ok c.grow.result _ ok c.grow.ensures.more in
    let most : vec_len c.grow.new.octets ≤ vec_len was + (c.args.n - place) = on_ok c.grow.result _ ok c.grow.ensures.most in
    let len = c.in_ok-fill_from.ensures.len in
    let count = c.in_ok-fill_from.ensures.count in
    let front : take place c.grow.new.octets.items ≡ was.items = ap (λ k. take k c.grow.new.octets.items) here ∙ on_ok c.grow.result _ ok c.grow.ensures.front in
    record {
      most = omega arith;
      room = omega arith;
      bound = Keeps-then _ _ _ c.loop-octets.invariant.bound c.in_ok-fill_from.ensures.bound;
      leads = chunk_more (c.args.n - vec_len was) (c.args.n - vec_len c.fill_from.new.octets) (vec_len c.grow.new.octets - place) place _ _ _ was.items c.grow.new.octets.items c.fill_from.new.octets.items c.args.n front c.in_ok-fill_from.ensures.front (omega arith) room c.loop-octets.invariant.leads c.in_ok-fill_from.ensures.reads;
    }

pub returns-clause-reads : goal.returns-clause-reads
returns-clause-reads g c = all_read (c.args.n - vec_len c.loop-octets.octets) _ _ _ _ _ (omega arith) (append-nil _) c.loop-octets.invariant.leads
