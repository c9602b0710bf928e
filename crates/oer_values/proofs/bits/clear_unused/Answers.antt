use Rattle.std.proofs.Common.{◌≡◌, ◌-◌, suc, length, arith}
use Rattle.oer_model.proofs.bits.Packing.{nothing_unused, some_needed, cleared_last}
use Rattle.oer_values.proofs.bits.clear_unused.Goals as goal

pub returns-then-count-eq0-clause-zeros : goal.returns-then-count-eq0-clause-zeros
returns-then-count-eq0-clause-zeros c = nothing_unused c.args.octets.now c.args.count c.requires c.if-count-eq0.true

pub overflow_sub-last : goal.overflow_sub-last
overflow_sub-last c = let s = some_needed c.args.count c.if-count-eq0.false in omega (arith, s, c.requires)

pub bounds-octets-last : goal.bounds-octets-last
bounds-octets-last c = let s = some_needed c.args.count c.if-count-eq0.false in omega (arith, s, c.requires)

pub bounds-octets-last-2 : goal.bounds-octets-last-2
bounds-octets-last-2 c = let s = some_needed c.args.count c.if-count-eq0.false in omega (arith, s, c.requires)

pub returns-clause-kept : goal.returns-clause-kept
returns-clause-kept c =
    let s = some_needed c.args.count c.if-count-eq0.false in
    let e : length c.args.octets.now ≡ suc (length c.args.octets.now - 1) = omega (arith, s, c.requires) in
    (cleared_last (length c.args.octets.now - 1) c.args.count c.args.octets.now c.without_last_bits.result e c.requires c.if-count-eq0.false c.without_last_bits.ensures).0

pub returns-clause-zeros : goal.returns-clause-zeros
returns-clause-zeros c =
    let s = some_needed c.args.count c.if-count-eq0.false in
    let e : length c.args.octets.now ≡ suc (length c.args.octets.now - 1) = omega (arith, s, c.requires) in
    (cleared_last (length c.args.octets.now - 1) c.args.count c.args.octets.now c.without_last_bits.result e c.requires c.if-count-eq0.false c.without_last_bits.ensures).1
