use Rattle.std.proofs.Common.{arith, ◌-◌, ◌+◌, ◌≡◌, ◌^◌, ◌/◌, ◌<◌, subst}
use Rattle.oer_units.proofs.WrittenDigits.{fits_step, count_first, count_step, count_end}
use Rattle.oer_units.proofs.writing.subidentifier_len.Goals as goal

pub loop-rest-init : goal.loop-rest-init
loop-rest-init c = record { room = omega arith; fits = omega arith; octets = count_first c.args.value }

pub loop-rest-preserved : goal.loop-rest-preserved
loop-rest-preserved c =
    let inv = c.loop-rest.invariant in
    let less = fits_step (19 - c.loop-rest.count) c.loop-rest.rest inv.fits (omega arith) in
    let one : 19 - c.loop-rest.count - 1 ≡ 19 - (c.loop-rest.count + 1) = omega arith in
    record {
      room = let some = less.0 in omega arith;
      fits = subst (λ k. c.loop-rest.rest / 128 < 128 ^ k) one less.1;
      octets = let step = count_step c.loop-rest.rest (omega arith) in omega (arith, inv.octets);
    }

pub returns-clause-value : goal.returns-clause-value
returns-clause-value c = count_end c.loop-rest.count c.loop-rest.rest c.args.value (omega arith) c.loop-rest.invariant.octets
