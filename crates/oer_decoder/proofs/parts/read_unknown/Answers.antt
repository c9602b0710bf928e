use Rattle.std.proofs.Common.{arith, refl}
use Rattle.std.proofs.lemmas.Grind.{common_steps}
use Rattle.oer_decoder.proofs.Extensions.{unknown_end, unknown_memory, unknown_next, unknown_stop}
use Rattle.oer_decoder.proofs.Exits.{at_stop}
use Rattle.oer_decoder.proofs.parts.read_unknown.Goals as goal

pub returns-in_err-octets : goal.returns-in_err-octets
returns-in_err-octets g c =
    rw (at_stop c.from_residual.result c.in_err-octets.field-0.0 c.from_residual.ensures.1)
    (unknown_stop c.args.bits.now c.loop-place.place _ _ _ _ _ _ c.loop-place-test.true c.if-not-bits-place.false c.loop-place.invariant c.in_err-octets.ensures)

pub returns-then-is_err : goal.returns-then-is_err
returns-then-is_err g c =
    unknown_memory c.args.bits.now c.loop-place.place c.in_ok-octets.octets.items _ _ _ _ _ _ refl refl c.loop-place.invariant c.in_ok-octets.ensures

pub loop-place-preserved : goal.loop-place-preserved
loop-place-preserved g c =
    unknown_next c.args.bits.now c.loop-place.place c.loop-place.unknown.items _ (record { place = c.loop-place.place; octets = c.in_ok-octets.octets }) _ _ _ _ c.loop-place-test.true c.if-not-bits-place.false refl (grind (arith, common_steps)) c.loop-place.invariant c.in_ok-octets.ensures

pub returns : goal.returns
returns g c = unknown_end c.args.bits.now c.loop-place.place c.loop-place.unknown.items _ _ _ c.loop-place-test.false c.loop-place.invariant
