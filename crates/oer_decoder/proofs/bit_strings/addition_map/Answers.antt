use Rattle.std.proofs.Common.{refl, sym, ap, length, length-take, arith, ◌-◌, Err}
use Rattle.oer_units.specs.Reader.{bind, group}
use Rattle.oer_units.proofs.ReadSteps.{Reads-memory_after, Reads-stop}
use Rattle.oer_decoder.specs.BitReading.{kept_map, used}
use Rattle.oer_decoder.proofs.BitReads.{any_read, map_stop, map_unused, map_then, map_unknown, map_got}
use Rattle.oer_decoder.proofs.Exits.{at_fault, at_stop, here}
use Rattle.oer_decoder.proofs.bit_strings.addition_map.Goals as goal

pub returns-in_err-length-clause-reads : goal.returns-in_err-length-clause-reads
returns-in_err-length-clause-reads g c = rw (at_fault c.from_residual.result c.in_err-length.field-0.0 c.from_residual.ensures.1) (here _ _ _ _ (map_stop _ _ _ c.in_err-length.ensures.reads))

pub returns-in_err-unused-clause-reads : goal.returns-in_err-unused-clause-reads
returns-in_err-unused-clause-reads g c = rw (at_stop c.from_residual-in_err-unused.result c.in_err-unused.field-0.0 c.from_residual-in_err-unused.ensures.1) (map_unused _ _ _ c.in_ok-length.length _ c.in_ok-length.ensures.reads (any_read c.any.result _ _ _ _ c.any.ensures.low c.any.ensures.high c.in_err-unused.ensures.reads))

pub returns-in_err-octets-clause-reads : goal.returns-in_err-octets-clause-reads
returns-in_err-octets-clause-reads g c =
    rw (at_fault c.from_residual-in_err-octets.result c.in_err-octets.field-0.0 c.from_residual-in_err-octets.ensures.1)
    (here _ _ _ _ (map_then _ _ _ _ c.in_ok-length.length c.in_ok-unused.unused (Err c.in_err-octets.field-0.0) c.in_ok-length.ensures.reads (any_read c.any.result _ _ _ _ c.any.ensures.low c.any.ensures.high c.in_ok-unused.ensures.reads) (Reads-stop _ (kept_map c.in_ok-unused.unused) _ _ _ c.in_err-octets.ensures.reads)))

pub returns-then-not-is_clear_past-clause-reads : goal.returns-then-not-is_clear_past-clause-reads
returns-then-not-is_clear_past-clause-reads g c =
    map_unknown _ _ _ _ c.in_ok-length.length c.in_ok-unused.unused c.in_ok-octets.octets.items _ c.in_ok-length.ensures.reads (any_read c.any.result _ _ _ _ c.any.ensures.low c.any.ensures.high c.in_ok-unused.ensures.reads) c.in_ok-octets.ensures.reads
    (sym (rw c.deref.ensures.value at c.if-not-is_clear_past.ensures)) refl refl

pub returns-in_default-clause-reads : goal.returns-in_default-clause-reads
returns-in_default-clause-reads g c =
    map_then _ _ _ _ c.in_ok-length.length c.in_ok-unused.unused (Err _) c.in_ok-length.ensures.reads (any_read c.any.result _ _ _ _ c.any.ensures.low c.any.ensures.high c.in_ok-unused.ensures.reads)
    (Reads-memory_after (group (c.in_ok-length.length - 1)) (bind (group (c.in_ok-length.length - 1)) (kept_map c.in_ok-unused.unused)) _ _ c.in_ok-octets.octets.items _ c.in_ok-octets.ensures.reads refl refl)

pub returns-clause-reads : goal.returns-clause-reads
returns-clause-reads g c =
    map_got _ _ _ _ c.in_ok-length.length c.in_ok-unused.unused c.in_ok-octets.octets.items _ c.in_ok-length.ensures.reads (any_read c.any.result _ _ _ _ c.any.ensures.low c.any.ensures.high c.in_ok-unused.ensures.reads) c.in_ok-octets.ensures.reads
    (sym (rw c.deref.ensures.value at c.if-not-is_clear_past.ensures))
    (rw c.deref-2.ensures.value at c.in-Ok.ensures)

pub returns-clause-few : goal.returns-clause-few
returns-clause-few g c = omega (arith, ap length c.in-Ok.ensures, length-take 65536 (used c.in_ok-unused.unused c.deref-2.result.now))
