use Rattle.std.proofs.Common.{◌≡◌, ◌-◌, ◌∙◌, sym, ap, arith, ℕ, take, length}
use Rattle.oer_model.specs.Bits.{bits_of, octets_for}
use Rattle.oer_model.proofs.reading.Parts.{length-bits_of}
use Rattle.oer_decoder.proofs.BitReads.{counted_stop, counted_unused, counted_short, counted_got, octets_of_used}
use Rattle.oer_decoder.proofs.Exits.{at_fault, at_stop, here}
use Rattle.oer_decoder.proofs.bit_strings.counted_bits.Goals as goal

pub returns-in_err-length : goal.returns-in_err-length
returns-in_err-length g c = rw (at_fault c.from_residual.result c.in_err-length.field-0.0 c.from_residual.ensures.1) (here _ _ _ _ (counted_stop c.args.size _ _ _ c.in_err-length.ensures.reads))

pub returns-in_err-unused : goal.returns-in_err-unused
returns-in_err-unused g c = rw (at_stop c.from_residual-in_err-unused.result c.in_err-unused.field-0.0 c.from_residual-in_err-unused.ensures.1) (counted_unused c.args.size _ _ _ c.in_ok-length.length _ c.in_ok-length.ensures.reads c.in_err-unused.ensures.reads)

pub returns-in_err-octets : goal.returns-in_err-octets
returns-in_err-octets g c =
    rw (at_fault c.from_residual-in_err-octets.result c.in_err-octets.field-0.0 c.from_residual-in_err-octets.ensures.1)
    (here _ _ _ _ (counted_short c.args.size _ _ _ _ c.in_ok-length.length c.in_ok-unused.unused _ c.in_ok-length.ensures.reads c.in_ok-unused.ensures.reads c.in_err-octets.ensures.reads))

pub packed-requires : goal.packed-requires
packed-requires g c =
    let many : length c.in_ok-octets.octets.items ≡ c.in_ok-length.length - 1 = omega (arith, c.in_ok-octets.octets.ok.0, c.in_ok-octets.ensures.count) in
    let room = c.in_ok-unused.ensures.room in
    many ∙ octets_of_used c.in_ok-length.length c.in_ok-unused.unused room.0 room.1 room.2 ∙ ap octets_for (sym c.bits_used.ensures)

pub returns : goal.returns
returns g c =
    let d = c.in_ok-octets.octets.items in
    let many : length d ≡ c.in_ok-length.length - 1 = omega (arith, c.in_ok-octets.octets.ok.0, c.in_ok-octets.ensures.count) in
    let all : c.bits_used.result ≡ length (bits_of d) - c.in_ok-unused.unused = omega (arith, c.bits_used.ensures, length-bits_of d) in
    counted_got c.args.size _ _ _ _ c.in_ok-length.length c.in_ok-unused.unused d _ c.in_ok-length.ensures.reads c.in_ok-unused.ensures.reads c.in_ok-octets.ensures.reads
    (c.packed.ensures ∙ ap (λ (n : ℕ). take n (bits_of d)) all)
