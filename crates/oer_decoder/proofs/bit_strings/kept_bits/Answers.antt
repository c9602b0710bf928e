use Rattle.std.proofs.Common.{◌≡◌, ◌-◌, ◌∙◌, ap, sym, arith, List, ℕ, Bool, take, length, length-take, refl, Result, Ok, Err, Vec, Global}
use Rattle.std.specs.Prelude.{IfOk}
use Rattle.std.specs.declared.alloc.AllocError.{AllocError}
use Rattle.oer_model.specs.Bits.{bits_of}
use Rattle.oer_decoder.specs.BitReading.{used}
use Rattle.oer_decoder.proofs.BitLists.{kept_few, kept_many}
use Rattle.oer_decoder.proofs.bit_strings.kept_bits.Goals as goal

pub slice_bounds-bits_of-end : goal.slice_bounds-bits_of-end
slice_bounds-bits_of-end c = omega (arith, length-take 8192 c.args.octets.now)

by_many : (r : Result (Vec Bool Global) AllocError) (d : List ℕ) (u : ℕ) → take 65536 (used u d) ≡ bits_of (take 8192 d) → IfOk r (λ v. v.items ≡ bits_of (take 8192 d)) → IfOk r (λ v. v.items ≡ take 65536 (used u d))
by_many (Ok v) d u e h = h ∙ sym e
by_many (Err e') d u e h = tt

pub returns-then-octets-gt-PLACES_OCTETS : goal.returns-then-octets-gt-PLACES_OCTETS
returns-then-octets-gt-PLACES_OCTETS c = by_many c.bits_of.result c.args.octets.now c.args.unused (kept_many 8192 65536 c.args.unused c.args.octets.now refl c.requires c.if-octets-gt-PLACES_OCTETS.true) c.bits_of.ensures

pub returns : goal.returns
returns c =
    let all : c.in_ok-bits.bits.items ≡ bits_of c.args.octets.now = c.in_ok-bits.ensures in
    let count : c.saturating_sub-count.result ≡ length (bits_of c.args.octets.now) - c.args.unused = omega (arith, c.in_ok-bits.bits.ok.0, ap length all) in
    c.truncate.ensures.items
    ∙ ap (λ (s : List Bool). take c.saturating_sub-count.result s) all
    ∙ ap (λ (n : ℕ). take n (bits_of c.args.octets.now)) count
    ∙ sym (kept_few 8192 65536 c.args.unused c.args.octets.now refl c.if-octets-gt-PLACES_OCTETS.false)
