use Rattle.std.proofs.Common.{inr, arith, ◌+◌, ◌++◌, ◌∷◌, [], length, map}
use Rattle.oer_units.specs.Least.{length_octets}
use Rattle.oer_model.specs.Bits.{padded}
use Rattle.oer_model.specs.Canonical.{unknown_marks}
use Rattle.oer_values.specs.ShapeView.{additions_of}
use Rattle.oer_values.specs.ValueView.{places_of, unknown_of}
use Rattle.oer_leaves.specs.Parts.{known_bits}
use Rattle.oer_leaves.proofs.Numbers.{bitmap_counted, bitmap_long}
use Rattle.oer_leaves.proofs.Places.{bits_count}
use Rattle.oer_leaves.proofs.Steps.{passed, wrote_then}
use Rattle.oer_leaves.proofs.presence.put_bitmap.Goals as goal

pub returns-in_default : goal.returns-in_default
returns-in_default g c =
    let us = unknown_marks (length c.args.additions.now) (map unknown_of c.args.unknown.now) in
    let n = bits_count c.args.additions.now c.args.added.now us c.min-known.result c.count_unknown_bits.result c.min-known.ensures c.count_unknown_bits.ensures.value in
    inr (omega (arith, bitmap_long (known_bits (additions_of c.args.additions.now) (places_of c.args.added.now) ++ us) _ n c.in_default.ensures))

pub returns-in_err-done : goal.returns-in_err-done
returns-in_err-done g c =
    let us = unknown_marks (length c.args.additions.now) (map unknown_of c.args.unknown.now) in
    let bits = known_bits (additions_of c.args.additions.now) (places_of c.args.added.now) ++ us in
    let n = bits_count c.args.additions.now c.args.added.now us c.min-known.result c.count_unknown_bits.result c.min-known.ensures c.count_unknown_bits.ensures.value in
    passed c.from_residual.result _ c.args.done (length_octets c.in-Ok.length ++ c.unused_bits.result ∷ []) (padded bits) _ _ _ _ _ (bitmap_counted bits (c.min-known.result + c.count_unknown_bits.result) c.in-Ok.length c.unused_bits.result n (omega (arith, c.in-Ok.ensures)) c.unused_bits.ensures) c.from_residual.ensures.1 c.in_err-done.ensures

pub returns : goal.returns
returns g c =
    let us = unknown_marks (length c.args.additions.now) (map unknown_of c.args.unknown.now) in
    let bits = known_bits (additions_of c.args.additions.now) (places_of c.args.added.now) ++ us in
    let n = bits_count c.args.additions.now c.args.added.now us c.min-known.result c.count_unknown_bits.result c.min-known.ensures c.count_unknown_bits.ensures.value in
    wrote_then c.put_marks.result _ c.in_ok-done.done (length_octets c.in-Ok.length ++ c.unused_bits.result ∷ []) (padded bits) _ _ _ _ _ _ _ (bitmap_counted bits (c.min-known.result + c.count_unknown_bits.result) c.in-Ok.length c.unused_bits.result n (omega (arith, c.in-Ok.ensures)) c.unused_bits.ensures) c.in_ok-done.ensures c.put_marks.ensures
