use Rattle.oer_decoder.proofs.Packed.{bitmap_grows}
use Rattle.oer_decoder.proofs.packing.append_bitmap.Goals as goal

pub returns : goal.returns
returns c = bitmap_grows c.args.bits.now c.octets_needed.result c.spare_bits.result _ _ _ _ c.append_bits.result c.octets_needed.ensures.value c.spare_bits.ensures.value
    c.in_ok-append_length.ensures c.in_ok-append.ensures c.append_bits.ensures
