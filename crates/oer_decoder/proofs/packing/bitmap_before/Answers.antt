use Rattle.oer_decoder.specs.Octets.{gathered}
use Rattle.oer_decoder.proofs.Recoded.{moved}
use Rattle.oer_model.specs.Canonical.{bitmap_octets}
use Rattle.oer_decoder.proofs.packing.bitmap_before.Goals as goal

pub returns : goal.returns
returns c = moved c.args.at c.len-from.result (gathered c.args.out.now) (bitmap_octets c.args.bits.now) (gathered c.append_bitmap.new.out)
    (gathered c.put_before.new.self) c.requires c.len-from.ensures c.in_ok-append_bitmap.ensures c.put_before.ensures
