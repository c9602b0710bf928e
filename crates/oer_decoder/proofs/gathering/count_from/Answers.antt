use Rattle.oer_decoder.specs.Octets.{gathered}
use Rattle.oer_decoder.proofs.Recoded.{counted_before}
use Rattle.oer_decoder.proofs.gathering.count_from.Goals as goal

pub returns : goal.returns
returns c = counted_before c.args.at c.len-from.result (gathered c.args.out.now) (gathered c.append_length.new.out)
    (gathered c.put_before.new.self) c.requires c.len-from.ensures c.in_ok-append_length.ensures c.put_before.ensures
