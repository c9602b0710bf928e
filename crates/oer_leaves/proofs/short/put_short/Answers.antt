use Rattle.oer_leaves.proofs.ShortNumbers.{headed_eight}
use Rattle.oer_leaves.proofs.Steps.{same_wrote}
use Rattle.oer_leaves.proofs.short.put_short.Goals as goal

pub returns : goal.returns
returns g c = same_wrote c.put_slice.result _ _ _ _ _ _ _ (headed_eight c.count_octets-count.result c.args.n c.to_be_bytes.result c.copy_from_slice.new.self c.count_octets-count.ensures.most c.count_octets-count.ensures.value c.to_be_bytes.ensures c.copy_from_slice.ensures.after) c.put_slice.ensures
