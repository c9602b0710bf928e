use Rattle.oer_model.proofs.bits.Packing.{needed_whole, needed_part}
use Rattle.oer_values.proofs.octet_bits.octets_needed.Goals as goal

pub returns-then-count-eq0-clause-value : goal.returns-then-count-eq0-clause-value
returns-then-count-eq0-clause-value c = needed_whole c.args.count c.if-count-eq0.true

pub returns-else-count-eq0-clause-value : goal.returns-else-count-eq0-clause-value
returns-else-count-eq0-clause-value c = needed_part c.args.count c.if-count-eq0.false
