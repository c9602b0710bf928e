use Rattle.std.proofs.Common.{◌∙◌, ap, length}
use Rattle.oer_units.specs.Least.{signed_octets}
use Rattle.oer_units.proofs.Lowest.{length-counted, held_128}
use Rattle.oer_units.proofs.writing.signed_counted_len.Goals as goal

pub returns : goal.returns
returns c = length-counted (signed_octets c.args.value) c.signed_needed.result c.signed_needed.ensures.most (c.signed_needed.ensures.value ∙ ap (λ x. length (signed_octets x)) (held_128 c.args.value c.ranges.value))
