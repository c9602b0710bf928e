use Rattle.std.proofs.Common.{◌∙◌, ap, length, take}
use Rattle.oer_model.specs.Bits.{bits_of}
use Rattle.oer_random.specs.Leaves.{octets_drawn}
use Rattle.oer_random.proofs.Strings.{octets_counted}
use Rattle.oer_random.proofs.leaf.bits.Goals as goal

pub unreachable-requires : goal.unreachable-requires
unreachable-requires c =
    c.in-Err.ensures.0 (ap length c.in_ok-octets.ensures ∙ octets_counted c.octets_needed.result c.args.seed ∙ c.octets_needed.ensures.value)

pub returns : goal.returns
returns c =
    let n = c.args.count in
    c.in-Ok.ensures.1 ∙ ap (λ w. take n (bits_of w)) (c.in_ok-octets.ensures ∙ ap (λ k. octets_drawn k c.args.seed) c.octets_needed.ensures.value)
