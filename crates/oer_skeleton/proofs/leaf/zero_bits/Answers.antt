use Rattle.std.proofs.Common.{◌∙◌, ap, take}
use Rattle.std.proofs.Math.ListN.{replicate}
use Rattle.oer_model.specs.Bits.{bits_of}
use Rattle.oer_skeleton.proofs.Zeros.{zero_bits}
use Rattle.oer_skeleton.proofs.leaf.zero_bits.Goals as goal

pub returns : goal.returns
returns c =
    let n = c.args.count in
    c.in-Ok.ensures.1 ∙ ap (λ w. take n (bits_of w)) (c.in_ok-octets.ensures ∙ ap (λ k. replicate k 0) c.octets_needed.ensures.value) ∙ zero_bits n
