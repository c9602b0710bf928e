use Rattle.std.proofs.Common.{◌≡◌, ◌∙◌, ◌%◌, ◌^◌, ap, of_z}
use Rattle.std.specs.Int.{w64, w128, to_be_bytes}
use Rattle.oer_units.proofs.Lowest.{held_128}
use Rattle.oer_leaves.proofs.Steps.{same_wrote}
use Rattle.oer_leaves.proofs.Numbers.{last_octets}
use Rattle.oer_leaves.proofs.leaf.put_low.Goals as goal

pub returns : goal.returns
returns g c =
    let bits : c.cast_unsigned.result ≡ of_z w128 c.args.value = c.cast_unsigned.ensures ∙ ap (λ x. of_z w128 x) (held_128 c.args.value c.ranges.value) in
    let bytes = c.to_be_bytes.ensures ∙ ap (λ x. to_be_bytes w64 (x % 2 ^ 64)) bits in
    same_wrote c.put_slice.result _ _ _ _ _ _ _ (last_octets (of_z w128 c.args.value) c.args.count c.to_be_bytes.result c.requires bytes) c.put_slice.ensures
