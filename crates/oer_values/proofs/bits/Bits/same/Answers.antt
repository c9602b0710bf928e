use Rattle.std.proofs.Common.{◌∙◌}
use Rattle.oer_model.proofs.bits.Packing.{same_bits, other_count}
use Rattle.oer_values.proofs.bits.Bits.same.Goals as goal

pub returns-then-self-other : goal.returns-then-self-other
returns-then-self-other c =
    rw (c.self.view_is, c.other.view_is) at (other_count c.self.inside.octets.items c.other.inside.octets.items c.self.inside.count c.other.inside.count c.self.invariant.0 c.other.invariant.0 c.if-self-other.true)

pub returns : goal.returns
returns c =
    let o = rw c.deref.ensures.value at c.as_octets.ensures.below in
    let p = rw c.deref-2.ensures.value at c.as_octets-2.ensures.below in
    let i = rw (c.as_octets.ensures.same ∙ c.deref.ensures.value, c.as_octets-2.ensures.same ∙ c.deref-2.ensures.value) at c.same_octets.ensures in
    rw (c.self.view_is, c.other.view_is) at (same_bits c.self.inside.octets.items c.other.inside.octets.items c.self.inside.count c.other.inside.count c.same_octets.result o p c.self.invariant.0 c.other.invariant.0 c.self.invariant.1 c.other.invariant.1 c.if-self-other.false i)
