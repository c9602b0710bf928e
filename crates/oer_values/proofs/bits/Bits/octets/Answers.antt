use Rattle.std.proofs.Common.{ap, ◌∙◌}
use Rattle.oer_model.specs.Bits.{padded}
use Rattle.oer_model.proofs.bits.Packing.{padded_are}
use Rattle.oer_values.proofs.bits.Bits.octets.Goals as goal

pub returns : goal.returns
returns c =
    let o = rw c.deref.ensures.value at c.as_octets.ensures.below in
    c.as_octets.ensures.same ∙ c.deref.ensures.value ∙ padded_are c.self.inside.octets.items c.self.inside.count o c.self.invariant.0 c.self.invariant.1 ∙ ap padded c.self.view_is
