use Rattle.std.proofs.Common.{length, ap, sym, ◌∙◌, arith}
use Rattle.std.specs.List.{slice_get}
use Rattle.oer_model.specs.Bits.{bits_of}
use Rattle.oer_model.proofs.bits.Packing.{room_for, taken_bit}
use Rattle.oer_values.proofs.bits.Bits.get.Goals as goal

pub bit_at-requires : goal.bit_at-requires
bit_at-requires c =
    let r = room_for c.self.inside.octets.items c.self.inside.count c.self.invariant.0 in
    let e = ap length c.deref.ensures.value in
    omega (arith, r, e)

pub returns : goal.returns
returns c =
    rw (c.deref.ensures.value) at c.bit_at.ensures ∙ sym (taken_bit (bits_of c.self.inside.octets.items) c.self.inside.count c.args.index c.if-index-self.false) ∙ ap (λ s. slice_get s c.args.index) c.self.view_is
