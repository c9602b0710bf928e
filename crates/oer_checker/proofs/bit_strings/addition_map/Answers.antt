use Rattle.oer_checker.proofs.Exits.{at_stop}
use Rattle.oer_checker.proofs.Joins.{else_and, then_and}
use Rattle.std.proofs.Common.{◌∙◌, ◌&&◌, Bool, ap, ap₂, sym}
use Rattle.oer_model.specs.Canonical.{bitmap_octets}
use Rattle.oer_model.specs.Checking.{are_least_bits}
use Rattle.oer_checker.specs.BitView.{bits_in}
use Rattle.oer_checker.proofs.BitSteps.{any_is, map_got, map_out, map_stop}
use Rattle.oer_checker.proofs.bit_strings.addition_map.Goals as goal
use Rattle.oer_checker.proofs.bit_strings.addition_map.Goals.{then-is_shortest, else-is_shortest}

pub returns-in_err-bits-clause-bits : goal.returns-in_err-bits-clause-bits
returns-in_err-bits-clause-bits c = rw (at_stop c.from_residual.result c.in_err-bits.field-0.0 c.from_residual.ensures.1) (map_stop c.args.known c.any.result _ _ _ (any_is c.any.result c.any.ensures.low c.any.ensures.high) c.in_err-bits.ensures.bits)

pub returns-then-not-are_clear_from-clause-bits : goal.returns-then-not-are_clear_from-clause-bits
returns-then-not-are_clear_from-clause-bits c = map_out c.args.known c.any.result _ _ (bits_in c.in_ok-bits.bits) (any_is c.any.result c.any.ensures.low c.any.ensures.high) c.in_ok-bits.ensures.bits (sym c.if-not-are_clear_from.ensures)

pub returns-clause-bits : goal.returns-clause-bits
returns-clause-bits c =
    let s = bits_in c.in_ok-bits.bits in
    let least = c.are_least_bits-is_shortest.ensures s c.in_ok-bits.ensures.whole.1 ∙ ap (are_least_bits bitmap_octets s) c.octets_between.ensures in
    map_got c.args.known c.any.result _ _ s c.if-is_shortest.is_canonical (any_is c.any.result c.any.ensures.low c.any.ensures.high) c.in_ok-bits.ensures.bits (sym c.if-not-are_clear_from.ensures)
    (elim c.if-is_shortest.branch [
      | then-is_shortest w ↦ then_and (sym least ∙ w.if-is_shortest.true) (w.is_canonical-is ∙ w.marks_all-is_canonical.ensures)
      | else-is_shortest w ↦ else_and _ (sym least ∙ w.if-is_shortest.false) (w.is_canonical-is ∙ least)
    ])
