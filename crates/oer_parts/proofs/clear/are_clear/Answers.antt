use Rattle.std.proofs.Common.{◌≡◌, ◌≤◌, ◌∙◌, ap, length, rules, sym, take, true}
use Rattle.oer_checker.specs.Steps.{last_are_zero}
use Rattle.oer_parts.proofs.Zeros.{by_last, clear_all, clear_from, some_octet}
use Rattle.oer_parts.proofs.clear.are_clear.Goals as goal

pub returns-then-is_empty : goal.returns-then-is_empty
returns-then-is_empty c = λ e. clear_all c.args.bits.from c.args.bits.to c.args.bits.octets.now (c.are_zero.ensures e)

pub returns : goal.returns
returns c = λ e.
    let b = c.args.bits in
    let w = b.octets.now in
    let k = c.octets_needed-count.result in
    let u = c.spare_bits.result in
    let le : k ≤ length w = search rules in
    let zero : c.are_last_zero.result ≡ true = search rules in
    let some = some_octet (take k w) (sym (sym c.is_empty.ensures ∙ c.if-is_empty.false)) in
    let last = sym (by_last u (take k w) some c.spare_bits.ensures.most) ∙ sym c.are_last_zero.ensures ∙ zero in
    let front = ap (λ n. last_are_zero n (take k w)) (sym c.spare_bits.ensures.value) ∙ last in
    clear_from b.from b.to k w c.octets_needed-count.ensures.value le front (c.are_zero-2.ensures e)
