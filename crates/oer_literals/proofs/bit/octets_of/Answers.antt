use Rattle.std.proofs.Common.{◌≡◌, ◌+◌, ◌-◌, [], ◌∷◌, ◌++◌, length, drop, sym, ap, ap₂, ◌∙◌, arith, append_assoc, append-nil}
use Rattle.std.proofs.lemmas.Bool.{eqb-true, eqb-false}
use Rattle.oer_literals.specs.Bits.{octet_of, octets_more}
use Rattle.oer_literals.proofs.Digits.{octets_done, octets_turn, octets_over}
use Rattle.oer_literals.proofs.bit.octets_of.Goals as goal

pub returns-then-is_empty : goal.returns-then-is_empty
returns-then-is_empty c =
    let l = c.octets in
    let none = eqb-true (length l.rest.now) 0 (sym c.is_empty.ensures ∙ c.if-is_empty.true) in
    sym (l.invariant ∙ ap (λ w. l.octets.items ++ w) (octets_done (length c.args.digits.now - l.turn) l.rest.now (omega arith)) ∙ append-nil l.octets.items)

pub octets-preserved : goal.octets-preserved
octets-preserved c =
    let l = c.octets in
    let some = c.octets-test.true in
    let full = eqb-false (length l.rest.now) 0 (sym c.is_empty.ensures ∙ c.if-is_empty.false) in
    let n = length c.args.digits.now - l.turn in
    let next : length c.args.digits.now - l.turn - 1 ≡ length c.args.digits.now - (l.turn + 1) = omega arith in
    let pushed : l.octets.items ++ octet_of l.rest.now ∷ [] ≡ c.push.new.self.items = sym (c.in_ok-push.ensures.items ∙ ap (λ x. l.octets.items ++ x ∷ []) c.octet_of.ensures) in
    l.invariant ∙ ap (λ w. l.octets.items ++ w) (octets_turn (length c.args.digits.now - l.turn) l.rest.now (omega arith) full)
    ∙ sym (append_assoc l.octets.items (octet_of l.rest.now ∷ []) (octets_more (length c.args.digits.now - l.turn - 1) (drop 8 l.rest.now)))
    ∙ ap₂ (λ xs ys. xs ++ ys) pushed (ap₂ (λ n w. octets_more n w) next (sym c.past_eight-rest.ensures))

pub returns : goal.returns
returns c =
    let l = c.octets in
    let over = c.octets-test.false in
    sym (l.invariant ∙ ap (λ w. l.octets.items ++ w) (octets_over (length c.args.digits.now - l.turn) l.rest.now (omega arith)) ∙ append-nil l.octets.items)
