use Rattle.std.proofs.Common.{◌++◌, [], ◌∷◌, map, take, sym, ap, ◌∙◌, append_assoc, string_bytes}
use Rattle.oer_literals.specs.Bits.{bit_digit}
use Rattle.oer_literals.proofs.Lists.{take_next}
use Rattle.oer_literals.proofs.bit.push_bits.Goals as goal

pub loop-index-preserved : goal.loop-index-preserved
loop-index-preserved c =
    let l = c.loop-index in
    let ds = map bit_digit c.args.bits.now in
    c.in_ok-push.ensures.bytes
    ∙ ap (λ xs. string_bytes l.text ++ xs) (c.in_ok-push.ensures.ascii c.digit_at.ensures.small)
    ∙ ap (λ xs. xs ++ c.digit_at.result ∷ []) l.invariant
    ∙ append_assoc (string_bytes c.args.text.now) (take l.index ds) (c.digit_at.result ∷ [])
    ∙ ap (λ xs. string_bytes c.args.text.now ++ xs) (sym (take_next ds l.index c.digit_at.result c.digit_at.ensures.value))
