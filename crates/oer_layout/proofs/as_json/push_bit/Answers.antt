use Rattle.oer_layout.proofs.Laid.{pushed}
use Rattle.oer_layout.proofs.Pushed.{bit_pushed}
use Rattle.oer_layout.proofs.as_json.push_bit.Goals as goal

pub returns-then-bit : goal.returns-then-bit
returns-then-bit c = pushed c.push_str-then-bit.result _ _ _ _ c.push_str-then-bit.ensures.bytes (λ h. bit_pushed c.args.bit _ _ _ _ _ c.if-bit.true c.in_ok-push_str.ensures.bytes c.in_ok-push_name.ensures h)

pub returns-else-bit : goal.returns-else-bit
returns-else-bit c = pushed c.push_str-else-bit.result _ _ _ _ c.push_str-else-bit.ensures.bytes
    (λ h. bit_pushed c.args.bit _ _ _ _ _ c.if-bit.false c.in_ok-push_str.ensures.bytes c.in_ok-push_name.ensures h)
