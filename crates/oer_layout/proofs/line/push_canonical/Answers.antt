use Rattle.std.proofs.Common.{◌∙◌}
use Rattle.std.proofs.lemmas.Result.{on_ok_weaker}
use Rattle.oer_layout.proofs.Celled.{canonical_noted}
use Rattle.oer_layout.proofs.line.push_canonical.Goals as goal

pub returns : goal.returns
returns c = on_ok_weaker c.push_digits.result
    (λ h. canonical_noted c.args.canonical.now c.in-Some.canonical c.args.octets.now _ _ _ _ _ _ _ c.in-Some.is (c.as_str.ensures.value ∙ c.in_ok-first_digits.ensures) c.as_slice.ensures.value
    c.in_ok-push_str.ensures.bytes c.in_ok-push_str-2.ensures.bytes c.in_ok-push_str-3.ensures.bytes h) c.push_digits.ensures
