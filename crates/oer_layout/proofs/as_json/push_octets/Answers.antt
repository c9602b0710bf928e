use Rattle.std.proofs.Common.{◌∙◌}
use Rattle.std.proofs.lemmas.Result.{on_ok_weaker}
use Rattle.oer_layout.proofs.Spelt.{digits_pushed}
use Rattle.oer_layout.proofs.as_json.push_octets.Goals as goal

pub returns : goal.returns
returns c = on_ok_weaker c.push_between_quotes.result
    (λ h. digits_pushed c.args.octets.now (λ i. (c.type_inv.octets i).fits) _ _ c.as_str.result.now (c.as_str.ensures.value ∙ c.in_ok-digits.ensures) h)
    c.push_between_quotes.ensures
