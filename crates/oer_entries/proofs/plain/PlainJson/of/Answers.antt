use Rattle.std.proofs.Common.{ap, ◌∙◌}
use Rattle.serde_json.specs.Written.{has_float}
use Rattle.oer_json.proofs.Floats.{made_none}
use Rattle.oer_types.specs.Schema.{the_type}
use Rattle.oer_values.specs.ValueView.{value_of}
use Rattle.oer_entries.proofs.Digits.{digits_made}
use Rattle.oer_entries.proofs.plain.PlainJson.of.Goals as goal

pub invariant_of-result : goal.invariant_of-result
invariant_of-result c = record {
  plain = ap has_float c.in_ok-json.ensures ∙ made_none (the_type c.args.schema.now) (value_of c.args.value.now);
  digits = λ so. ∣ digits_made (the_type c.args.schema.now) (value_of c.args.value.now) _ c.requires c.in_ok-json.ensures (c.is_octets.ensures so) ∣₁;
}
