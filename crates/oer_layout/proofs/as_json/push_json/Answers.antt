use Rattle.std.proofs.lemmas.Result.{on_ok_weaker}
use Rattle.serde_json.specs.View.{view}
use Rattle.oer_layout.proofs.Spelt.{value_pushed}
use Rattle.oer_layout.proofs.as_json.push_json.Goals as goal

pub returns-then-value : goal.returns-then-value
returns-then-value c = on_ok_weaker c.push_between_quotes.result
    (λ h. value_pushed (view c.args.value.now.json) _ _ c.in-Some.part.now (c.args.value.now.digits c.if-value.true) c.in-Some.ensures h) c.push_between_quotes.ensures
