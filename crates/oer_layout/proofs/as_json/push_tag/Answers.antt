use Rattle.std.proofs.Common.{◌∙◌}
use Rattle.json.specs.Print.{quoted}
use Rattle.oer_layout.proofs.Laid.{pushed}
use Rattle.oer_layout.proofs.Pushed.{same_part, tag_pushed}
use Rattle.oer_layout.proofs.as_json.push_tag.Goals as goal

pub returns : goal.returns
returns c =
    let tag = same_part quoted _ _ _ _ (c.as_str.ensures.value ∙ c.in_ok-tag.ensures) c.in_ok-push_quoted.ensures in
    pushed c.push_str-3.result _ _ _ _ c.push_str-3.ensures.bytes
    (λ h. tag_pushed c.args.tag c.args.name _ _ _ _ _ _ c.in_ok-push_str.ensures.bytes c.in_ok-push_name.ensures c.in_ok-push_str-2.ensures.bytes tag h)
