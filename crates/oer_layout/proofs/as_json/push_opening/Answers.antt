use Rattle.serde_json.specs.Written.{compact_text}
use Rattle.oer_layout.specs.Array.{octets_data}
use Rattle.oer_layout.proofs.Pushed.{opened, same_part}
use Rattle.oer_layout.proofs.Laid.{pushed}
use Rattle.oer_layout.proofs.as_json.push_opening.Goals as goal

pub returns : goal.returns
returns c =
    let octets = same_part (λ b. compact_text (octets_data b)) _ _ _ _ c.as_slice.ensures.value c.in_ok-push_octets.ensures in
    pushed c.push_str-3.result _ _ _ _ c.push_str-3.ensures.bytes (λ h. opened _ c.in-Some.octets _ _ _ _ c.in-Some.is c.in_ok-push_str.ensures.bytes octets h)
