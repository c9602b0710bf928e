use Rattle.std.proofs.Common.{◌++◌, codes}
use Rattle.json.specs.Print.{quoted}
use Rattle.oer_layout.proofs.Laid.{pushed}
use Rattle.oer_layout.proofs.Pushed.{object_pushed, same_part}
use Rattle.oer_layout.proofs.as_json.push_object.Goals as goal

pub returns : goal.returns
returns c =
    let role = same_part (λ x. codes ",\"role\":" ++ quoted x) _ _ _ _ c.role.ensures c.in_ok-push_text-4.ensures in
    pushed c.push_str-3.result _ _ _ _ c.push_str-3.ensures.bytes (λ h. object_pushed c.args.entry.now _ _ _ _ _ _ _ _ _ _ _ _ _ _ c.in_ok-push_opening.ensures c.in_ok-push_number.ensures
    c.in_ok-push_default.ensures c.in_ok-push_text.ensures c.in_ok-push_text-2.ensures c.in_ok-push_str.ensures.bytes c.in_ok-push_octets.ensures c.in_ok-push_number-2.ensures c.in_ok-push_text-3.ensures role c.in_ok-push_str-2.ensures.bytes
    c.in_ok-push_value.ensures h)
