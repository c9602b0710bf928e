use Rattle.std.proofs.Common.{◌∙◌, ◌++◌, ap, sym, codes, string_bytes}
use Rattle.serde_json.specs.Data.{boolean}
use Rattle.serde_json.specs.Written.{compact_text}
use Rattle.oer_layout.proofs.Laid.{pushed}
use Rattle.oer_layout.proofs.as_json.push_default.Goals as goal

pub returns-then-is_default : goal.returns-then-is_default
returns-then-is_default c = pushed c.push_str.result _ _ _ _ c.push_str.ensures.bytes
    (λ h. h ∙ ap (λ b. string_bytes c.args.text.now ++ (codes ",\"default\":" ++ compact_text (boolean b))) (sym c.if-is_default.true))

pub returns-else-is_default : goal.returns-else-is_default
returns-else-is_default c = pushed c.push_str-else-is_default.result _ _ _ _ c.push_str-else-is_default.ensures.bytes
    (λ h. h ∙ ap (λ b. string_bytes c.args.text.now ++ (codes ",\"default\":" ++ compact_text (boolean b))) (sym c.if-is_default.false))
