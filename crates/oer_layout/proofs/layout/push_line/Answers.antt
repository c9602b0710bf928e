use Rattle.std.proofs.Common.{◌∙◌}
use Rattle.oer_layout.specs.Cells.{cells_in}
use Rattle.oer_layout.specs.Layout.{line_text}
use Rattle.oer_layout.proofs.Laid.{line_shown, pushed}
use Rattle.oer_layout.proofs.layout.push_line.Goals as goal

pub returns : goal.returns
unfolding lib.Utf8.encode
returns c = pushed c.push.result _ _ _ _ c.push.ensures.bytes
    (λ h. line_shown (line_text c.args.widths (cells_in c.args.line.now)) _ _ _ _ (c.as_str.ensures.value ∙ c.in_ok-cells.ensures) c.in_ok-push_visible.ensures h)
