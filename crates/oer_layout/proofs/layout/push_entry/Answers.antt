use Rattle.std.proofs.Common.{◌∙◌, [], ◌∷◌, ◌++◌, ap, string_bytes}
use Rattle.std.proofs.lemmas.Result.{on_ok_weaker}
use Rattle.oer_layout.specs.Layout.{line_text}
use Rattle.oer_places.specs.Visible.{visible}
use Rattle.oer_layout.proofs.layout.push_entry.Goals as goal

pub returns : goal.returns
returns c = on_ok_weaker c.push_line.result
    (λ h. h ∙ ap (λ x. string_bytes c.args.text.now ++ (visible (line_text c.args.widths x) ++ 10 ∷ [])) c.in_ok-line.ensures) c.push_line.ensures
