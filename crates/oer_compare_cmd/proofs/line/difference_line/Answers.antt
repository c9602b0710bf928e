use Rattle.std.proofs.Common.{◌∙◌, ap, map, string_bytes}
use Rattle.std.proofs.lemmas.Result.{IfOk-weaker}
use Rattle.oer_compare.specs.Views.{part_of, seen}
use Rattle.oer_compare_cmd.specs.Line.{place_text}
use Rattle.oer_compare_cmd.proofs.Texts.{lined}
use Rattle.oer_compare_cmd.proofs.line.difference_line.Goals as goal

pub returns : goal.returns
returns c =
    let place = c.in_ok-place.ensures ∙ ap (λ path. place_text (map part_of path)) c.deref.ensures.value in
    IfOk-weaker c.format.result _ _ (λ line h. lined (seen c.args.difference.now) _ _ (string_bytes line) h place c.aspect_text-aspect.ensures) c.format.ensures.ok
