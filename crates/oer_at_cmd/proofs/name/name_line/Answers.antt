use Rattle.std.proofs.Common.{◌∙◌, string_bytes}
use Rattle.std.proofs.lemmas.Result.{IfOk-weaker}
use Rattle.oer_at_cmd.proofs.Words.{lined, place_at, subject_at}
use Rattle.oer_at_cmd.proofs.name.name_line.Goals as goal

pub returns : goal.returns
returns c =
    let names = c.args.names.now in
    let fault = c.args.fault in
    IfOk-weaker c.format.result _ _ (λ line h. lined _ _ _ _ (string_bytes line) h
    (c.in_ok-subject.ensures ∙ subject_at fault.wanted names fault.before _ c.requires) (c.in_ok-place.ensures ∙ place_at names fault.before)) c.format.ensures.ok
