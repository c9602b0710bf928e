use Rattle.std.proofs.Common.{map, string_bytes}
use Rattle.std.proofs.lemmas.Result.{IfOk-weaker}
use Rattle.oer_compare.specs.Views.{part_of}
use Rattle.oer_compare_cmd.proofs.Texts.{located}
use Rattle.oer_compare_cmd.proofs.line.located_text.Goals as goal

pub returns : goal.returns
returns c =
    IfOk-weaker c.format.result _ _ (λ text h. located (map part_of c.args.path.now) _ _ (string_bytes text) h c.in_ok-steps.ensures c.in_ok-names.ensures) c.format.ensures.ok
