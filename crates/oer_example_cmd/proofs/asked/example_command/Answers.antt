use Rattle.std.proofs.lemmas.Result.{IfOk-weaker}
use Rattle.oer_options.proofs.Asked.{adds}
use Rattle.oer_example_cmd.proofs.asked.example_command.Goals as goal

pub returns : goal.returns
returns c =
    let one = adds _ _ _ _ _ c.with_help.ensures c.option.ensures.rule c.option.ensures.local c.in_ok-arg.ensures in
    let two = adds _ _ _ _ _ one c.option-2.ensures.rule c.option-2.ensures.local c.in_ok-arg-2.ensures in
    let three = adds _ _ _ _ _ two c.option-3.ensures.rule c.option-3.ensures.local c.in_ok-arg-3.ensures in
    let four = adds _ _ _ _ _ three c.full_option.ensures.rule c.full_option.ensures.local c.in_ok-arg-4.ensures in
    IfOk-weaker c.arg-5.result _ _ (λ r h. adds _ _ _ _ _ four c.random_option.ensures.rule c.random_option.ensures.local h) c.arg-5.ensures
