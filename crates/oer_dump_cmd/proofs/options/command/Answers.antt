use Rattle.std.proofs.lemmas.Result.{IfOk-weaker}
use Rattle.oer_options.proofs.Asked.{adds}
use Rattle.oer_dump_cmd.proofs.options.command.Goals as goal

pub returns : goal.returns
returns c =
    let one = adds _ _ _ _ _ c.bare_command.ensures c.option.ensures.rule c.option.ensures.local c.in_ok-arg.ensures in
    let two = adds _ _ _ _ _ one c.option-2.ensures.rule c.option-2.ensures.local c.in_ok-arg-2.ensures in
    let three = adds _ _ _ _ _ two c.option-3.ensures.rule c.option-3.ensures.local c.in_ok-arg-3.ensures in
    let four = adds _ _ _ _ _ three c.limit_option.ensures.rule c.limit_option.ensures.local c.in_ok-arg-4.ensures in
    let five = adds _ _ _ _ _ four c.option-4.ensures.rule c.option-4.ensures.local c.in_ok-arg-5.ensures in
    let six = adds _ _ _ _ _ five c.width_option.ensures.rule c.width_option.ensures.local c.in_ok-arg-6.ensures in
    IfOk-weaker c.arg-7.result _ _ (λ r h. adds _ _ _ _ _ six c.json_option.ensures.rule c.json_option.ensures.local h) c.arg-7.ensures
