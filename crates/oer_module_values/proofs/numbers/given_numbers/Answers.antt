use Rattle.std.proofs.lemmas.Result.{err_from_is_err_and}
use Rattle.oer_module_names.specs.Views.{modules_in}
use Rattle.oer_module_values.proofs.GivenNumbers.{given_err}
use Rattle.oer_module_values.proofs.numbers.given_numbers.Goals as goal

pub returns-in_err-number : goal.returns-in_err-number
returns-in_err-number c =
    let l = c.loop-item in
    let p = err_from_is_err_and c.from_residual.result c.from_residual.ensures.1 in
    rw (p.1, p.2) (λ not_memory. given_err (modules_in c.args.names.now) c.args.«module» c.args.items.now l.item-index l.numbers.items _
    l.invariant _ _ c.loop-item-test.true (c.in_err-number.ensures not_memory))
