use Rattle.std.proofs.lemmas.Result.{err_from_is_err_and}
use Rattle.oer_module_names.specs.Views.{modules_in}
use Rattle.oer_module_values.proofs.Turns.{numeral_err, numeral_end, numeral_next, numeral_over}
use Rattle.oer_module_values.specs.Views.{wanted_of}
use Rattle.oer_module_values.proofs.numbers.digits_of.Goals as goal

pub returns-in_err-numeral : goal.returns-in_err-numeral
returns-in_err-numeral c =
    let l = c.steps in
    let p = err_from_is_err_and c.from_residual.result c.from_residual.ensures.1 in
    rw (p.1, p.2) (λ not_memory. numeral_err (modules_in c.args.names.now) (wanted_of l.here) 255 l.turn _
    l.invariant.is c.steps-test.true (c.in_err-numeral.ensures.value not_memory))

pub returns-in-Reached : goal.returns-in-Reached
returns-in-Reached c =
    let l = c.steps in
    let ended = rw c.in-Reached.is at c.in_ok-numeral.ensures.value in
    numeral_end (modules_in c.args.names.now) (wanted_of l.here) 255 l.turn _ l.invariant.is c.steps-test.true ended

pub steps-preserved : goal.steps-preserved
steps-preserved c =
    let l = c.steps in
    let next = rw c.in-Wants.is at c.in_ok-numeral.ensures.value in
    record {
      is = numeral_next (modules_in c.args.names.now) (wanted_of l.here) 255 l.turn _ l.invariant.is c.steps-test.true next;
      within = rw c.in-Wants.is at c.in_ok-numeral.ensures.within;
    }

pub returns : goal.returns
returns c =
    let l = c.steps in
    λ not_memory. numeral_over (modules_in c.args.names.now) (wanted_of l.here) 255 l.turn _ l.invariant.is c.steps-test.false
