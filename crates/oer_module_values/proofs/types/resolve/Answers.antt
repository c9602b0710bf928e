use Rattle.std.proofs.Common.{◌∙◌, sym, ap, map, Ok}
use Rattle.oer_module_values.proofs.Lists.{map_reversed}
use Rattle.std.proofs.lemmas.Result.{err_from_is_err_and}
use Rattle.oer_module_names.specs.Views.{modules_in}
use Rattle.oer_module_values.proofs.Turns.{walk_err, walk_end, walk_next, walk_over}
use Rattle.oer_module_values.specs.Errors.{error, place_in, circular}
use Rattle.oer_module_values.specs.Views.{given_of, given_in, type_in}
use Rattle.oer_module_values.proofs.types.resolve.Goals as goal

pub returns-in_err-next-clause-value : goal.returns-in_err-next-clause-value
returns-in_err-next-clause-value c =
    let l = c.steps in
    let p = err_from_is_err_and c.from_residual.result c.from_residual.ensures.1 in
    rw (p.1, p.2) (λ not_memory. walk_err (modules_in c.args.names.now) (type_in l.here) (given_in l.given.items) 255 l.turn _
    l.invariant.is c.steps-test.true (c.in_err-next.ensures.value not_memory))

pub returns-in-None-clause-value : goal.returns-in-None-clause-value
returns-in-None-clause-value c =
    let l = c.steps in
    let ended = rw c.in-None.is at c.in_ok-next.ensures.value in
    let turned = ap (map given_of) c.reverse.ensures.items ∙ map_reversed given_of c.step.new.given.items in
    walk_end (modules_in c.args.names.now) (type_in l.here) (given_in l.given.items) 255 l.turn _ l.invariant.is c.steps-test.true ended
    ∙ ap (λ gs. Ok (record { of = type_in l.here; given = gs })) (sym turned)

pub steps-preserved : goal.steps-preserved
steps-preserved c =
    let l = c.steps in
    let next = rw c.in-Some.is at c.in_ok-next.ensures.value in
    record {
      is = walk_next (modules_in c.args.names.now) (type_in l.here) (given_in l.given.items) 255 l.turn _ l.invariant.is c.steps-test.true next;
      within = rw c.in-Some.is at c.in_ok-next.ensures.within;
    }

pub returns-clause-value : goal.returns-clause-value
returns-clause-value c =
    let l = c.steps in
    λ not_memory. walk_over (modules_in c.args.names.now) (type_in l.here) (given_in l.given.items) 255 l.turn _ l.invariant.is c.steps-test.false
    ∙ ap (λ at. error (place_in l.here.«module» at) circular) (sym c.place_of.ensures)
