use Rattle.std.proofs.Common.{◌∙◌, sym, ap}
use Rattle.std.proofs.lemmas.Result.{err_from_is_err_and}
use Rattle.oer_module_names.specs.Views.{modules_in}
use Rattle.oer_module_text.specs.Errors.{error, place_in, unresolved}
use Rattle.oer_module_values.specs.Errors.{circular}
use Rattle.oer_module_values.specs.Views.{type_in}
use Rattle.oer_module_tags.proofs.Turns.{tag_err, tag_end, tag_next, tag_over}
use Rattle.oer_module_tags.proofs.outermost.outermost_tag.Goals as goal

pub returns-in_err-tag : goal.returns-in_err-tag
returns-in_err-tag c =
    let l = c.steps in
    let p = err_from_is_err_and c.from_residual.result c.from_residual.ensures.1 in
    rw (p.1, p.2) (λ not_memory. tag_err (modules_in c.args.names.now) (type_in l.here) 255 l.turn _
    l.invariant.is c.steps-test.true (c.in_err-tag.ensures.value not_memory))

pub returns-in-Found : goal.returns-in-Found
returns-in-Found c =
    let l = c.steps in
    let ended = rw c.in-Found.is at c.in_ok-tag.ensures.value in
    tag_end (modules_in c.args.names.now) (type_in l.here) 255 l.turn _ l.invariant.is c.steps-test.true ended

pub steps-preserved : goal.steps-preserved
steps-preserved c =
    let l = c.steps in
    let goes = rw c.in-Next.is at c.in_ok-tag.ensures.value in
    record {
      is = tag_next (modules_in c.args.names.now) (type_in l.here) 255 l.turn _ l.invariant.is c.steps-test.true goes;
      within = rw c.in-Next.is at c.in_ok-tag.ensures.within;
    }

pub returns : goal.returns
returns c =
    let l = c.steps in
    λ not_memory. tag_over (modules_in c.args.names.now) (type_in l.here) 255 l.turn _ l.invariant.is c.steps-test.false
    ∙ ap (λ at. error (place_in l.here.«module» at) (unresolved circular)) (sym c.place_of.ensures)
