use Rattle.std.proofs.Common.{◌∙◌, ap, sym, Ok}
use Rattle.std.proofs.lemmas.Result.{err_from_is_err_and}
use Rattle.oer_module_names.specs.Views.{modules_in}
use Rattle.oer_module_defaults.proofs.Turns.{walk_err, walk_end, walk_next, walk_over}
use Rattle.oer_module_defaults.specs.Governors.{governor_of}
use Rattle.oer_module_defaults.specs.Views.{source_of}
use Rattle.oer_module_terms.specs.Trees.{value_of}
use Rattle.oer_module_text.specs.Errors.{error, unresolved}
use Rattle.oer_module_values.specs.Errors.{circular}
use Rattle.oer_module_defaults.proofs.walk.literal_in.Goals as goal

pub returns-in_err-value-clause-value : goal.returns-in_err-value-clause-value
returns-in_err-value-clause-value c =
    let l = c.steps in
    let p = err_from_is_err_and c.from_residual.result c.from_residual.ensures.1 in
    rw (p.1, p.2) (λ not_memory. walk_err (modules_in c.args.names.now) (source_of l.here) 255 l.turn _
    l.invariant.is c.steps-test.true (c.in_err-value.ensures.value not_memory))

pub returns-in-Reached-clause-value : goal.returns-in-Reached-clause-value
returns-in-Reached-clause-value c =
    let l = c.steps in
    let ended = rw c.in-Reached.is at c.in_ok-value.ensures.value in
    walk_end (modules_in c.args.names.now) (source_of l.here) 255 l.turn _ l.invariant.is c.steps-test.true ended
    ∙ ap (λ p. Ok (record { place = p; governor = governor_of l.here.governor; value = value_of c.in-Reached.value })) (sym c.source_place.ensures)

pub steps-preserved : goal.steps-preserved
steps-preserved c =
    let l = c.steps in
    let next = rw c.in-Goes.is at c.in_ok-value.ensures.value in
    record {
      is = walk_next (modules_in c.args.names.now) (source_of l.here) 255 l.turn _ l.invariant.is c.steps-test.true next;
      within = rw c.in-Goes.is at c.in_ok-value.ensures.within;
    }

pub returns-clause-value : goal.returns-clause-value
returns-clause-value c =
    let l = c.steps in
    λ not_memory. walk_over (modules_in c.args.names.now) (source_of l.here) 255 l.turn _ l.invariant.is c.steps-test.false
    ∙ ap (λ p. error p (unresolved circular)) (sym c.source_place-2.ensures)
