use Rattle.std.proofs.Common.{◌≡◌, List, Ok, map, sym, ap, ◌∙◌}
use Rattle.std.proofs.lemmas.Result.{err_from_is_err_and}
use Rattle.std.proofs.lemmas.List.{map-append}
use Rattle.oer_module_bounds.specs.Sets.{Constraint, Set, constraint_of as bounding_of}
use Rattle.oer_module_limits.specs.Errors.{Read, ◌>>=◌}
use Rattle.oer_module_limits.specs.Sets.{Measure, added, given_rows, measure_of, own_rows, rows, set_at}
use Rattle.oer_module_limits.specs.Views.{measure_seen}
use Rattle.oer_module_names.specs.Views.{modules_in}
use Rattle.oer_module_names.specs.declared.error.Place.{Place}
use Rattle.oer_module_terms.specs.Trees.{Elements}
use Rattle.oer_module_values.specs.Types.{Meaning}
use Rattle.oer_module_values.specs.Views.{given_of, meaning_of}
use Rattle.oer_module_limits.proofs.sets.constraints_of.Goals as goal

rows_after : (told : Measure → Place → Elements → Read Set) (k : Measure) (r : Meaning) (first : List Constraint) (more : Read (List Constraint))
    → own_rows told k r.of ≡ Ok first → given_rows told (measure_of k r.of) r.given ≡ more → rows told k r ≡ added first more
unfolding rows
rows_after told k r first more a b =
    ap (λ m. m >>= λ found. added found (given_rows told (measure_of k r.of) r.given)) a ∙ ap (added first) b

pub returns-in_err-more : goal.returns-in_err-more
returns-in_err-more c =
    let p = err_from_is_err_and c.from_residual-in_err-more.result c.from_residual-in_err-more.ensures.1 in
    rw (p.1, p.2) (λ not_memory. rows_after (set_at (modules_in c.args.names.now) c.args.levels) (measure_seen c.args.measure)
    (meaning_of c.args.meaning.now) _ _ c.in_ok-found.ensures
    (ap (λ k. given_rows (set_at (modules_in c.args.names.now) c.args.levels) k (meaning_of c.args.meaning.now).given) (sym c.measure_of.ensures.value)
    ∙ ap (λ gs. given_rows (set_at (modules_in c.args.names.now) c.args.levels) (measure_seen c.measure_of.result) (map given_of gs))
    (sym c.deref.ensures.value)
    ∙ c.in_err-more.ensures not_memory))

pub returns : goal.returns
returns c =
    rows_after (set_at (modules_in c.args.names.now) c.args.levels) (measure_seen c.args.measure) (meaning_of c.args.meaning.now) _ _
    c.in_ok-found.ensures
    (ap (λ k. given_rows (set_at (modules_in c.args.names.now) c.args.levels) k (meaning_of c.args.meaning.now).given) (sym c.measure_of.ensures.value)
    ∙ ap (λ gs. given_rows (set_at (modules_in c.args.names.now) c.args.levels) (measure_seen c.measure_of.result) (map given_of gs))
    (sym c.deref.ensures.value)
    ∙ c.in_ok-more.ensures)
    ∙ ap (λ xs. let r : Read (List Constraint) = Ok xs in r)
    (sym (ap (map bounding_of) c.in_ok-append.ensures.items ∙ map-append bounding_of c.in_ok-found.found.items c.in_ok-more.more.items))
