use Rattle.std.proofs.Common.{rules, ◌≡◌, option_map, IfOk, Some, None, true, false, subst, sym, ap, ◌∙◌}
use Rattle.oer_values.specs.ShapeView.{known_later, type_of}
use Rattle.oer_values.proofs.Shapes.{type_of-Choice}
use Rattle.oer_compare.proofs.Choices.{first_found, of_choices, then_found}
use Rattle.oer_compare.specs.Views.{alts_differ, seen}
use Rattle.oer_compare.proofs.comparing.+compare.Goals as goal

pub types-returns-in-Some-3 : goal.types-returns-in-Some-3
types-returns-in-Some-3 t c =
    let a = c.in-Choice-Choice in
    let whole = of_choices (type_of c.args.old.now) (type_of c.args.new.now) a.root.items a.others.items a.additions a.added (ap type_of a.is-0 ∙ type_of-Choice a.root a.additions)
    (ap type_of a.is-1 ∙ type_of-Choice a.others a.added) (sym c.own_aspect.ensures ∙ c.in_default.is) in
    let found : alts_differ false a.root.items a.others.items ≡ Some (seen c.in-Some-3.found) = search rules in
    first_found _ _ _ (seen c.in-Some-3.found) whole found

pub types-returns-in_default-4 : goal.types-returns-in_default-4
types-returns-in_default-4 t c =
    let a = c.in-Choice-Choice in
    let whole = of_choices (type_of c.args.old.now) (type_of c.args.new.now) a.root.items a.others.items a.additions a.added (ap type_of a.is-0 ∙ type_of-Choice a.root a.additions)
    (ap type_of a.is-1 ∙ type_of-Choice a.others a.added) (sym c.own_aspect.ensures ∙ c.in_default.is) in
    let none : alts_differ false a.root.items a.others.items ≡ None = search rules in
    let rest : IfOk c.alternatives-in-Choice-Choice.result (λ found. option_map seen found ≡ alts_differ true (known_later a.additions) (known_later a.added)) = search rules in
    subst (λ d. IfOk c.alternatives-in-Choice-Choice.result (λ found. option_map seen found ≡ d)) (then_found _ _ _ whole none) rest
