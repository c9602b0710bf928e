use Rattle.std.proofs.Common.{option_map, subst, sym, ap, ◌∙◌}
use Rattle.std.specs.Slice.{IsItemAt}
use Rattle.oer_notation.specs.Views.{known_by, names_of, shared_type}
use Rattle.oer_notation.proofs.Finding.{find_together, item_given, one_at}
use Rattle.oer_notation.proofs.known.find_shared.Goals as goal

pub returns-in_err-place : goal.returns-in_err-place
unfolding known_by
returns-in_err-place c =
    let types = c.args.types.now in
    ap (option_map (λ s. shared_type s.now)) c.from_residual.ensures
    ∙ ap (λ o. option_map shared_type (one_at types.types.items o)) c.in_err-place.ensures
    ∙ sym (find_together (names_of types.names) types.types.items c.args.name.now)

pub returns : goal.returns
unfolding known_by
returns c =
    let types = c.args.types.now in
    item_given shared_type types.types.items c.in_ok-place.place c.get.result
    (subst (λ xs. IsItemAt xs c.in_ok-place.place c.get.result) c.deref.ensures.value c.get.ensures.lookup)
    ∙ ap (λ o. option_map shared_type (one_at types.types.items o)) c.in_ok-place.ensures
    ∙ sym (find_together (names_of types.names) types.types.items c.args.name.now)
