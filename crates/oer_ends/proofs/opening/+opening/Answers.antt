use Rattle.std.proofs.Common.{◌≡◌, ◌∙◌, map, ap, subst}
use Rattle.oer_model.specs.AsnType.{no_alternatives}
use Rattle.oer_values.specs.ShapeView.{root_of, seen_addition, seen_alternative, seen_field}
use Rattle.oer_ends.specs.Ends.{are_of_end}
use Rattle.oer_ends.specs.Opened.{IsMarker, opened_addition, opened_alternative, opened_field}
use Rattle.oer_ends.proofs.Roots.{choice_made, end_made, extensible_made, sequence_made}
use Rattle.oer_ends.proofs.opening.+opening.Goals as goal

pub opened-returns-in-None : goal.opened-returns-in-None
opened-returns-in-None t c =
    sequence_made c.args.shape.now c.in-Sequence.root c.in_ok-root-in-Sequence.root c.in-Sequence.additions c.in-Sequence.is c.in-None.is
    (c.in_ok-root-in-Sequence.ensures ∙ ap (λ l. map opened_field (map seen_field l)) c.deref.ensures.value)

pub opened-returns-in_ok-open_additions-in-Some : goal.opened-returns-in_ok-open_additions-in-Some
opened-returns-in_ok-open_additions-in-Some t c =
    extensible_made c.args.shape.now c.in-Sequence.root c.in_ok-root-in-Sequence.root c.in-Sequence.additions c.in-Some.additions
    c.in_ok-open_additions-in-Some.field-0 c.in-Sequence.is c.in-Some.is
    (c.in_ok-root-in-Sequence.ensures ∙ ap (λ l. map opened_field (map seen_field l)) c.deref.ensures.value)
    (c.in_ok-open_additions-in-Some.ensures ∙ ap (λ l. map opened_addition (map seen_addition l)) c.deref-in-Some.ensures.value)

pub opened-returns-in-None-additions : goal.opened-returns-in-None-additions
opened-returns-in-None-additions t c =
    end_made c.args.shape.now c.in-Choice.root c.in_ok-made-in-Choice.made c.in-Choice.additions c.marker_of.result c.in-Choice.is c.in-None-additions.is
    (subst (λ l. IsMarker (are_of_end (root_of l no_alternatives)) c.marker_of.result) c.deref-in-None-additions.ensures.value c.marker_of.ensures)
    (c.in_ok-made-in-Choice.ensures ∙ ap (λ l. map opened_alternative (map seen_alternative l)) c.deref-in-Choice.ensures.value)

pub opened-returns-in_ok-open_alternatives-in-Some-additions : goal.opened-returns-in_ok-open_alternatives-in-Some-additions
opened-returns-in_ok-open_alternatives-in-Some-additions t c =
    choice_made c.args.shape.now c.in-Choice.root c.in_ok-made-in-Choice.made c.in-Choice.additions c.in-Some-additions.additions
    c.in_ok-open_alternatives-in-Some-additions.field-0 c.in-Choice.is c.in-Some-additions.is
    (c.in_ok-made-in-Choice.ensures ∙ ap (λ l. map opened_alternative (map seen_alternative l)) c.deref-in-Choice.ensures.value)
    (c.in_ok-open_alternatives-in-Some-additions.ensures
    ∙ ap (λ l. map opened_alternative (map seen_alternative l)) c.deref-in-Some-additions.ensures.value)
