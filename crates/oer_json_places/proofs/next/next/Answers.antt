use Rattle.oer_values.proofs.Shapes.{type_of-Choice, type_of-Sequence, type_of-SequenceOf}
use Rattle.oer_json_places.proofs.Faultless.{of_additions, of_choice_with, of_item, of_root, of_sequence}
use Rattle.oer_json_places.proofs.next.next.Goals as goal

pub in_extensible-requires-clause-root : goal.in_extensible-requires-clause-root
in_extensible-requires-clause-root c =
    let w = rw (c.in-Sequence.is, type_of-Sequence, c.in-Some.is) at c.requires in
    rw c.deref.ensures.value (of_root _ _ w)

pub in_extensible-requires-clause-additions : goal.in_extensible-requires-clause-additions
in_extensible-requires-clause-additions c =
    let w = rw (c.in-Sequence.is, type_of-Sequence, c.in-Some.is) at c.requires in
    rw c.deref-in-Some.ensures.value (of_additions _ _ w)

pub in_sequence-requires : goal.in_sequence-requires
in_sequence-requires c =
    let w = rw (c.in-Sequence.is, type_of-Sequence, c.in-None.is) at c.requires in
    rw c.deref-in-None.ensures.value (of_sequence _ w)

pub in_list-requires : goal.in_list-requires
in_list-requires c =
    let w = rw (c.in-SequenceOf.is, type_of-SequenceOf) at c.requires in
    rw c.deref-in-SequenceOf.ensures (of_item _ _ w)

pub in_choice-requires : goal.in_choice-requires
in_choice-requires c =
    let w = rw (c.in-Choice.is, type_of-Choice) at c.requires in
    rw c.deref-in-Choice.ensures.value (of_choice_with _ _ w)

pub returns-in-Some : goal.returns-in-Some
returns-in-Some c =
    rw (c.in-Sequence.is, type_of-Sequence, c.in-Some.is) (rw
    (c.deref.ensures.value, c.deref-in-Some.ensures.value) at c.in_extensible.ensures)
