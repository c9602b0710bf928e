use Rattle.std.proofs.Common.{◌≡◌, ◌+◌, ◌-◌, map, Ok, refl, sym, subst, ap, ap₂, ◌∙◌, arith}
use Rattle.std.proofs.lemmas.Result.{err_from_is_err_and}
use Rattle.std.proofs.lemmas.List.{map_push}
use Rattle.oer_values.specs.ShapeView.{seen_addition, seen_alternative, seen_field}
use Rattle.oer_notation.specs.Reading.{components_more, alternatives_more, type_at, most, Choices, with_marker, with_choice_marker}
use Rattle.oer_value_notation.specs.State.{state_of, bump}
use Rattle.oer_notation.specs.Soundness.{Tells, choices_have_fault, components_have_fault}
use Rattle.oer_notation.specs.Views.{known_by, components, choices}
use Rattle.oer_notation.proofs.Loops.{components_err, components_step, components_end, components_over, alternatives_err, alternatives_step, alternatives_end, alternatives_over, same_marker}
use Rattle.oer_notation.proofs.Soundness.{choice_tells, leaf_tells, then_more, with_one_addition, with_one_alternative, with_one_field}
use Rattle.oer_notation.proofs.parse.+types.Goals as goal

pub read_components-returns-in_err-read_component-clause-read : goal.read_components-returns-in_err-read_component-clause-read
read_components-returns-in_err-read_component-clause-read t c =
    let l = c.components in
    let type = type_at (known_by c.args.types.now) c.args.levels in
    let p = err_from_is_err_and c.from_residual.result c.from_residual.ensures.1 in
    let some = c.components-test.true in
    rw (p.1, p.2) (λ not_memory. l.invariant.read ∙ components_err type (most - l.turn) (components l.body) (state_of l.cursor) _ (omega arith) (c.in_err-read_component.ensures.read not_memory))

pub read_components-returns-then-not-take-clause-read : goal.read_components-returns-then-not-take-clause-read
read_components-returns-then-not-take-clause-read t c =
    let l = c.components in
    let type = type_at (known_by c.args.types.now) c.args.levels in
    let some = c.components-test.true in
    let read = c.in_ok-read_component.ensures.read in
    let marked = c.past_marker-body.ensures in
    let over = sym c.if-not-take.ensures.value in
    l.invariant.read ∙ components_end type (most - l.turn) (components l.body) (state_of l.cursor) (components c.read_component.new.body) _ _ _ (omega arith) read marked over
    ∙ ap (λ b. Ok (with_marker c.past_marker-body.result (components c.read_component.new.body), b)) (sym c.if-not-take.ensures.rest)

pub read_components-components-preserved : goal.read_components-components-preserved
read_components-components-preserved t c =
    let l = c.components in
    let type = type_at (known_by c.args.types.now) c.args.levels in
    let some = c.components-test.true in
    let read = c.in_ok-read_component.ensures.read in
    let marked = c.past_marker-body.ensures in
    let more = sym c.if-not-take.ensures.value in
    let next : most - l.turn - 1 ≡ most - (l.turn + 1) = omega arith in
    record {
      read =
          l.invariant.read ∙ components_step type (most - l.turn) (components l.body) (state_of l.cursor) (components c.read_component.new.body) _ _ _ (omega arith) read marked more
          ∙ ap₂ (λ n s. components_more type n (with_marker c.past_marker-body.result (components c.read_component.new.body)) s) next (sym c.if-not-take.ensures.rest);
      sound = then_more c.args.sound.now l.sound c.read_component.new.sound (components_have_fault (components c.args.body.now)) (components_have_fault (components l.body)) (components_have_fault (components c.read_component.new.body)) l.invariant.sound c.in_ok-read_component.ensures.sound;
    }

pub read_components-returns-clause-read : goal.read_components-returns-clause-read
read_components-returns-clause-read t c =
    let l = c.components in
    let over = c.components-test.false in
    λ not_memory. l.invariant.read ∙ components_over (type_at (known_by c.args.types.now) c.args.levels) (most - l.turn) (components l.body) (state_of l.cursor) (omega arith)

pub read_alternatives-returns-in_err-alternative-clause-read : goal.read_alternatives-returns-in_err-alternative-clause-read
read_alternatives-returns-in_err-alternative-clause-read t c =
    let l = c.alternatives in
    let type = type_at (known_by c.args.types.now) c.args.levels in
    let p = err_from_is_err_and c.from_residual.result c.from_residual.ensures.1 in
    let some = c.alternatives-test.true in
    rw (p.1, p.2) (λ not_memory. l.invariant.read ∙ alternatives_err type c.args.tagged (most - l.place) l.place (choices l.found) (state_of l.cursor) _ (omega arith) (c.in_err-alternative.ensures.read not_memory))

pub read_alternatives-returns-then-not-take-clause-read : goal.read_alternatives-returns-then-not-take-clause-read
read_alternatives-returns-then-not-take-clause-read t c =
    let l = c.alternatives in
    let type = type_at (known_by c.args.types.now) c.args.levels in
    let some = c.alternatives-test.true in
    let read = c.in_ok-alternative.ensures.read in
    let marked = c.past_marker.ensures in
    let kept : c.add_alternative.new.found.extensible ≡ l.found.extensible = ap (λ (x : Choices). x.extensible) c.in_ok-add_alternative.ensures ∙ same_marker (seen_alternative c.in_ok-alternative.alternative) (choices l.found) in
    let over = sym c.if-not-take.ensures.value in
    l.invariant.read ∙ alternatives_end type c.args.tagged (most - l.place) l.place (choices l.found) (state_of l.cursor) (seen_alternative c.in_ok-alternative.alternative) _ _ _ (omega arith) read (rw kept at marked) over
    ∙ ap₂ (λ a b. Ok (with_choice_marker c.past_marker.result a, b)) (sym c.in_ok-add_alternative.ensures) (sym c.if-not-take.ensures.rest)

pub read_alternatives-alternatives-preserved : goal.read_alternatives-alternatives-preserved
read_alternatives-alternatives-preserved t c =
    let l = c.alternatives in
    let type = type_at (known_by c.args.types.now) c.args.levels in
    let some = c.alternatives-test.true in
    let read = c.in_ok-alternative.ensures.read in
    let marked = c.past_marker.ensures in
    let kept : c.add_alternative.new.found.extensible ≡ l.found.extensible = ap (λ (x : Choices). x.extensible) c.in_ok-add_alternative.ensures ∙ same_marker (seen_alternative c.in_ok-alternative.alternative) (choices l.found) in
    let more = sym c.if-not-take.ensures.value in
    let next : most - l.place - 1 ≡ most - (l.place + 1) = omega arith in
    record {
      read =
          l.invariant.read ∙ alternatives_step type c.args.tagged (most - l.place) l.place (choices l.found) (state_of l.cursor) (seen_alternative c.in_ok-alternative.alternative) _ _ _ (omega arith) read (rw kept at marked) more
          ∙ ap₂ (λ a n. alternatives_more type c.args.tagged n (l.place + 1) (with_choice_marker c.past_marker.result a) (bump (state_of c.past_marker.new.cursor))) (sym c.in_ok-add_alternative.ensures) next
          ∙ ap (λ s. alternatives_more type c.args.tagged (most - (l.place + 1)) (l.place + 1) (with_choice_marker c.past_marker.result (choices c.add_alternative.new.found)) s) (sym c.if-not-take.ensures.rest);
      sound = subst (λ x. Tells c.args.sound.now c.read_alternative.new.sound (choices_have_fault x)) (sym c.in_ok-add_alternative.ensures) (with_one_alternative c.args.sound.now l.sound c.read_alternative.new.sound (choices l.found) (seen_alternative c.in_ok-alternative.alternative) l.invariant.sound c.in_ok-alternative.ensures.sound);
    }

pub read_alternatives-returns-clause-read : goal.read_alternatives-returns-clause-read
read_alternatives-returns-clause-read t c =
    let l = c.alternatives in
    let over = c.alternatives-test.false in
    λ not_memory. l.invariant.read ∙ alternatives_over (type_at (known_by c.args.types.now) c.args.levels) c.args.tagged (most - l.place) l.place (choices l.found) (state_of l.cursor) (omega arith)

pub read_alternatives-returns-then-not-take-clause-sound : goal.read_alternatives-returns-then-not-take-clause-sound
read_alternatives-returns-then-not-take-clause-sound t c =
    let l = c.alternatives in
    subst (λ x. Tells c.args.sound.now c.read_alternative.new.sound (choices_have_fault x)) (sym c.in_ok-add_alternative.ensures)
    (with_one_alternative c.args.sound.now l.sound c.read_alternative.new.sound (choices l.found) (seen_alternative c.in_ok-alternative.alternative) l.invariant.sound c.in_ok-alternative.ensures.sound)

pub read_choice-returns-clause-sound : goal.read_choice-returns-clause-sound
read_choice-returns-clause-sound t c = rw c.choice.ensures (choice_tells c.args.sound.now c.read_alternatives.new.sound (choices c.in_ok-found.found) c.in_ok-found.ensures.sound)

pub read_component-returns-then-body-clause-sound : goal.read_component-returns-then-body-clause-sound
read_component-returns-then-body-clause-sound t c =
    let b = c.args.body.now in
    with_one_addition c.args.sound.now c.read_addition.new.sound (components b) (components (record b { added = c.push.new.self })) (seen_addition c.in_ok-addition.addition) c.in_ok-addition.ensures.sound
    refl (ap (map seen_addition) c.in_ok-push.ensures.items ∙ map_push seen_addition b.added.items c.in_ok-addition.addition)

pub read_component-returns-clause-sound : goal.read_component-returns-clause-sound
read_component-returns-clause-sound t c =
    let b = c.args.body.now in
    with_one_field c.args.sound.now c.read_field.new.sound (components b) (components (record b { root = c.push-2.new.self })) (seen_field c.in_ok-field.field) c.in_ok-field.ensures.sound
    (ap (map seen_field) c.in_ok-push-2.ensures.items ∙ map_push seen_field b.root.items c.in_ok-field.field) refl

pub read_word_type-returns-in-Leaf-clause-sound : goal.read_word_type-returns-in-Leaf-clause-sound
read_word_type-returns-in-Leaf-clause-sound t c = leaf_tells c.args.sound.now c.in-Leaf.leaf (state_of c.args.cursor.now) (state_of c.read_leaf.new.cursor) c.read_leaf.result c.read_leaf.ensures
