use Rattle.std.proofs.Common.{◌<◌, ◌*◌, ◌≡◌, suc, add-one, ap, subst, sym, ◌∙◌, arith, drop, length, length-drop}
use Rattle.std.proofs.lemmas.List.{length_push}
use Rattle.oer_modules.proofs.Strides.{first_mark, mark_within, marks_more, marks_none, next_mark, next_rest, some_left}
use Rattle.oer_modules.specs.Marks.{AreMarks}
use Rattle.oer_modules.specs.Places.{behind, position_at}
use Rattle.oer_modules.proofs.marks.Marks.new.Goals as goal

pub loop-rest-init : goal.loop-rest-init
loop-rest-init c =
    let t = c.args.text.now in
    let none = sym c.new-positions.ensures.items in
    record {
      marks = subst (λ ps. AreMarks t ps) none (marks_none 4096 t);
      left = c.as_bytes-rest.ensures.value ∙ ap (λ ps. drop (length ps * 4096) t) none;
      here = first_mark t ∙ ap (λ ps. position_at (length ps * 4096) t) none;
    }

pub behind-position-requires-clause-line : goal.behind-position-requires-clause-line
behind-position-requires-clause-line c =
    let l = c.loop-rest in
    let far = mark_within 4096 (length l.positions.items * 4096) c.args.text.now l.rest.now c.front-passed.result.now l.position l.invariant.left l.invariant.here c.front-passed.ensures in
    omega (arith, far.0, c.as_bytes-rest.ensures.len)

pub behind-position-requires-clause-column : goal.behind-position-requires-clause-column
behind-position-requires-clause-column c =
    let l = c.loop-rest in
    let far = mark_within 4096 (length l.positions.items * 4096) c.args.text.now l.rest.now c.front-passed.result.now l.position l.invariant.left l.invariant.here c.front-passed.ensures in
    omega (arith, far.1, c.as_bytes-rest.ensures.len)

pub loop-rest-smaller : goal.loop-rest-smaller
loop-rest-smaller c =
    let some = some_left c.loop-rest.rest.now (sym c.is_empty.ensures ∙ c.loop-rest-test.true) in
    let left = ap length c.past-rest.ensures ∙ length-drop 4096 c.loop-rest.rest.now in
    let less : length c.past-rest.result.now < length c.loop-rest.rest.now = omega (arith, some, left) in
    less

pub loop-rest-preserved : goal.loop-rest-preserved
loop-rest-preserved c =
    let l = c.loop-rest in
    let t = c.args.text.now in
    let k = length l.positions.items in
    let more = c.in_ok-push.ensures.items in
    let count : suc k ≡ length c.push.new.self.items = sym (ap length more ∙ length_push l.positions.items l.position ∙ add-one k) in
    record {
      marks = subst (λ ps. AreMarks t ps) (sym more) (marks_more 4096 t l.positions.items l.position l.invariant.marks l.invariant.here);
      left = c.past-rest.ensures ∙ next_rest 4096 k t l.rest.now l.invariant.left ∙ ap (λ j. drop (j * 4096) t) count;
      here = c.behind-position.ensures ∙ ap (λ x. behind x l.position) c.front-passed.ensures
          ∙ next_mark 4096 k t l.rest.now l.position l.invariant.left l.invariant.here ∙ ap (λ j. position_at (j * 4096) t) count;
    }
