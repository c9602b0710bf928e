use Rattle.std.proofs.Common.{◌≡◌, ◌-◌, ◌+◌, ◌++◌, ◌∷◌, ◌∙◌, [], suc, ap, arith, sym}
use Rattle.std.proofs.lemmas.List.{map-append}
use Rattle.serde_json.specs.View.{view}
use Rattle.oer_model.specs.Limits.{max_depth}
use Rattle.oer_values.specs.ShapeView.{type_of}
use Rattle.oer_json_places.specs.Place.{down}
use Rattle.oer_json_places.specs.Views.{hop_of, hops_of, next_of, wrong_of}
use Rattle.oer_json_places.proofs.Going.{begins, ended, of_next, stopped, went}
use Rattle.oer_json_places.proofs.place.innermost.Goals as goal

pub loop-level-init : goal.loop-level-init
loop-level-init c = record {
  same = rw c.new-path.ensures.items (begins (down max_depth c.args.fault (type_of c.args.shape.now)
      (view c.args.json.now)));
  well = c.requires;
}

pub returns-in-Stop : goal.returns-in-Stop
returns-in-Stop c =
    let l = c.loop-level in
    let left : max_depth - l._level ≡ suc (max_depth - (l._level + 1)) = omega arith in
    stopped _ (hops_of l.path.items) (max_depth - l._level) (max_depth - (l._level + 1)) c.args.fault (type_of l.shape.now)
    (view l.json.now) left l.invariant.same
    (wrong_of c.in-Stop.trouble) (sym c.in_ok-part.ensures ∙ ap next_of c.in-Stop.is)

pub loop-level-preserved : goal.loop-level-preserved
loop-level-preserved c =
    let l = c.loop-level in
    let p = c.in-Into.part in
    let left : max_depth - l._level ≡ suc (max_depth - (l._level + 1)) = omega arith in
    let n = sym c.in_ok-part.ensures ∙ ap next_of c.in-Into.is in
    let same = went _ (hops_of l.path.items) (max_depth - l._level) (max_depth - (l._level + 1)) c.args.fault (type_of l.shape.now)
    (view l.json.now) left l.invariant.same
    (hop_of p.step) (type_of p.shape.now) (view p.json.now) n in
    let pushed : hops_of c.push.new.self.items ≡ hops_of l.path.items ++ hop_of p.step ∷ [] =
    ap hops_of c.in_ok-push-in-Into.ensures.items ∙ map-append hop_of l.path.items (p.step ∷ []) in
    record {
      same = rw pushed same;
      well = of_next c.args.fault (type_of l.shape.now) (view l.json.now) (hop_of p.step) (type_of p.shape.now)
          (view p.json.now) l.invariant.well n;
    }

pub returns : goal.returns
returns c =
    let l = c.loop-level in
    let over : max_depth - l._level ≡ 0 = omega arith in
    ended _ (hops_of l.path.items) (max_depth - l._level) c.args.fault (type_of l.shape.now) (view l.json.now) over l.invariant.same
