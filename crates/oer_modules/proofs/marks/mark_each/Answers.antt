use Rattle.std.proofs.Common.{◌+◌, ap, length, map, subst, sym, ◌∙◌}
use Rattle.std.proofs.lemmas.List.{length_push}
use Rattle.oer_modules.proofs.Strides.{marked_step}
use Rattle.oer_modules.specs.Marks.{AreMarked}
use Rattle.oer_modules.proofs.marks.mark_each.Goals as goal

pub loop-text-preserved : goal.loop-text-preserved
loop-text-preserved c =
    let l = c.loop-text in
    let more = c.in_ok-push.ensures.items in
    record {
      marked = subst (AreMarked (map (λ t. t.now) c.args.texts.now)) (sym more)
          (marked_step c.args.texts.now l.found.items c.in_ok-marks.marks l.text-index _ l.invariant.marked l.invariant.count c.loop-text-test.true c.in_ok-marks.ensures);
      count = ap length more ∙ length_push l.found.items c.in_ok-marks.marks ∙ ap (λ n. n + 1) l.invariant.count;
    }
