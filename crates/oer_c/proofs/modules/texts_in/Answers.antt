use Rattle.std.proofs.Common.{◌≡◌, ◌++◌, ◌∷◌, [], inr, sym, ap, ◌∙◌, arith}
use Rattle.std.proofs.lemmas.Grind.{common_steps}
use Rattle.std.proofs.lemmas.List.{take_all}
use Rattle.std.proofs.lemmas.List.Elements.{All-more, All-same}
use Rattle.std.proofs.lemmas.Option.{slice_get-get_or}
use Rattle.oer_c.specs.Modules.{IsText, texts_of}
use Rattle.oer_c.proofs.Stopping.{now_of, texts_more}
use Rattle.oer_c.proofs.modules.texts_in.Goals as goal

pub returns-in-Err-clause-stopped : goal.returns-in-Err-clause-stopped
returns-in-Err-clause-stopped c =
    let l = c.loop-number in
    inr (l.number, _, l.invariant.within, slice_get-get_or c.args.places.now l.number _ c.loop-number-test.true, c.in-Err.ensures.stopped)

pub loop-number-preserved : goal.loop-number-preserved
loop-number-preserved c =
    let l = c.loop-number in
    let pushed : c.push.new.self.items ≡ l.found.items ++ c.in-Ok.text ∷ [] = grind (arith, common_steps) in
    record {
      texts = ap now_of pushed ∙ texts_more c.args.octets.now c.args.places.now l.number _ l.found.items c.in-Ok.text c.loop-number-test.true c.in-Ok.ensures.same l.invariant.texts;
      within = All-more (IsText c.args.octets.now) c.args.places.now l.number _ c.loop-number-test.true l.invariant.within c.in-Ok.ensures.is;
    }

pub returns-clause-texts : goal.returns-clause-texts
returns-clause-texts c =
    let l = c.loop-number in
    l.invariant.texts ∙ ap (texts_of c.args.octets.now) (take_all l.number c.args.places.now c.loop-number-test.false)

pub returns-clause-within : goal.returns-clause-within
returns-clause-within c =
    let l = c.loop-number in
    All-same (IsText c.args.octets.now) _ _ (sym (take_all l.number c.args.places.now c.loop-number-test.false)) l.invariant.within
