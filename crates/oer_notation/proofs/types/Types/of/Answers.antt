use Rattle.std.proofs.Common.{◌≡◌, List, [], ◌∷◌, refl, sym, ap, map, ◌∙◌}
use Rattle.std.proofs.lemmas.Iterator.Adapters.{YieldsList-from_vec}
use Rattle.std.proofs.lemmas.Iterator.Consumers.{YieldsList-end}
use Rattle.oer_notation.specs.Defining.{known_of}
use Rattle.oer_notation.specs.Reading.{find}
use Rattle.oer_notation.specs.Views.{known_by}
use Rattle.oer_notation.proofs.Defining.{defined_more}
use Rattle.oer_notation.proofs.types.Types.of.Goals as goal

pub loop-definition-preserved : goal.loop-definition-preserved
loop-definition-preserved c =
    let l = c.loop-definition in
    record {
      same = defined_more (known_by l.known) _ l.yielded c.in-Some.definition l.invariant.same c.in_ok-define.ensures.known;
      whole = c.in_ok-define.ensures.whole;
    }

all_yielded : {A : Type 0} (xs : List A) → map (λ x. x) xs ≡ xs
all_yielded [] = refl
all_yielded (x ∷ xs) = ap (λ ys. x ∷ ys) (all_yielded xs)

pub returns : goal.returns
returns c w =
    let l = c.loop-definition in
    let gives = c.into_iter-definition-iterator.ensures.into_iter_gives in
    let all = YieldsList-from_vec c.args.definitions.items gives.0 (gives.1 ∙ c.args.definitions.ok.0) in
    let e = YieldsList-end all l.yielded l.definition-iterator l.yielded_by c.next.result c.next.new.self c.in-None.is c.next.ensures.steps in
    l.invariant.same w ∙ ap (λ ds. find (map known_of ds) w) (sym (all_yielded l.yielded) ∙ e.0)
