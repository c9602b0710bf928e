use Rattle.std.proofs.Common.{◌≡◌, ◌∷◌, ◌++◌, None, ◌∙◌, arith}
use Rattle.std.proofs.lemmas.Result.{err_from_is_err_and}
use Rattle.std.proofs.lemmas.Str.Pattern.{split_parts}
use Rattle.oer_json.proofs.PointSteps.{HasNoPoint, number_ends, number_fails, number_goes_on, number_stops, split_some, utf8_after}
use Rattle.oer_json.proofs.Taking.{stopped}
use Rattle.oer_json.proofs.dotted.numbers_in.Goals as goal

pub split_once-requires-text-self : goal.split_once-requires-text-self
split_once-requires-text-self c = λ lifetimes. c.parts.invariant.utf8

pub number_in-requires-2-text-digits : goal.number_in-requires-2-text-digits
number_in-requires-2-text-digits c = λ lifetimes. c.parts.invariant.utf8

pub returns-in_err-number : goal.returns-in_err-number
returns-in_err-number c =
    let l = c.parts in
    let part = c.in-Some.part.now in
    let after = c.in-Some.after.now in
    let p : (l.rest.now ≡ part ++ 46 ∷ after) × HasNoPoint part = split_some l.rest.now c.split_once.result _ c.split_once.ensures.cases c.in-Some.is in
    let q = err_from_is_err_and c.from_residual.result c.from_residual.ensures.1 in
    rw (q.1, q.2) (λ not_memory. l.invariant.is ∙ stopped _ _ _ (number_stops l.rest.now part after _ p.0 p.1 (c.in_err-number.ensures not_memory)))

pub parts-preserved : goal.parts-preserved
parts-preserved c =
    let l = c.parts in
    let part = c.in-Some.part.now in
    let after = c.in-Some.after.now in
    let p : (l.rest.now ≡ part ++ 46 ∷ after) × HasNoPoint part = split_some l.rest.now c.split_once.result _ c.split_once.ensures.cases c.in-Some.is in
    record {
      is = l.invariant.is ∙ number_goes_on l.rest.now part after l.numbers.items c.push.new.self.items c.in_ok-number.number p.0 p.1 c.in_ok-number.ensures c.in_ok-push.ensures.items;
      utf8 = utf8_after l.rest.now part after p.0 l.invariant.utf8;
    }

pub returns-in_err-number-2 : goal.returns-in_err-number-2
returns-in_err-number-2 c =
    let l = c.parts in
    let none : HasNoPoint l.rest.now = split_parts 46 l.rest.now None c.in_default.ensures.cases (omega arith) in
    let q = err_from_is_err_and c.from_residual-in_err-number-2.result c.from_residual-in_err-number-2.ensures.1 in
    rw (q.1, q.2) (λ not_memory. l.invariant.is ∙ stopped _ _ _ (number_fails l.rest.now _ none (c.in_err-number-2.ensures not_memory)))

pub returns : goal.returns
returns c =
    let l = c.parts in
    let none : HasNoPoint l.rest.now = split_parts 46 l.rest.now None c.in_default.ensures.cases (omega arith) in
    l.invariant.is ∙ number_ends l.rest.now l.numbers.items c.push-2.new.self.items c.in_ok-number-2.number none c.in_ok-number-2.ensures c.in_ok-push-2.ensures.items
