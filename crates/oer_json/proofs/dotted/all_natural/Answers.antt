use Rattle.std.proofs.Common.{◌≡◌, ◌∷◌, ◌++◌, None, sym, ap, ◌∙◌, arith}
use Rattle.std.proofs.lemmas.Str.Pattern.{split_parts}
use Rattle.oer_json.specs.Texts.{is_natural}
use Rattle.oer_json.proofs.PointSteps.{HasNoPoint, natural_ends, natural_fails, natural_goes_on, split_some, utf8_after}
use Rattle.oer_json.proofs.dotted.all_natural.Goals as goal

pub split_once-requires-text-self : goal.split_once-requires-text-self
split_once-requires-text-self c = λ lifetimes. c.parts.invariant.utf8

pub as_bytes-requires-2-text-self : goal.as_bytes-requires-2-text-self
as_bytes-requires-2-text-self c = λ lifetimes. c.parts.invariant.utf8

pub returns-then-not-is_natural : goal.returns-then-not-is_natural
returns-then-not-is_natural c =
    let l = c.parts in
    let part = c.in-Some.part.now in
    let after = c.in-Some.after.now in
    let p : (l.rest.now ≡ part ++ 46 ∷ after) × HasNoPoint part = split_some l.rest.now c.split_once.result _ c.split_once.ensures.cases c.in-Some.is in
    sym (l.invariant.is ∙ natural_fails l.rest.now part after p.0 p.1 (ap is_natural (sym c.as_bytes.ensures.value) ∙ sym c.is_natural.ensures ∙ c.if-not-is_natural.true))

pub parts-preserved : goal.parts-preserved
parts-preserved c =
    let l = c.parts in
    let part = c.in-Some.part.now in
    let after = c.in-Some.after.now in
    let p : (l.rest.now ≡ part ++ 46 ∷ after) × HasNoPoint part = split_some l.rest.now c.split_once.result _ c.split_once.ensures.cases c.in-Some.is in
    record {
      is = l.invariant.is ∙ natural_goes_on l.rest.now part after p.0 p.1 (ap is_natural (sym c.as_bytes.ensures.value) ∙ sym c.is_natural.ensures ∙ c.if-not-is_natural.false);
      utf8 = utf8_after l.rest.now part after p.0 l.invariant.utf8;
    }

pub returns : goal.returns
returns c =
    let l = c.parts in
    let none : HasNoPoint l.rest.now = split_parts 46 l.rest.now None c.in_default.ensures.cases (omega arith) in
    c.is_natural-2.ensures ∙ ap is_natural c.as_bytes-2.ensures.value ∙ sym (l.invariant.is ∙ natural_ends l.rest.now none)
