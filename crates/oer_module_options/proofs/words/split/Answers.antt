use Rattle.std.proofs.Common.{◌≡◌, ◌∷◌, ◌++◌, None, ap, sym, ◌∙◌, arith}
use Rattle.std.proofs.lemmas.Str.Pattern.{split_parts}
use Rattle.oer_module_options.specs.Words.{name_in, value_in}
use Rattle.oer_module_options.proofs.Splitting.{HasNone, cut, name_alone, name_before, value_alone, value_behind}
use Rattle.oer_module_options.proofs.words.split.Goals as goal

pub returns-in-Some-clause-name : goal.returns-in-Some-clause-name
returns-in-Some-clause-name c =
    let p : (c.args.word.now ≡ c.in-Some.name.now ++ 61 ∷ c.in-Some.value.now) × HasNone c.in-Some.name.now = cut c.args.word.now c.split_once.result _ c.split_once.ensures.cases c.in-Some.is in
    sym (ap name_in p.0 ∙ name_before c.in-Some.name.now c.in-Some.value.now p.1)

pub returns-in-Some-clause-value : goal.returns-in-Some-clause-value
returns-in-Some-clause-value c =
    let p : (c.args.word.now ≡ c.in-Some.name.now ++ 61 ∷ c.in-Some.value.now) × HasNone c.in-Some.name.now = cut c.args.word.now c.split_once.result _ c.split_once.ensures.cases c.in-Some.is in
    sym (ap value_in p.0 ∙ value_behind c.in-Some.name.now c.in-Some.value.now p.1)

pub returns-in-None-clause-name : goal.returns-in-None-clause-name
returns-in-None-clause-name c =
    let none : HasNone c.args.word.now = split_parts 61 c.args.word.now None c.in-None.ensures.cases (omega arith) in
    sym (name_alone c.args.word.now none)

pub returns-in-None-clause-value : goal.returns-in-None-clause-value
returns-in-None-clause-value c =
    let none : HasNone c.args.word.now = split_parts 61 c.args.word.now None c.in-None.ensures.cases (omega arith) in
    sym (value_alone c.args.word.now none)
