use Rattle.std.proofs.Common.{◌∙◌, ap}
use Rattle.std.proofs.lemmas.Result.{IfOk-weaker}
use Rattle.oer_options.specs.Words.{behind, texts_of}
use Rattle.oer_explain_cmd.specs.Adding.{items_behind}
use Rattle.oer_explain_cmd.proofs.Founds.{by_held, by_one, by_option}
use Rattle.oer_explain_cmd.proofs.found.found_by.Goals as goal

pub returns-in-Some-None-None : goal.returns-in-Some-None-None
returns-in-Some-None-None c =
    let t = texts_of c.args.options in
    let a = c.in-Some-None-None in
    IfOk-weaker c.one_found.result _ _
    (λ f h. h ∙ by_one t.one t.types t.name (items_behind c.args.held) a.text.now (ap behind a.is-0) (ap behind a.is-1) (ap behind a.is-2))
    c.one_found.ensures

pub returns-in-Some : goal.returns-in-Some
returns-in-Some c =
    let t = texts_of c.args.options in
    let a = c.in-None-Some-Some in
    IfOk-weaker c.types_found.result _ _
    (λ f h. h ∙ by_held t.one t.types t.name (items_behind c.args.held) a.types.now a.name.now
    c.in-Some.text.now (ap behind a.is-0) (ap behind a.is-1) (ap behind a.is-2) (ap items_behind c.in-Some.is))
    c.types_found.ensures

pub returns-in-None : goal.returns-in-None
returns-in-None c =
    let t = texts_of c.args.options in
    let a = c.in-None-Some-Some in
    let found = rw c.as_bytes.ensures.value at c.types_found-in-None.ensures in
    IfOk-weaker c.types_found-in-None.result _ _
    (λ f h. h ∙ by_option t.one t.types t.name (items_behind c.args.held) a.types.now a.name.now
    (ap behind a.is-0) (ap behind a.is-1) (ap behind a.is-2) (ap items_behind c.in-None.is))
    found
