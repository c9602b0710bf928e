use Rattle.std.proofs.Common.{◌≡◌, ◌∙◌, List, Some, IfSome, map, string_bytes, ap, subst, sym, codes}
use Rattle.clap.specs.Words.{HasKind, fault_of, is_simple_and_free, takes, is_simple, subcommand_of, Text, rows_of, found_of}
use Rattle.oer_options.specs.Words.{NumberOf, oer, given_number}
use Rattle.std.specs.Str.Parse.{ParsesUnsigned, ExplainsUnsignedError, HasUnsignedDigitsIfOk}
use Rattle.oer_options.proofs.Asked.{simple, simple_and_free, met, given_is, number_read, read_is, task_is}
use Rattle.oer_options.proofs.options.parsed.Goals as goal

pub returns-clause-ok : goal.returns-clause-ok
returns-clause-ok c =
    let shape = c.in_ok-command.ensures in
    let words : List Text = map string_bytes c.args.words.now in
    let is : subcommand_of oer words ≡ Some (c.in-Some.name.now, rows_of (found_of c.in-Some.found.now)) =
    met oer _ words c.in-Ok.matches _ _ shape.app (c.in-Ok.ensures.matches (ap is_simple shape.app ∙ simple)).1 c.in-Some.ensures.name c.in-Some.ensures.rows in
    let limit_is = number_read _ _ (λ bs r. ParsesUnsigned 64 10 bs r × ExplainsUnsignedError 10 bs r × HasUnsignedDigitsIfOk bs r) (λ t n g. g.0) c.get_one.ensures.none c.get_one.ensures.value in
    let limit_given = subst (λ o. IfSome c.get_one.result (λ n. (text : Text) × (o ≡ Some text) × NumberOf text n)) (sym (read_is oer words _ _ c.in-Some.found.now is)) limit_is in
    record {
      task = task_is words _ c.in-Some.found.now _ is c.in-Some-task_of.ensures;
      type_text = given_is oer words _ _ c.in-Some.found.now _ is c.get_str.ensures;
      types = given_is oer words _ _ c.in-Some.found.now _ is c.get_str-2.ensures;
      name = given_is oer words _ _ c.in-Some.found.now _ is c.get_str-3.ensures;
      limit = subst (λ r. IfSome r (λ n. (text : Text) × (given_number words (codes "limit") ≡ Some text) × NumberOf text n)) c.in-Some-get_one.is limit_given;
    }

pub returns-in-Err-clause-err : goal.returns-in-Err-clause-err
returns-in-Err-clause-err c = λ e.
    let words : List Text = map string_bytes c.args.words.now in
    c.in-Err.ensures.passes (ap (λ a. takes a words) c.in_ok-command.ensures.app ∙ e)

pub returns-in-Err-clause-kinds : goal.returns-in-Err-clause-kinds
returns-in-Err-clause-kinds c =
    let words : List Text = map string_bytes c.args.words.now in
    let app = c.in_ok-command.ensures.app in
    subst (λ a. HasKind (fault_of a words) c.in-Err.error) app (c.in-Err.ensures.kinds (ap is_simple_and_free app ∙ simple_and_free))
