use Rattle.std.proofs.Common.{◌≡◌, ◌∙◌, List, Some, map, string_bytes, ap, subst}
use Rattle.clap.specs.Words.{HasKind, Text, fault_of, found_of, is_simple, is_simple_and_free, rows_of, subcommand_of, takes}
use Rattle.oer_options.proofs.Asked.{given_is, met}
use Rattle.oer_compare_cmd.specs.Words.{app}
use Rattle.oer_compare_cmd.proofs.asked.parsed.Goals as goal

pub returns-clause-ok : goal.returns-clause-ok
returns-clause-ok c =
    let shape = c.in_ok-command.ensures in
    let words : List Text = map string_bytes c.args.words.now in
    let found = c.in-Some.found in
    let is : subcommand_of app words ≡ Some (c.in-Some.name.now, rows_of (found_of found.now)) =
    met app _ words c.in-Ok.matches _ _ shape.app (c.in-Ok.ensures.matches (ap is_simple shape.app)).1 c.in-Some.ensures.name c.in-Some.ensures.rows in
    record {
      type_text = given_is app words _ _ found.now _ is c.get_str.ensures;
      types = given_is app words _ _ found.now _ is c.get_str-2.ensures;
      name = given_is app words _ _ found.now _ is c.get_str-3.ensures;
      with = given_is app words _ _ found.now _ is c.get_str-4.ensures;
      with_types = given_is app words _ _ found.now _ is c.get_str-5.ensures;
    }

pub returns-in-Err-clause-err : goal.returns-in-Err-clause-err
returns-in-Err-clause-err c = λ e.
    let words : List Text = map string_bytes c.args.words.now in
    c.in-Err.ensures.passes (ap (λ a. takes a words) c.in_ok-command.ensures.app ∙ e)

pub returns-in-Err-clause-kinds : goal.returns-in-Err-clause-kinds
returns-in-Err-clause-kinds c =
    let words : List Text = map string_bytes c.args.words.now in
    let shape = c.in_ok-command.ensures.app in
    subst (λ a. HasKind (fault_of a words) c.in-Err.error) shape (c.in-Err.ensures.kinds (ap is_simple_and_free shape))
