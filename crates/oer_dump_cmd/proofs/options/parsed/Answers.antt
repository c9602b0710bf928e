use Rattle.std.proofs.Common.{◌≡◌, ◌∙◌, List, Some, IfSome, map, string_bytes, ap, subst, sym, codes}
use Rattle.std.specs.Str.Parse.{ParsesUnsigned, ExplainsUnsignedError, HasUnsignedDigitsIfOk}
use Rattle.clap.specs.Words.{HasKind, Text, fault_of, found_of, is_simple, is_simple_and_free, matches_of, one_text, rows_of, takes}
use Rattle.oer_options.specs.Words.{NumberOf}
use Rattle.oer_dump_cmd.specs.Words.{IsForm, IsWidth, given_number, oer_dump}
use Rattle.oer_dump_cmd.specs.declared.options.Form.{Form}
use Rattle.oer_dump_cmd.proofs.Asked.{array_given, given_is, lines_given, number_given, number_is, simple, simple_and_free}
use Rattle.oer_dump_cmd.proofs.options.parsed.Goals as goal
use Rattle.oer_dump_cmd.proofs.options.parsed.Goals.{then-get_flag, else-get_flag}

pub returns-clause-ok : goal.returns-clause-ok
returns-clause-ok c =
    let shape = c.in_ok-command.ensures in
    let words : List Text = map string_bytes c.args.words.now in
    let is : rows_of (found_of c.in-Ok.found) ≡ matches_of oer_dump words = (c.in-Ok.ensures.matches (ap is_simple shape.app ∙ simple)).0 ∙ ap (λ a. matches_of a words) shape.app in
    let limit_is = number_given words _ _ _ (λ bs r. ParsesUnsigned 64 10 bs r × ExplainsUnsignedError 10 bs r × HasUnsignedDigitsIfOk bs r) (λ t n g. g.0) (number_is words _ c.in-Ok.found is) c.get_one.ensures.none c.get_one.ensures.value in
    let asked : Form → Type 0 = IsForm (given_number words (codes "json")) (IsWidth c.args.width (given_number words (codes "width"))) in
    let flag : given_number words (codes "json") ≡ one_text (found_of c.in-Ok.found) (codes "json") = number_is words _ c.in-Ok.found is in
    record {
      type_text = given_is words _ c.in-Ok.found _ is c.get_str.ensures;
      types = given_is words _ c.in-Ok.found _ is c.get_str-2.ensures;
      name = given_is words _ c.in-Ok.found _ is c.get_str-3.ensures;
      hex = given_is words _ c.in-Ok.found _ is c.get_str-4.ensures;
      limit = subst (λ r. IfSome r (λ n. (text : Text) × (given_number words (codes "limit") ≡ Some text) × NumberOf text n)) c.in-Some.is limit_is;
      form = elim c.if-get_flag.branch [
        | then-get_flag w ↦ subst asked (sym w.form-is) (array_given _ _ _ flag c.get_flag.ensures.none c.get_flag.ensures.other w.if-get_flag.true)
        | else-get_flag w ↦
            subst asked (sym w.form-is) (
              lines_given _ _ _ flag c.get_flag.ensures.value w.if-get_flag.false,
              subst (λ t. IsWidth c.args.width t w.width_of.result) (sym (number_is words _ c.in-Ok.found is)) w.width_of.ensures,
            )
      ];
    }

pub returns-in-Err-clause-err : goal.returns-in-Err-clause-err
returns-in-Err-clause-err c = λ e.
    let words : List Text = map string_bytes c.args.words.now in
    c.in-Err.ensures.passes (ap (λ a. takes a words) c.in_ok-command.ensures.app ∙ e)

pub returns-in-Err-clause-kinds : goal.returns-in-Err-clause-kinds
returns-in-Err-clause-kinds c =
    let words : List Text = map string_bytes c.args.words.now in
    let app = c.in_ok-command.ensures.app in
    subst (λ a. HasKind (fault_of a words) c.in-Err.error) app (c.in-Err.ensures.kinds (ap is_simple_and_free app ∙ simple_and_free))
