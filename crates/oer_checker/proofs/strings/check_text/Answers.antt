use Rattle.oer_checker.proofs.Exits.{at_stop}
use Rattle.std.proofs.Common.{sym}
use Rattle.oer_model.specs.Constraints.{all_characters, fixed}
use Rattle.oer_values.specs.AlphabetView.{alphabet_of}
use Rattle.oer_checker.proofs.StringSteps.{text_got, text_out, text_stop}
use Rattle.oer_checker.proofs.strings.check_text.Goals as goal

pub returns-in_err-group : goal.returns-in_err-group
returns-in_err-group c = rw (at_stop c.from_residual.result c.in_err-group.field-0.0 c.from_residual.ensures.1) (text_stop (all_characters (alphabet_of c.args.kind)) (fixed c.args.size.now) c.args.size.now _ _ _ c.in_err-group.ensures)

pub returns-then-not-are_characters : goal.returns-then-not-are_characters
returns-then-not-are_characters c = text_out (all_characters (alphabet_of c.args.kind)) (fixed c.args.size.now) c.args.size.now _ _ c.in_ok-group.group.octets.now c.in_ok-group.group.is_least c.in_ok-group.ensures (sym c.if-not-are_characters.ensures)

pub returns : goal.returns
returns c = text_got (all_characters (alphabet_of c.args.kind)) (fixed c.args.size.now) c.args.size.now _ _ c.in_ok-group.group.octets.now c.in_ok-group.group.is_least c.in_ok-group.ensures (sym c.if-not-are_characters.ensures)
