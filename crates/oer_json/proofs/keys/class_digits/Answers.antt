use Rattle.std.proofs.Common.{None, sym, arith}
use Rattle.std.proofs.lemmas.Str.Pattern.{strip_prefix_char}
use Rattle.oer_json.proofs.KeySteps.{no_class}
use Rattle.oer_json.proofs.keys.class_digits.Goals as goal

pub returns-in-None : goal.returns-in-None
returns-in-None c =
    let t = c.args.text.now in
    sym (no_class t (strip_prefix_char 117 t None c.in_default.ensures.cases (omega arith)) (strip_prefix_char 97 t None c.in_default-strip_prefix.ensures.cases (omega arith))
    (strip_prefix_char 99 t None c.in_default-strip_prefix-2.ensures.cases (omega arith)) (strip_prefix_char 112 t None c.in-None.ensures.cases (omega arith)))
