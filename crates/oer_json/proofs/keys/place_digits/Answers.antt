use Rattle.std.proofs.Common.{None, sym, arith}
use Rattle.std.proofs.lemmas.Str.Pattern.{strip_prefix_char}
use Rattle.oer_json.proofs.KeySteps.{no_place}
use Rattle.oer_json.proofs.keys.place_digits.Goals as goal

pub returns-in-None : goal.returns-in-None
returns-in-None c = sym (no_place c.args.key.now (strip_prefix_char 35 c.args.key.now None c.in-None.ensures.cases (omega arith)))
