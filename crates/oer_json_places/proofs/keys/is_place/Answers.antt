use Rattle.std.proofs.Common.{None, arith, sym, ap, is_some}
use Rattle.std.proofs.lemmas.Str.Pattern.{strip_prefix_char}
use Rattle.oer_json.proofs.KeySteps.{no_place}
use Rattle.oer_json_places.proofs.keys.is_place.Goals as goal

pub returns-in-None : goal.returns-in-None
returns-in-None c = sym (ap is_some (no_place c.args.key.now (strip_prefix_char 35 c.args.key.now None c.in-None.ensures.cases
    (omega arith))))
