use Rattle.std.proofs.Common.{None, arith, refl}
use Rattle.std.proofs.lemmas.Str.Pattern.{split_parts}
use Rattle.oer_json.specs.Take.{dotted_in}
use Rattle.oer_json.proofs.PointSteps.{has_one, two_of}
use Rattle.oer_json.proofs.dotted.dotted_in.Goals as goal

pub returns-in-None : goal.returns-in-None
unfolding dotted_in
returns-in-None c = λ not_memory. rw (has_one c.args.text.now (split_parts 46 c.args.text.now None c.in-None.ensures.cases (omega arith))) refl

pub returns-in-Some : goal.returns-in-Some
unfolding dotted_in
returns-in-Some c = rw (two_of c.args.text.now c.split_once.result _ c.split_once.ensures.cases c.in-Some.is) c.several_in.ensures
