use Rattle.oer_words.proofs.Stripping.{stripped}
use Rattle.oer_words.proofs.scan.value_behind.Goals as goal

pub returns : goal.returns
returns c = stripped c.args.word.now c.args.front.now c.strip_prefix.result c.strip_prefix.ensures.cases
