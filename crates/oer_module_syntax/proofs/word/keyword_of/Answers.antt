use Rattle.std.proofs.Common.{◌∙◌, ap}
use Rattle.oer_module_syntax.specs.Words.{keyword_among, keyword_of}
use Rattle.oer_module_syntax.proofs.word.keyword_of.Goals as goal

pub returns : goal.returns
unfolding keyword_of
returns c = c.keyword_among.ensures ∙ ap (keyword_among c.args.word.now) c.as_slice.ensures
