use Rattle.std.proofs.Common.{◌∙◌, ap}
use Rattle.oer_module_syntax.specs.Words.{builtin_among, builtin_of}
use Rattle.oer_module_syntax.proofs.word.builtin_of.Goals as goal

pub returns : goal.returns
unfolding builtin_of
returns c = c.builtin_among.ensures ∙ ap (builtin_among c.args.word.now) c.as_slice.ensures
