use Rattle.oer_lexer.proofs.LexComplete.{falls_lexed}
use Rattle.oer_lexer.proofs.laws.tokens_of_a_text_are_read.Goals as goal

pub returns : goal.returns
returns c = λ bs ts h. falls_lexed bs ts h
