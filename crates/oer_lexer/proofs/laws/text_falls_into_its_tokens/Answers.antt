use Rattle.oer_lexer.proofs.LexSound.{lexed_falls}
use Rattle.oer_lexer.proofs.laws.text_falls_into_its_tokens.Goals as goal

pub returns : goal.returns
returns c = λ bs h. lexed_falls bs h
