use Rattle.std.proofs.Common.{length, IsUtf8}
use Rattle.oer_module_lexer.specs.Token.{spots_of}
use Rattle.oer_module_lexer.specs.Lexing.{lex}
use Rattle.oer_module_lexer.proofs.Turns.{Keeps}
use Rattle.oer_module_lexer.proofs.lexing.lex.Given as goal

-- the tokens so far and those of the rest are all
abbrev pub invariant-tokens : goal.invariant-tokens
invariant-tokens l = record { keeps : Keeps (lex l.text) (spots_of l.spots.items) (length l.text) l.rest; utf8 : IsUtf8 l.rest }

abbrev pub decreases-tokens : goal.decreases-tokens
decreases-tokens l = length l.rest
