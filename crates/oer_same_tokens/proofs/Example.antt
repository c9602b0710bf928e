-- The example.
use Rattle.std.specs.Prelude.{◌≡◌, length}
use Rattle.std.proofs.Common.{ℕ, ap, refl}
use Rattle.oer_lexer.specs.Lexing as own
use Rattle.oer_module_lexer.specs.Lexing as modules
use Rattle.oer_module_lexer.specs.Token.{Token}
use Rattle.oer_same_tokens.specs.Example.{ReadsExamples, IsReadAlike, a_definition, odd_space, pair}

-- to unfold this is to unfold both lexers
both : Type 0
unfolding own.lex_from own.front_at own.step_at own.word_len own.number_len own.digits_len own.line_len own.sign_at
both = Unit {0}

of_modules : Type 0
unfolding modules.lex_from modules.front_at modules.step_at modules.token_step modules.single modules.run_len modules.line_len
of_modules = Unit {0}

definition : IsReadAlike a_definition
unfolding both of_modules
definition = refl

space : ¬ IsReadAlike odd_space
unfolding both of_modules
space h = let fewer : ◌≡◌ {A = ℕ} 1 0 = ap (λ ts. length {A = Token} ts) h in absurd (cc)

brackets : ¬ IsReadAlike pair
unfolding both of_modules
brackets h = let fewer : ◌≡◌ {A = ℕ} 1 2 = ap (λ ts. length {A = Token} ts) h in absurd (cc)

pub examples : ReadsExamples
examples = record { definition = definition; space = space; brackets = brackets }
