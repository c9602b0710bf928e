-- Reading actual parameters (X.683, 9.5): each as its tokens, and what is left, or the first fault.
use Rattle.std.specs.Prelude.{List, Bool, ◌||◌, Ok, if◌then◌else◌}
use Rattle.oer_module_lexer.specs.Token.{Spot}
use Rattle.oer_module_lexer.specs.declared.token.Sign.TheVariants.{OpenBrace, CloseBrace}
use Rattle.oer_module_syntax.specs.Modules.{none_left}
use Rattle.oer_module_syntax.specs.Ranges.{ends_span, span_at}
use Rattle.oer_module_syntax.specs.State.{State, Read, ◌>>=◌, expected, bump, skip_sign}
use Rattle.oer_module_syntax.specs.declared.fault.Sought.TheVariants as sought
use Rattle.oer_module_terms.specs.Looks.{series, no_comma}

-- nothing stands before the next comma or closing sign
abbrev pub at_end : State → Bool
at_end s = none_left s.left || ends_span s.left

-- a type, a value or a set, as its tokens
unfoldable pub parameter_at : State → Read (List Spot)
parameter_at s = if at_end s then expected sought.Type s else span_at s

-- in braces, joined by commas
unfoldable pub parameters_at : State → Read (List (List Spot))
parameters_at s = do
  begun ← skip_sign OpenBrace s
  found ← series no_comma parameter_at (λ r. parameter_at (bump r)) begun.1
  ended ← skip_sign CloseBrace found.1
  Ok (found.0, ended.1)
