-- What the next tokens are.
use Rattle.std.specs.Prelude.{List, Bool, true, false, not, ◌&&◌, ◌||◌, Option, Some, ℕ}
use Rattle.oer_module_lexer.specs.Token.{Token, word, field}
use Rattle.oer_module_lexer.specs.declared.token.Sign.TheVariants.{Less, Point}
use Rattle.oer_module_syntax.specs.State.{State, first, bump, at_sign, at_keyword}
use Rattle.oer_module_syntax.specs.Words.{is_identifier, is_reference}
use Rattle.oer_module_syntax.specs.declared.word.Keyword.TheVariants as kw

abbrev pub is_small : Option Token → Bool
is_small (Some (word w)) = is_identifier w
is_small _ = false

abbrev pub is_field : Option Token → Bool
is_field (Some (field w)) = true
is_field _ = false

-- behind the next token, which is a name: a point and a name that begins with a small letter
abbrev pub at_small_step : State → Bool
at_small_step s = at_sign Point (bump s) && is_small (first (bump (bump s)))

-- behind the next token: a point and a field
abbrev pub at_field_step : State → Bool
at_field_step s = at_sign Point (bump s) && is_field (first (bump (bump s)))

-- A name of a value begins with a small letter, or is one in a module (14.1).
abbrev pub names_value : List ℕ → State → Bool
names_value w s = is_identifier w || is_reference w && at_small_step s

-- behind a name that begins with a small letter, which begins a type: it is of an alternative (30.1), or of an object and
-- its field (X.681, 15.1)
abbrev pub begins_type : State → Bool
begins_type s = at_sign Less (bump s) || at_field_step s

-- the words ANY DEFINED BY (X.208, 28)
abbrev pub at_any_defined : State → Bool
at_any_defined s = at_keyword kw.Any s && at_keyword kw.Defined (bump s) && at_keyword kw.By (bump (bump s))
