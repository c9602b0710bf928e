-- What the next tokens are.
use Rattle.std.specs.Prelude.{ℕ, suc, List, [], ◌∷◌, length, Bool, false, not, ◌&&◌, ◌||◌, Option, Some, is_some, codes, if◌then◌else◌}
use Rattle.std.specs.Str.{bytes_eq}
use Rattle.oer_module_lexer.specs.Token.{Token, word, Spot}
use Rattle.oer_module_lexer.specs.declared.token.Sign.{Sign}
use Rattle.oer_module_lexer.specs.declared.token.Sign.TheVariants.{OpenParenthesis, Comma}
use Rattle.oer_module_syntax.specs.Modules.{many}
use Rattle.oer_module_syntax.specs.Looks.{at_small_step, is_small}
use Rattle.oer_module_syntax.specs.Ranges.{group_at}
use Rattle.oer_module_syntax.specs.State.{State, Read, ◌>>=◌, first, bump, expected, at_sign}
use Rattle.oer_module_syntax.specs.Words.{is_reference, builtin_of}
use Rattle.oer_module_syntax.specs.declared.fault.Sought.TheVariants as sought

-- one, and more behind it, up to where they are done
abbrev pub series : {A : Type 0} → (State → Bool) → (State → Read A) → (State → Read A) → State → Read (List A)
series done one more s = one s >>= λ x. many done more (suc (length x.1.left)) (x.0 ∷ []) x.1

abbrev pub no_comma : State → Bool
no_comma s = not (at_sign Comma s)

-- past the next token, if it is this sign
abbrev pub past_sign : Sign → State → State
past_sign g s = if at_sign g s then bump s else s

-- a name that begins with a small letter, and an opening parenthesis
abbrev pub at_numbered : State → Bool
at_numbered s = is_small (first s) && at_sign OpenParenthesis (bump s)

-- The names that aren't reserved are those of types and sets, where they aren't those of values.
abbrev pub names_type : List ℕ → State → Bool
names_type w s = is_reference w && not (at_small_step s)

-- the word that is a type and a value
abbrev pub is_null : List ℕ → Bool
is_null w = bytes_eq w (codes "NULL")

abbrev pub is_type : Option Token → State → Bool
is_type (Some (word w)) s = names_type w s || is_some (builtin_of w) && not (is_null w)
is_type _ s = false

-- a type is next, and no value
abbrev pub at_type : State → Bool
at_type s = is_type (first s) s

-- what stands between a sign and the one that closes, with both
abbrev pub taken_at : Sign → State → Read (List Spot)
taken_at g s = if at_sign g s then group_at g s else expected (sought.Sign g) s
