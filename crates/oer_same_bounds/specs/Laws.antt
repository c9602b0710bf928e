-- Laws of bounds that modules and the notation of types have alike.
use Rattle.std.specs.Prelude.{◌≡◌, ℕ, ℤ, List, true, Option}
use Rattle.oer_lexer.specs.Token.{Token}
use Rattle.oer_model.specs.declared.size.Size.{Size}
use Rattle.oer_module_lexer.specs.Token.{Spot}
use Rattle.oer_module_limits.specs.Limits.{integer_range, size_range}
use Rattle.oer_module_limits.specs.Sets.{has_size}
use Rattle.oer_module_limits.specs.Written.{all_given_none}
use Rattle.oer_module_names.specs.declared.error.Place.{Place}
use Rattle.oer_module_syntax.specs.Tree.{Module}
use Rattle.oer_module_syntax.specs.declared.word.Builtin.{Builtin}
use Rattle.oer_module_syntax.specs.declared.word.Builtin.TheVariants.{Integer}
use Rattle.oer_module_values.specs.Types.{Given}
use Rattle.oer_notation.specs.Grammar.{AreBounds, IsBracketedSize}
use Rattle.oer_same_tokens.specs.Same.{AreSame}
use Rattle.oer_same_bounds.specs.Bounds.{standing, plain_with, ReadsRange, ReadsSize}

-- The laws speak of a type that is written so, or for which names stand, with no constraint given on the way.

-- An INTEGER of modules with bounds as the notation has them has the range that they are there, or is rejected for them.
abbrev pub SameRange : Type 0
SameRange = (ms : List Module) (m at : ℕ) (p : Place) (gs : List Given) (low high : Option ℤ) (ts : List Token) (cs : List Spot)
    → all_given_none gs ≡ true → AreBounds low high ts → AreSame cs ts
    → ReadsRange low high (integer_range ms p (standing m (plain_with Integer at cs) gs))

-- A string of modules with a size as the notation has it has that size, or is rejected for it.
abbrev pub SameSizes : Type 0
SameSizes = (ms : List Module) (m at : ℕ) (p : Place) (gs : List Given) (b : Builtin) (size : Size) (ts : List Token) (cs : List Spot)
    → all_given_none gs ≡ true → IsBracketedSize size ts → AreSame cs ts → has_size b ≡ true
    → ReadsSize size (size_range ms p (standing m (plain_with b at cs) gs))
