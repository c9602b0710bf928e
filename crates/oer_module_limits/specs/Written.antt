-- All constraints of a type, as they are written (X.680, 49.6 and 16.2).
use Rattle.std.specs.Prelude.{ℕ, List, [], ◌∷◌, ◌++◌, Bool, true, false, not, ◌&&◌, ◌||◌, Some, Ok, codes}
use Rattle.std.specs.Str.{bytes_eq}
use Rattle.oer_module_lexer.specs.Token.{Token, Spot, word, number, sign}
use Rattle.oer_module_lexer.specs.declared.token.Sign.TheVariants.{OpenBrace}
use Rattle.oer_module_syntax.specs.Modules.{none_left}
use Rattle.oer_module_syntax.specs.State.{is_sign}
use Rattle.oer_module_terms.specs.Trees.{Constraint}
use Rattle.oer_module_values.specs.Types.{Given, constraints, set}
use Rattle.oer_module_limits.specs.Errors.{Read, ◌>>=◌}
use Rattle.oer_module_limits.specs.Sets.{added, joined, row_read}

-- the constraints of a type in a module, and what is given on the way to it, the nearest last
pub record Written : Type 0 where
  pub «module» : ℕ
  pub own : List Spot
  pub given : List Given

abbrev pub written : ℕ → List Spot → List Given → Written
written m ts gs = record { «module» = m; own = ts; given = gs }

-- ---- ranges of numbers, and SIZE with such, are known by their tokens

abbrev pub is_plain : Token → Bool
is_plain (number w) = true
is_plain (sign s) = not (is_sign OpenBrace (Some (sign s)))
is_plain (word w) = bytes_eq w (codes "SIZE") || bytes_eq w (codes "MIN") || bytes_eq w (codes "MAX")
is_plain _ = false

abbrev pub all_plain : List Spot → Bool
all_plain [] = true
all_plain (t ∷ ts) = is_plain t.token && all_plain ts

abbrev pub given_plain : Given → Bool
given_plain (constraints m ts) = all_plain ts
given_plain (set m ts) = false

abbrev pub all_given_plain : List Given → Bool
all_given_plain [] = true
all_given_plain (g ∷ gs) = given_plain g && all_given_plain gs

abbrev pub are_plain : Written → Bool
are_plain w = all_plain w.own && all_given_plain w.given

-- ---- no constraints at all

abbrev pub given_none : Given → Bool
given_none (constraints m ts) = none_left ts
given_none (set m ts) = false

abbrev pub all_given_none : List Given → Bool
all_given_none [] = true
all_given_none (g ∷ gs) = given_none g && all_given_none gs

abbrev pub are_none : Written → Bool
are_none w = none_left w.own && all_given_none w.given

-- ---- as trees

abbrev pub is_set : Given → Bool
is_set (constraints m ts) = false
is_set (set m ts) = true

abbrev pub has_set : List Given → Bool
has_set [] = false
has_set (g ∷ gs) = is_set g || has_set gs

abbrev pub given_read : Given → Read (List Constraint)
given_read (constraints m ts) = row_read m ts
given_read (set m ts) = Ok []

abbrev pub given_constraints : List Given → Read (List Constraint)
given_constraints gs = joined given_read gs

-- all of them, the nearest last
unfoldable pub constraints_in : Written → Read (List Constraint)
constraints_in w = row_read w.«module» w.own >>= λ first. added first (given_constraints w.given)
