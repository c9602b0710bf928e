-- The range of the numbers or sizes of a type of modules, whose constraint stands there as the notation of types has it.
use Rattle.std.specs.Prelude.{◌≡◌, ℕ, ℤ, pos, List, [], Bool, true, ◌||◌, Option, Some, None, Ok, Err, option_map}
use Rattle.oer_model.specs.declared.size.Size.{Size}
use Rattle.oer_module_bounds.specs.Sets.{Span, crossed, is_least, is_greatest}
use Rattle.oer_module_lexer.specs.Token.{Spot}
use Rattle.oer_module_limits.specs.Errors.{Read, Why, empty, too_large}
use Rattle.oer_module_syntax.specs.Tree.{Tree, plain}
use Rattle.oer_module_syntax.specs.declared.word.Builtin.{Builtin}
use Rattle.oer_module_values.specs.Types.{Given, Meaning, type_in}

-- A type in a module for which another stands, with what is given on the way to it. In the notation no constraint is given there,
-- since none stands behind the name of a type.
abbrev pub standing : ℕ → Tree → List Given → Meaning
standing m t gs = record { of = type_in m t; given = gs }

-- a type of a kind without items, with these tokens behind it
abbrev pub plain_with : Builtin → ℕ → List Spot → Tree
plain_with b at cs = plain at b [] cs

-- The least number of 128 bits as the lower end, or the greatest as the upper one: the notation has these ends, and what is read of
-- modules has not.
abbrev pub has_last_end : Option ℤ → Option ℤ → Bool
has_last_end low high = is_least low || is_greatest high

-- Why these ends are rejected: they have the least or the greatest number of 128 bits, or no number lies between them.
abbrev pub AreRejected : Option ℤ → Option ℤ → Why → Type 0
AreRejected low high too_large = has_last_end low high ≡ true
AreRejected low high empty = crossed low high ≡ true
AreRejected low high why = ⊥

-- What is read is the range with these ends, or the error for which they are rejected.
abbrev pub ReadsRange : Option ℤ → Option ℤ → Read Span → Type 0
ReadsRange low high (Ok r) = r ≡ record { low = low; high = high }
ReadsRange low high (Err e) = AreRejected low high e.why

-- ---- sizes

-- The range of a size; no size is below 0.
pub data IsRange : Size → Span → Type 0 where
  any : IsRange (record { low = 0; high = None }) (record { low = None; high = None })
  ends : {low : ℕ} {high : Option ℕ}
      → IsRange (record { low = low; high = high }) (record { low = Some (pos low); high = option_map pos high })

-- What is read are the sizes, or the error for which their ends are rejected.
abbrev pub ReadsSize : Size → Read Span → Type 0
ReadsSize size (Ok r) = IsRange size r
ReadsSize size (Err e) = AreRejected (Some (pos size.low)) (option_map pos size.high) e.why
