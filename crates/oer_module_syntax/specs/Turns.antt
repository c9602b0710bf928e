-- The numbers that bound the turns of lists.
use Rattle.std.specs.Prelude.{◌≡◌, ℕ, suc, ◌<◌, List, length, Bool}
use Rattle.oer_module_lexer.specs.declared.token.Sign.TheVariants.{Semicolon}
use Rattle.oer_module_syntax.specs.Modules.{many, symbol_at, import_at, ends_assignments, assignment_at, is_last, module_at}
use Rattle.oer_module_syntax.specs.State.{State, Read, at_sign}
use Rattle.oer_module_syntax.specs.Types.{more_listed, one_at, type_at}

-- One turn more than there are tokens suffices: with any more the same is read.
abbrev pub Suffices : {A : Type 0} → (ℕ → List A → State → Read (List A)) → Type 0
Suffices {A} read = (n : ℕ) (found : List A) (s : State) → length s.left < n → read n found s ≡ read (suc (length s.left)) found s

pub record TurnsSuffice : Type 0 where
  pub symbols : Suffices (more_listed symbol_at)
  pub imports : Suffices (many (at_sign Semicolon) import_at)
  pub elements : (levels : ℕ) (grouped alternatives : Bool) → Suffices (more_listed (one_at (type_at levels) grouped alternatives))
  pub assignments : (levels : ℕ) → Suffices (many ends_assignments (assignment_at levels))
  pub modules : (levels : ℕ) → Suffices (many is_last (module_at levels))
