-- The type that a name has in modules, and its text.
use Rattle.std.specs.Prelude.{ℕ, List, Bool, true, false, Result, Ok}
use Rattle.oer_module_syntax.specs.Tree.{Module}
use Rattle.oer_module_syntax.specs.declared.fault.Why.TheVariants as fault
use Rattle.oer_module_text.specs.declared.error.Why as raw
use Rattle.oer_module_text.specs.declared.error.Why.TheVariants as raws
use Rattle.oer_module_values.specs.declared.error.Why.TheVariants as told
use Rattle.oer_modules.specs.Asked.{asked, type_at}
use Rattle.oer_modules.specs.Causes.{Cause, ◌>>=◌, by_name, by_type}
use Rattle.oer_modules.specs.Nesting.{Typed, typed_by}

-- that type and its text, or why there is none
unfoldable pub named_type : List Module → List ℕ → ℕ → Result Typed Cause
named_type ms w n = by_name (asked ms w) >>= λ x. by_type (type_at ms x) >>= λ t. by_type (typed_by ms n t)

-- its text alone
unfoldable pub named_text : List Module → List ℕ → ℕ → Result (List ℕ) Cause
named_text ms w n = named_type ms w n >>= λ x. Ok x.1

-- the reason is that an allocation failed
abbrev pub is_memory : raw.Why → Bool
is_memory (raws.Unresolved (told.Unread fault.Memory)) = true
is_memory _ = false
