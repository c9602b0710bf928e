-- Why the words aren't rewritten, the status of the program then, and the line that tells of it.
use Rattle.std.specs.Prelude.{◌≡◌, ◌≤◌, ◌⊎◌, ℕ, List, [], ◌∷◌, ◌++◌, length, take, Option, codes, Result, Ok, Err}
use Rattle.std.specs.Io.KnownBytes.{Appends}
use Rattle.oer_module_options.specs.Errors.{Error as OptionError, error_of as option_error_of, text_of as option_text_of}
use Rattle.oer_module_options.specs.Words.{Text}
use Rattle.oer_modules.specs.Schemas.{IsMemory, NoType, no_type_of, no_type_words}
use Rattle.oer_modules.specs.declared.refusal.Refusal.{Refusal as RawRefusal}
use Rattle.oer_modules.specs.declared.schema.NoType.{NoType as RawNoType}
use Rattle.oer_modules.specs.declared.schema.NoType.TheVariants.{Refused}
use Rattle.oer_module_syntax.specs.declared.fault.Why.TheVariants as fault
use Rattle.oer_module_text.specs.declared.error.Why.TheVariants as raws
use Rattle.oer_module_values.specs.declared.error.Why.TheVariants as told
use Rattle.oer_module_cmd.specs.declared.error.Error.{Error as RawError}
use Rattle.oer_module_cmd.specs.declared.error.Error.TheVariants as raw

pub data Error : Type 0 where
  options : OptionError → Error
  not_text : Error
  -- the modules give no type
  refused : NoType → Error
  -- A read failed, or an allocation.
  input : Error
  memory : Error

abbrev pub error_of : RawError → Error
error_of (raw.Options e) = options (option_error_of e)
error_of raw.NotText = not_text
error_of (raw.Modules n) = refused (no_type_of n)
error_of raw.Input = input
error_of raw.Memory = memory

-- An allocation failed, or it is another refusal.
pub record IsByRefusal (r : RawRefusal) (e : RawError) : Type 0 where
  pub memory : r.why ≡ raws.Unresolved (told.Unread fault.Memory) → e ≡ raw.Memory
  pub other : (r.why ≡ raws.Unresolved (told.Unread fault.Memory) → ⊥) → e ≡ raw.Modules (Refused r)

-- The same of modules that give no type.
pub record IsByNone (n : RawNoType) (e : RawError) : Type 0 where
  pub memory : IsMemory n → e ≡ raw.Memory
  pub other : (IsMemory n → ⊥) → e ≡ raw.Modules n

-- 2 where the words are at fault, 3 where the machine fails
abbrev pub status_of : Error → ℕ
status_of (options e) = 2
status_of not_text = 2
status_of (refused r) = 2
status_of input = 3
status_of memory = 3

abbrev pub Read : Type 0 → Type 0
Read A = Result A Error

infixl 10 ◌>>=◌
abbrev pub ◌>>=◌ : {A B : Type 0} → Read A → (A → Read B) → Read B
(Ok x) >>= f = f x
(Err e) >>= f = Err e

-- What a function returned, seen by view, is what the plain function gives, unless the machine failed.
abbrev pub Gives : {X Y : Type 0} → (X → Y) → Result X RawError → Read Y → Type 0
Gives view (Ok x) plain = plain ≡ Ok (view x)
Gives view (Err e) plain = status_of (error_of e) ≡ 2 → plain ≡ Err (error_of e)

-- what is said of an error
abbrev pub text_of : Error → Text
text_of (options e) = option_text_of e
text_of not_text = codes "modules: not UTF-8"
text_of (refused n) = codes "modules: " ++ no_type_words n
text_of input = codes "input failed"
text_of memory = codes "out of memory"

-- the line on standard error, with its line feed
abbrev pub line_of : Error → Text
line_of e = codes "oer: " ++ text_of e ++ 10 ∷ []

-- known bytes grew by a front of the text, which may be all of it or nothing
abbrev pub AppendsFront : Option (List ℕ) → Option (List ℕ) → Text → Type 0
AppendsFront old new text = (n : ℕ) × (n ≤ length text) × Appends old new (take n text)

-- the line that tells of an error by this status: its own, or where memory for that was refused, the line of that
abbrev pub IsLineFor : Error → ℕ → Text → Type 0
IsLineFor e status line = ((status ≡ status_of e) × (line ≡ line_of e)) ⊎ ((status ≡ 3) × (line ≡ line_of memory))

-- A writer got a front of the line of the error.
abbrev pub Reports : Error → ℕ → Option (List ℕ) → Option (List ℕ) → Type 0
Reports e status old new = (line : Text) × IsLineFor e status line × AppendsFront old new line
