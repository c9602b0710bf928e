-- The text of a type of modules, and what is printed of all their definitions.
use Rattle.std.specs.Prelude.{◌≡◌, ℕ, List, ◌++◌, map, Result, Ok, Err, String, string_bytes}
use Rattle.std.specs.declared.alloc.Global.{Global}
use Rattle.oer_module_lexer.specs.Lexing.{lex}
use Rattle.oer_module_syntax.specs.declared.fault.Why.TheVariants as fault
use Rattle.oer_module_text.specs.declared.error.Why.TheVariants as raws
use Rattle.oer_module_values.specs.declared.error.Why.TheVariants as told
use Rattle.oer_modules.specs.Causes.{Cause}
use Rattle.oer_modules.specs.Listed.{Printed, entries_from, nothing, printed_after}
use Rattle.oer_modules.specs.Named.{named_text}
use Rattle.oer_modules.specs.Refusals.{Refusal, refusal_of, refuse, unreadable}
use Rattle.oer_modules.specs.Texts.{Library, no_modules, read_each}
use Rattle.oer_modules.specs.declared.refusal.Refusal.{Refusal as RawRefusal}
use Rattle.oer_modules.specs.declared.texts.Misread.{Misread}

-- ---- one type

abbrev pub or_refused : {A : Type 0} → List (List ℕ) → Library → Result A Cause → Result A Refusal
or_refused ts l (Ok x) = Ok x
or_refused ts l (Err c) = Err (refuse ts l c)

abbrev pub or_misread : {A : Type 0} → List (List ℕ) → (Library → Result A Refusal) → Result Library Misread → Result A Refusal
or_misread ts f (Ok l) = f l
or_misread ts f (Err e) = Err (unreadable ts e)

-- what is made of the modules of texts, if these can be read
abbrev pub of_texts : {A : Type 0} → List (List ℕ) → (Library → Result A Refusal) → Result A Refusal
of_texts ts f = or_misread ts f (read_each 0 (map lex ts) no_modules)

unfoldable pub type_of_modules : List (List ℕ) → List ℕ → ℕ → Result (List ℕ) Refusal
type_of_modules ts w n = of_texts ts (λ l. or_refused ts l (named_text l.modules w n))

-- ---- all definitions

unfoldable pub definitions_of_modules : List (List ℕ) → ℕ → Result Printed Refusal
definitions_of_modules ts n = of_texts ts (λ l. Ok (printed_after nothing (entries_from ts l l.modules n 0 l.modules)))

-- The definitions come first, and then the comments.
pub record ComesFirst (s : List ℕ) (plain : Result Printed Refusal) : Type 0 where
  pub printed : Printed
  pub are : plain ≡ Ok printed
  pub whole : s ≡ printed.lines ++ printed.comments

abbrev pub IsListed : Result (String Global) RawRefusal → Result Printed Refusal → Type 0
IsListed (Ok s) plain = ComesFirst (string_bytes s) plain
IsListed (Err e) plain = (e.why ≡ raws.Unresolved (told.Unread fault.Memory) → ⊥) → plain ≡ Err (refusal_of e)
