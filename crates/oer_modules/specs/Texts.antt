-- The modules of texts, each of which is read by itself.
use Rattle.std.specs.Prelude.{◌≡◌, ℕ, suc, List, [], ◌∷◌, ◌++◌, length, map, replicate, Result, Ok, Err}
use Rattle.oer_module_lexer.specs.Lexing.{Lexed}
use Rattle.oer_module_syntax.specs.Modules.{modules_of}
use Rattle.oer_module_syntax.specs.Tree.{Module, module_of}
use Rattle.oer_module_syntax.specs.declared.fault.Fault.{Fault}
use Rattle.oer_module_syntax.specs.declared.fault.Why.TheVariants as fault
use Rattle.oer_modules.specs.declared.texts.Library.{Library as RawLibrary}
use Rattle.oer_modules.specs.declared.texts.Misread.{Misread}

-- modules, and which text each is from
pub record Library : Type 0 where
  pub modules : List Module
  pub homes : List ℕ

abbrev pub library_of : RawLibrary → Library
library_of l = record { modules = map module_of l.modules.items; homes = l.homes.items }

abbrev pub no_modules : Library
no_modules = record { modules = []; homes = [] }

-- and those of text n
abbrev pub with_modules : ℕ → List Module → Library → Library
with_modules n ms l = record { modules = l.modules ++ ms; homes = l.homes ++ replicate (length ms) n }

-- the modules of one text
abbrev pub read_one : Lexed → Result (List Module) Fault
read_one l = modules_of 64 (record { left = l.spots; end = l.end; complete = l.complete })

abbrev pub with_read : ℕ → Library → Result (List Module) Fault → Result Library Misread
with_read n l (Ok ms) = Ok (with_modules n ms l)
with_read n l (Err e) = Err (record { text = n; fault = e })

-- and those of text n, if it can be read
unfoldable pub with_text : ℕ → Lexed → Library → Result Library Misread
with_text n t l = with_read n l (read_one t)

infixl 10 ◌>>=◌
abbrev pub ◌>>=◌ : {A B : Type 0} → Result A Misread → (A → Result B Misread) → Result B Misread
(Ok x) >>= f = f x
(Err e) >>= f = Err e

-- and those of all these texts, of which the first is text n
unfoldable pub read_each : ℕ → List Lexed → Library → Result Library Misread
read_each n [] l = Ok l
read_each n (t ∷ ts) l = with_text n t l >>= read_each (suc n) ts

-- What a function returned, seen by view, is what the plain function gives, unless memory ran out.
abbrev pub IsRead : {X Y : Type 0} → (X → Y) → Result X Misread → Result Y Misread → Type 0
IsRead view (Ok x) plain = plain ≡ Ok (view x)
IsRead view (Err e) plain = (e.fault.why ≡ fault.Memory → ⊥) → plain ≡ Err e
