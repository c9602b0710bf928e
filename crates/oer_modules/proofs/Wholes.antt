-- What is made of the modules of texts.
use Rattle.std.proofs.Common.{◌≡◌, ℕ, List, [], ◌∷◌, ◌++◌, map, Result, Ok, Err, refl, sym, ap, ◌∙◌}
use denote.Ref.{Bor}
use Rattle.oer_module_lexer.specs.Lexing.{lex}
use Rattle.oer_module_lexer.specs.declared.lexing.Tokens.{Tokens}
use Rattle.oer_modules.proofs.Walks.{lexed_texts}
use Rattle.oer_modules.specs.Causes.{Cause}
use Rattle.oer_modules.specs.Defined.{types_of_modules, with_each}
use Rattle.oer_modules.specs.Listed.{Printed, entries_from, nothing, printed_after}
use Rattle.oer_modules.specs.Modules.{ComesFirst, definitions_of_modules, of_texts, or_misread, or_refused, type_of_modules}
use Rattle.oer_modules.specs.Named.{named_text}
use Rattle.oer_modules.specs.Places.{lexed_of}
use Rattle.oer_modules.specs.Refusals.{Refusal, unreadable}
use Rattle.oer_modules.specs.Schemas.{schema_by, schema_of_modules}
use Rattle.oer_modules.specs.Texts.{Library, no_modules, read_each}
use Rattle.oer_modules.specs.declared.texts.Misread.{Misread}
use Rattle.oer_notation.specs.Reading.{Known}

-- the texts that references point at
abbrev pub texts_of : List (Bor (List ℕ)) → List (List ℕ)
texts_of ts = map (λ t. t.now) ts

lexed_same : (ts : List (Bor (List ℕ))) → lexed_texts ts ≡ map lex (texts_of ts)
lexed_same [] = refl
lexed_same (t ∷ ts) = ap (λ ls. lex t.now ∷ ls) (lexed_same ts)

module _ (ks : List Tokens) (ts : List (Bor (List ℕ))) (same : map lexed_of ks ≡ lexed_texts ts) where
  library_read : (r : Result Library Misread) → read_each 0 (map lexed_of ks) no_modules ≡ r → read_each 0 (map lex (texts_of ts)) no_modules ≡ r
  library_read r h = ap (λ ls. read_each 0 ls no_modules) (sym (lexed_same ts) ∙ sym same) ∙ h

  of_read : {A : Type 0} (f : Library → Result A Refusal) (r : Result Library Misread) → read_each 0 (map lexed_of ks) no_modules ≡ r → of_texts (texts_of ts) f ≡ or_misread (texts_of ts) f r
  of_read f r h = ap (or_misread (texts_of ts) f) (library_read r h)

  pub schema_answer : (w : List ℕ) (n : ℕ) (r : Result Library Misread) → read_each 0 (map lexed_of ks) no_modules ≡ r → schema_of_modules (texts_of ts) w n ≡ schema_by (texts_of ts) w n r
  unfolding schema_of_modules
  schema_answer w n r h = ap (schema_by (texts_of ts) w n) (library_read r h)

  pub type_misread : (w : List ℕ) (n : ℕ) (e : Misread) → read_each 0 (map lexed_of ks) no_modules ≡ Err e → type_of_modules (texts_of ts) w n ≡ Err (unreadable (texts_of ts) e)
  unfolding type_of_modules
  type_misread w n e h = of_read (λ l. or_refused (texts_of ts) l (named_text l.modules w n)) (Err e) h

  pub type_answer : (w : List ℕ) (n : ℕ) (l : Library) (r : Result (List ℕ) Cause) → read_each 0 (map lexed_of ks) no_modules ≡ Ok l → named_text l.modules w n ≡ r
      → type_of_modules (texts_of ts) w n ≡ or_refused (texts_of ts) l r
  unfolding type_of_modules
  type_answer w n l r h g = of_read (λ l. or_refused (texts_of ts) l (named_text l.modules w n)) (Ok l) h ∙ ap (or_refused (texts_of ts) l) g

  pub listed_misread : (n : ℕ) (e : Misread) → read_each 0 (map lexed_of ks) no_modules ≡ Err e → definitions_of_modules (texts_of ts) n ≡ Err (unreadable (texts_of ts) e)
  unfolding definitions_of_modules
  listed_misread n e h = of_read (λ l. Ok (printed_after nothing (entries_from (texts_of ts) l l.modules n 0 l.modules))) (Err e) h

  pub listed : (n : ℕ) (l : Library) (s : List ℕ) (p : Printed) → read_each 0 (map lexed_of ks) no_modules ≡ Ok l → p ≡ printed_after nothing (entries_from (texts_of ts) l l.modules n 0 l.modules)
      → s ≡ p.lines ++ p.comments → ComesFirst s (definitions_of_modules (texts_of ts) n)
  unfolding definitions_of_modules
  listed n l s p h is e = record {
    printed = p;
    are = of_read (λ l. Ok (printed_after nothing (entries_from (texts_of ts) l l.modules n 0 l.modules))) (Ok l) h ∙ ap Ok (sym is);
    whole = e;
  }

  pub types_misread : (n : ℕ) (e : Misread) → read_each 0 (map lexed_of ks) no_modules ≡ Err e → types_of_modules (texts_of ts) n ≡ Err (unreadable (texts_of ts) e)
  unfolding types_of_modules
  types_misread n e h = of_read (λ l. Ok (with_each l.modules n [] l.modules)) (Err e) h

  pub types_read : (n : ℕ) (l : Library) (found : List Known) → read_each 0 (map lexed_of ks) no_modules ≡ Ok l → found ≡ with_each l.modules n [] l.modules
      → types_of_modules (texts_of ts) n ≡ Ok found
  unfolding types_of_modules
  types_read n l found h is = of_read (λ l. Ok (with_each l.modules n [] l.modules)) (Ok l) h ∙ ap Ok (sym is)

same_err : {A B : Type 0} {x y : B} → ◌≡◌ {A = Result A B} (Err x) (Err y) → x ≡ y
same_err h = cc

-- what has no listing gives no types, for the same reason
unread_by : (ts : List (List ℕ)) (n : ℕ) (e : Refusal) (r : Result Library Misread) → or_misread ts (λ l. Ok (printed_after nothing (entries_from ts l l.modules n 0 l.modules))) r ≡ Err e
    → or_misread ts (λ l. Ok (with_each l.modules n [] l.modules)) r ≡ Err e
unread_by ts n e (Ok l) h = absurd (cc)
unread_by ts n e (Err x) h = ap Err (same_err h)

pub unread : (ts : List (List ℕ)) (n : ℕ) (e : Refusal) → definitions_of_modules ts n ≡ Err e → types_of_modules ts n ≡ Err e
unfolding definitions_of_modules types_of_modules
unread ts n e h = unread_by ts n e (read_each 0 (map lex ts) no_modules) h
