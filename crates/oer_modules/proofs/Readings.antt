-- What the turns through texts give.
use Rattle.std.proofs.Common.{◌≡◌, ◌<◌, ◌≤◌, ◌+◌, ℕ, suc, List, [], ◌∷◌, ◌++◌, drop, take, length, map, get_or, replicate, add-one, Result, Ok, Err, refl, sym, ap, ap₂, ◌∙◌, OnOk}
use Rattle.std.proofs.lemmas.List.{length-map, map-append, take_all}
use Rattle.std.proofs.Math.Seq.{take-suc}
use denote.Ref.{Bor}
use Rattle.oer_module_lexer.specs.Lexing.{Lexed, lex}
use Rattle.oer_module_lexer.specs.declared.lexing.Tokens.{Tokens}
use Rattle.oer_modules.proofs.Walks.{at_drop, lexed_texts, past_drop}
use Rattle.oer_modules.specs.Places.{lexed_of}
use Rattle.oer_modules.specs.Texts.{Library, ◌>>=◌, library_of, read_each, read_one, with_modules, with_read, with_text}
use Rattle.oer_module_syntax.specs.Tree.{Module, module_of}
use Rattle.oer_module_syntax.specs.declared.fault.Fault.{Fault}
use Rattle.oer_module_syntax.specs.declared.tree.Module.{Module as RawModule}
use Rattle.oer_modules.specs.declared.texts.Library.{Library as RawLibrary}
use Rattle.oer_modules.specs.declared.texts.Misread.{Misread}

-- a text more
pub lexed_more : (ks : List Tokens) (ts : List (Bor (List ℕ))) (i : ℕ) (k : Tokens) (d : Bor (List ℕ)) → map lexed_of ks ≡ lexed_texts (take i ts) → i < length ts
    → lexed_of k ≡ lex (get_or ts i d).now → map lexed_of (ks ++ k ∷ []) ≡ lexed_texts (take (i + 1) ts)
lexed_more ks ts i k d same l is =
    map-append lexed_of ks (k ∷ []) ∙ ap (λ x. x ++ lexed_of k ∷ []) same ∙ ap (λ y. lexed_texts (take i ts) ++ y ∷ []) is
    ∙ sym (map-append (λ t. lex t.now) (take i ts) (get_or ts i d ∷ [])) ∙ sym (ap lexed_texts (take-suc ts i d l)) ∙ sym (ap (λ j. lexed_texts (take j ts)) (add-one i))

pub lexed_over : (ks : List Tokens) (ts : List (Bor (List ℕ))) (i : ℕ) → map lexed_of ks ≡ lexed_texts (take i ts) → length ts ≤ i → map lexed_of ks ≡ lexed_texts ts
lexed_over ks ts i same l = same ∙ ap lexed_texts (take_all i ts l)

read_cons : (n : ℕ) (t : Lexed) (ts : List Lexed) (l : Library) → read_each n (t ∷ ts) l ≡ (with_text n t l >>= read_each (suc n) ts)
unfolding read_each
read_cons n t ts l = refl

read_nil : (n : ℕ) (l : Library) → read_each n [] l ≡ Ok l
unfolding read_each
read_nil n l = refl

-- the turns of the reading, which is `whole` in all and has come to text i
module _ (ks : List Tokens) (i : ℕ) (l : Library) (whole : Result Library Misread) (is : whole ≡ read_each i (map lexed_of (drop i ks)) l) where
  turn : (d : Tokens) → i < length ks → d ≡ get_or ks i d → whole ≡ (with_text i (lexed_of d) l >>= read_each (i + 1) (map lexed_of (drop (i + 1) ks)))
  turn d less at =
      is ∙ ap (λ x. read_each i (map lexed_of x) l) (at_drop ks i d less) ∙ read_cons i (lexed_of (get_or ks i d)) (map lexed_of (drop (i + 1) ks)) l
      ∙ ap (λ x. with_text i (lexed_of x) l >>= read_each (suc i) (map lexed_of (drop (i + 1) ks))) (sym at)
      ∙ ap (λ j. with_text i (lexed_of d) l >>= read_each j (map lexed_of (drop (i + 1) ks))) (sym (add-one i))

  pub read_more : (d : Tokens) (m : Library) → i < length ks → d ≡ get_or ks i d → with_text i (lexed_of d) l ≡ Ok m → whole ≡ read_each (i + 1) (map lexed_of (drop (i + 1) ks)) m
  read_more d m less at h = turn d less at ∙ ap (λ r. r >>= read_each (i + 1) (map lexed_of (drop (i + 1) ks))) h

  pub read_err : (d : Tokens) (e : Misread) → i < length ks → d ≡ get_or ks i d → with_text i (lexed_of d) l ≡ Err e → whole ≡ Err e
  read_err d e less at h = turn d less at ∙ ap (λ r. r >>= read_each (i + 1) (map lexed_of (drop (i + 1) ks))) h

  pub read_over : length ks ≤ i → whole ≡ Ok l
  read_over over = is ∙ ap (λ x. read_each i (map lexed_of x) l) (past_drop ks i over) ∙ read_nil i l

-- ---- one text

pub text_ok : (n : ℕ) (t : Lexed) (l m : Library) (ms : List Module) → read_one t ≡ Ok ms → m ≡ with_modules n ms l → with_text n t l ≡ Ok m
unfolding with_text
text_ok n t l m ms h e = ap (with_read n l) h ∙ ap Ok (sym e)

pub text_err : (n : ℕ) (t : Lexed) (l : Library) (e : Fault) → read_one t ≡ Err e → with_text n t l ≡ Err (record { text = n; fault = e })
unfolding with_text
text_err n t l e h = ap (with_read n l) h

pub library_grown : (l m : RawLibrary) (found : List RawModule) (n k : ℕ) → m.modules.items ≡ l.modules.items ++ found → m.homes.items ≡ l.homes.items ++ replicate k n → k ≡ length found
    → library_of m ≡ with_modules n (map module_of found) (library_of l)
library_grown l m found n k modules homes count =
    ap₂ (λ xs hs. record { modules = xs; homes = hs }) (ap (map module_of) modules ∙ map-append module_of l.modules.items found)
    (homes ∙ ap (λ j. l.homes.items ++ replicate j n) (count ∙ sym (length-map found module_of)))

pub on_ok : {A E P Q : Type 0} (r : Result A E) → OnOk r P → (P → Q) → OnOk r Q
on_ok (Ok x) p f = f p
on_ok (Err e) p f = tt

pub map_same : {A : Type 0} (xs : List A) → map (λ x. x) xs ≡ xs
map_same [] = refl
map_same (x ∷ xs) = ap (λ ys. x ∷ ys) (map_same xs)
