-- The turns of the loop over definitions that may have so many parts, and what is read against reading without such a number.
use Rattle.std.proofs.Common.{◌≡◌, ◌≢◌, ℕ, zero, suc, ◌+◌, ◌-◌, ◌≤◌, ◌<◌, List, [], ◌∷◌, ◌++◌, length, Bool, true, false, leb, Option, Some, None, Result, Ok, Err, ◌⊎◌, inl, inr, refl, sym, ap, ◌∙◌, subst, arith, sub-one, IfOk, IfErr}
use Rattle.std.proofs.lemmas.Bool.{leb-true, leb-false}
use Rattle.oer_lexer.specs.Lexing.{lex}
use Rattle.oer_model.specs.Nodes.{type_nodes}
use Rattle.oer_notation.specs.Grammar.{SpellsAll}
use Rattle.oer_notation.specs.Laws.{ParseAllRefuses, ParseAllSound}
use Rattle.oer_notation.specs.Parsing.{end_of, entries_more, entry_at, is_last, parse_all, start}
use Rattle.oer_notation.specs.Reading.{Known}
use Rattle.oer_notation.proofs.Loops.{entries_end, entries_err, entries_over, entries_step, entries_stop}
use Rattle.oer_notation.proofs.Took.{same_ok}
use Rattle.oer_notation.specs.Within.{AreNotWithin, IsReadWithin, entries_within, heavy_in, parse_parts, parse_within, parts_of, unless_heavy}
use Rattle.oer_notation.specs.declared.within.WithinFault.{WithinFault}
use Rattle.oer_notation.specs.declared.within.WithinFault.TheVariants.{Parts, Text}
use Rattle.oer_value_notation.specs.State.{Read, State, fault}
use Rattle.oer_value_notation.specs.declared.fault.TextFault.{TextFault}
use Rattle.oer_value_notation.specs.declared.fault.TextWhy.TheVariants as why

-- ---- the turns

pub within_err : (n left : ℕ) (known : List Known) (s : State) (e : TextFault) → 0 < n → entry_at known s ≡ Err e
    → entries_within n left known s ≡ Err (Text e)
unfolding entries_within
within_err zero left known s e some h = absurd (omega arith)
within_err (suc n) left known s e some h = rw h refl

pub within_more : (n left : ℕ) (known : List Known) (s : State) (k : Known) (r : State) → 0 < n → entry_at known s ≡ Ok (k, r)
    → leb (type_nodes k.type) left ≡ false
    → entries_within n left known s ≡ Err (Parts (fault why.Syntax s).at)
unfolding entries_within
within_more zero left known s k r some h l = absurd (omega arith)
within_more (suc n) left known s k r some h l = rw (h, l) refl

pub within_step : (n left : ℕ) (known : List Known) (s : State) (k : Known) (r : State) → 0 < n → entry_at known s ≡ Ok (k, r)
    → leb (type_nodes k.type) left ≡ true → is_last r.left ≡ false
    → entries_within n left known s ≡ entries_within (n - 1) (left - type_nodes k.type) (known ++ k ∷ []) r
unfolding entries_within
within_step zero left known s k r some h f l = absurd (omega arith)
within_step (suc n) left known s k r some h f l = rw (h, f, l, sub-one) refl

pub within_end : (n left : ℕ) (known : List Known) (s : State) (k : Known) (r : State) (u : Unit {0}) → 0 < n
    → entry_at known s ≡ Ok (k, r) → leb (type_nodes k.type) left ≡ true → is_last r.left ≡ true
    → end_of r ≡ Ok u → entries_within n left known s ≡ Ok (known ++ k ∷ [])
unfolding entries_within
within_end zero left known s k r u some h f l e = absurd (omega arith)
within_end (suc n) left known s k r u some h f l e = rw (h, f, l, e) refl

pub within_stop : (n left : ℕ) (known : List Known) (s : State) (k : Known) (r : State) (g : TextFault) → 0 < n
    → entry_at known s ≡ Ok (k, r) → leb (type_nodes k.type) left ≡ true → is_last r.left ≡ true
    → end_of r ≡ Err g → entries_within n left known s ≡ Err (Text g)
unfolding entries_within
within_stop zero left known s k r g some h f l e = absurd (omega arith)
within_stop (suc n) left known s k r g some h f l e = rw (h, f, l, e) refl

pub within_over : (n left : ℕ) (known : List Known) (s : State) → n ≤ 0 → entries_within n left known s ≡ Err (Text s.stop)
unfolding entries_within
within_over zero left known s h = refl
within_over (suc n) left known s h = absurd (omega arith)

-- ---- against reading without such a number

parts_after : (known : List Known) (k : Known) → parts_of (known ++ k ∷ []) ≡ parts_of known + type_nodes k.type
parts_after [] k = omega arith
parts_after (j ∷ known) k = let more = parts_after known k in omega arith

-- Where more definitions are read, they have the parts of those before them, too.
abbrev Grows : ℕ → Type 0
Grows n = (known : List Known) (s : State) (ks : List Known) → entries_more n known s ≡ Ok ks → parts_of known ≤ parts_of ks

grows_by : (n : ℕ) → Grows n → (known : List Known) (s : State) (ks : List Known) (k : Known) (r : State)
    → entry_at known s ≡ Ok (k, r) → entries_more (suc n) known s ≡ Ok ks
    → parts_of known + type_nodes k.type ≤ parts_of ks
unfolding entries_more
grows_by n more known s ks k r is h = by (is_last r.left) refl where
  parts : parts_of (known ++ k ∷ []) ≡ parts_of known + type_nodes k.type
  parts = parts_after known k

  by : (b : Bool) → is_last r.left ≡ b → parts_of known + type_nodes k.type ≤ parts_of ks
  by false last =
      let next : entries_more (suc n) known s ≡ entries_more n (known ++ k ∷ []) r = rw (is, last) refl in
      let rest = more (known ++ k ∷ []) r ks (sym next ∙ h) in
      let here = parts in
      omega arith
  by true last = ended (end_of r) refl where
    ended : (o : Result (Unit {0}) TextFault) → end_of r ≡ o → parts_of known + type_nodes k.type ≤ parts_of ks
    ended (Ok u) over =
        let all : entries_more (suc n) known s ≡ Ok (known ++ k ∷ []) = rw (is, last, over) refl in
        let same : known ++ k ∷ [] ≡ ks = same_ok (known ++ k ∷ []) ks (sym all ∙ h) in
        let size = ap parts_of same in
        let here = parts in
        omega arith
    ended (Err e) over = let none : entries_more (suc n) known s ≡ Err e = rw (is, last, over) refl in absurd (cc)

grows_step : (n : ℕ) → Grows n → Grows (suc n)
unfolding entries_more
grows_step n more known s ks h = after (entry_at known s) refl where
  after : (r : Read Known) → entry_at known s ≡ r → parts_of known ≤ parts_of ks
  after (Err e) is = let none : entries_more (suc n) known s ≡ Err e = rw is refl in absurd (cc)
  after (Ok e) is = let grown = grows_by n more known s ks e.0 e.1 is h in omega arith

grows : (n : ℕ) → Grows n
unfolding entries_more
grows zero known s ks h = absurd (cc)
grows (suc n) known s ks h = grows_step n (grows n) known s ks h

-- what reading within so many parts says of reading without them
abbrev Says : ℕ → List Known → Result (List Known) WithinFault → Result (List Known) TextFault → Type 0
Says left known (Ok ks) read = (read ≡ Ok ks) × (parts_of ks ≤ left + parts_of known)
Says left known (Err (Text e)) read = read ≡ Err e
Says left known (Err (Parts at)) read = (ks : List Known) → read ≡ Ok ks → left + parts_of known < parts_of ks

-- what is said after one definition more, said before it
said : (left : ℕ) (known : List Known) (k : Known) (o : Result (List Known) WithinFault) (read : Result (List Known) TextFault)
    → type_nodes k.type ≤ left
    → Says (left - type_nodes k.type) (known ++ k ∷ []) o read → Says left known o read
said left known k (Ok ks) read fits h = let parts = parts_after known k in let most = h.1 in (h.0, omega arith)
said left known k (Err (Text e)) read fits h = h
said left known k (Err (Parts at)) read fits h = λ ks is. let parts = parts_after known k in let more = h ks is in omega arith

abbrev SaysAll : ℕ → Type 0
SaysAll n = (left : ℕ) (known : List Known) (s : State) → Says left known (entries_within n left known s) (entries_more n known s)

says_end : (n left : ℕ) (known : List Known) (s : State) (k : Known) (r : State) (o : Result (Unit {0}) TextFault)
    → entry_at known s ≡ Ok (k, r) → leb (type_nodes k.type) left ≡ true → is_last r.left ≡ true → end_of r ≡ o
    → Says left known (entries_within (suc n) left known s) (entries_more (suc n) known s)
says_end n left known s k r (Ok u) is fit last end =
    rw (within_end (suc n) left known s k r u (omega arith) is fit last end, entries_end (suc n) known s k r u (omega arith) is last end)
    (let parts = parts_after known k in let few = leb-true (type_nodes k.type) left fit in (refl, omega arith))
says_end n left known s k r (Err f) is fit last end =
    rw (
      within_stop (suc n) left known s k r f (omega arith) is fit last end,
      entries_stop (suc n) known s k r f (omega arith) is
          last end,
    ) refl

says_last : (n : ℕ) → SaysAll n → (left : ℕ) (known : List Known) (s : State) (k : Known) (r : State) (b : Bool)
    → entry_at known s ≡ Ok (k, r) → leb (type_nodes k.type) left ≡ true → is_last r.left ≡ b
    → Says left known (entries_within (suc n) left known s) (entries_more (suc n) known s)
says_last n more left known s k r false is fit last =
    rw (within_step (suc n) left known s k r (omega arith) is fit last, entries_step (suc n) known s k r (omega arith) is last, sub-one)
    (said left known k _ _ (leb-true (type_nodes k.type) left fit) (more (left - type_nodes k.type) (known ++ k ∷ []) r))
says_last n more left known s k r true is fit last = says_end n left known s k r (end_of r) is fit last refl

says_fits : (n : ℕ) → SaysAll n → (left : ℕ) (known : List Known) (s : State) (k : Known) (r : State) (b : Bool)
    → entry_at known s ≡ Ok (k, r) → leb (type_nodes k.type) left ≡ b
    → Says left known (entries_within (suc n) left known s) (entries_more (suc n) known s)
says_fits n more left known s k r false is past =
    rw (within_more (suc n) left known s k r (omega arith) is past)
    (λ ks read. let grown = grows_by n (grows n) known s ks k r is read in let many = leb-false (type_nodes k.type) left past in
    omega arith)
says_fits n more left known s k r true is fit = says_last n more left known s k r (is_last r.left) is fit refl

says_step : (n : ℕ) → SaysAll n → (left : ℕ) (known : List Known) (s : State) (r : Read Known) → entry_at known s ≡ r
    → Says left known (entries_within (suc n) left known s) (entries_more (suc n) known s)
says_step n more left known s (Err e) is = rw (
  within_err (suc n) left known s e (omega arith) is,
  entries_err (suc n) known s e
      (omega arith) is,
) refl
says_step n more left known s (Ok e) is = says_fits n more left known s e.0 e.1 (leb (type_nodes e.0.type) left) is refl

says : (n : ℕ) → SaysAll n
says zero left known s = rw (within_over zero left known s (omega arith), entries_over zero known s (omega arith)) refl
says (suc n) left known s = says_step n (says n) left known s (entry_at known s) refl

says_of : (most : ℕ) (bs : List ℕ) → Says most [] (parse_parts most bs) (parse_all bs)
unfolding parse_parts parse_all
says_of most bs = says (suc (length (lex bs).spots)) most [] (start (lex bs))

-- ---- what is read of a text that may stand for too many octets

read_light : (o : Option ℕ) (r : Result (List Known) WithinFault) (ks : List Known) → unless_heavy o r ≡ Ok ks → (o ≡ None) × (r ≡ Ok ks)
read_light (Some at) r ks h = absurd (cc)
read_light None r ks h = (refl, h)

text_light : (o : Option ℕ) (r : Result (List Known) WithinFault) (e : TextFault) → unless_heavy o r ≡ Err (Text e) → r ≡ Err (Text e)
text_light (Some at) r e h = absurd (cc)
text_light None r e h = h

parts_or_heavy : (o : Option ℕ) (r : Result (List Known) WithinFault) (at : ℕ) → unless_heavy o r ≡ Err (Parts at) → (o ≡ Some at) ⊎ (r ≡ Err (Parts at))
parts_or_heavy (Some a) r at h = inl (cc)
parts_or_heavy None r at h = inr h

module _ {A : Type 0} (view : A → List Known) (most : ℕ) (bs : List ℕ) where
  ok_within : (x : A) → parse_within most bs ≡ Ok (view x) → (heavy_in most bs ≡ None) × (parse_parts most bs ≡ Ok (view x))
  unfolding parse_within
  ok_within x is = read_light (heavy_in most bs) (parse_parts most bs) (view x) is

  says_ok : (x : A) → parse_within most bs ≡ Ok (view x) → (parse_all bs ≡ Ok (view x)) × (parts_of (view x) ≤ most + 0)
  says_ok x is = subst (λ o. Says most [] o (parse_all bs)) (ok_within x is).1 (says_of most bs)

  pub read_within : (result : Result A WithinFault) → IsReadWithin view result (parse_within most bs) → IfOk result (λ x. parse_all
      bs ≡ Ok (view x))
  read_within (Ok x) is = (says_ok x is).0
  read_within (Err f) is = tt

  pub few_within : (result : Result A WithinFault) → IsReadWithin view result (parse_within most bs) → IfOk result (λ x. parts_of
      (view x) ≤ most)
  few_within (Ok x) is = let few = (says_ok x is).1 in omega arith
  few_within (Err f) is = tt

  pub light_within : (result : Result A WithinFault) → IsReadWithin view result (parse_within most bs) → IfOk result (λ x. heavy_in most bs ≡ None)
  light_within (Ok x) is = (ok_within x is).0
  light_within (Err f) is = tt

  pub spells_within : ParseAllSound → (result : Result A WithinFault) → IsReadWithin view result (parse_within most bs)
      → IfOk result (λ x. SpellsAll (view x) bs)
  spells_within sound (Ok x) is = (sound bs (view x) (says_ok x is).0).0
  spells_within sound (Err f) is = tt

  text_within : (e : TextFault) → parse_within most bs ≡ Err (Text e) → parse_all bs ≡ Err e
  unfolding parse_within
  text_within e is =
      subst (λ o. Says most [] o (parse_all bs)) (text_light (heavy_in most bs) (parse_parts most bs) e is) (says_of most bs)

  parts_within : (at : ℕ) → parse_within most bs ≡ Err (Parts at)
      → (heavy_in most bs ≡ Some at) ⊎ ((ks : List Known) → parse_all bs ≡ Ok ks → most < parts_of ks)
  unfolding parse_within
  parts_within at is = by (parts_or_heavy (heavy_in most bs) (parse_parts most bs) at is) where
    by : (heavy_in most bs ≡ Some at) ⊎ (parse_parts most bs ≡ Err (Parts at))
        → (heavy_in most bs ≡ Some at) ⊎ ((ks : List Known) → parse_all bs ≡ Ok ks → most < parts_of ks)
    by (inl h) = inl h
    by (inr h) = inr (λ ks read. let more = subst (λ o. Says most [] o (parse_all bs)) h (says_of most bs) ks read in omega arith)

  pub refuses_within : ParseAllRefuses → (result : Result A WithinFault) → IsReadWithin view result (parse_within most bs) → IfErr result
      (AreNotWithin most bs)
  refuses_within none (Ok x) is = tt
  refuses_within none (Err (Text e)) is = (fault, λ other. none bs e (fault other)) where
    fault : e.why ≢ why.Memory → parse_all bs ≡ Err e
    fault other = text_within e (is other)
  refuses_within none (Err (Parts at)) is = parts_within at is
