-- How many tokens are taken by what is read.
use Rattle.std.proofs.Common.{◌≡◌, ℕ, zero, suc, ◌+◌, ◌≤◌, ◌<◌, List, [], ◌∷◌, ◌++◌, length, length-append, length-drop}
use Rattle.std.proofs.Common.{Bool, true, false, if◌then◌else◌, Some, Result, Ok, Err, refl, ap, arith}
use Rattle.oer_module_lexer.specs.Token.{Token, Spot}
use Rattle.oer_module_lexer.specs.declared.token.Sign.{Sign}
use Rattle.oer_module_syntax.proofs.Matching.{bind_ok}
use Rattle.oer_module_syntax.proofs.SoundTypes.{type_took}
use Rattle.oer_module_syntax.proofs.SoundValues.{value_took, exception_took}
use Rattle.oer_module_syntax.proofs.Took.{Took, same_ok, sign_first, word_first, identifier_took}
use Rattle.oer_module_syntax.specs.Grammar.{NameAt, SpelledType, SpelledValue, Exception}
use Rattle.oer_module_syntax.specs.Modules.{many}
use Rattle.oer_module_syntax.specs.Ranges.{groups_len, group_len, group_at, span_at, exception_at, value_at as value_tokens_at}
use Rattle.oer_module_syntax.specs.State.{State, Read, ◌>>=◌, first, first_of, place, bump, past, at_sign, at_keyword, skip_sign, skip_keyword}
use Rattle.oer_module_syntax.specs.State.{identifier_at}
use Rattle.oer_module_syntax.specs.Types.{type_at}
use Rattle.oer_module_syntax.specs.Words.{keyword_text, is_identifier}
use Rattle.oer_module_syntax.specs.declared.fault.Fault.{Fault}
use Rattle.oer_module_syntax.specs.declared.range.Extent.TheVariants.{Span}
use Rattle.oer_module_syntax.specs.declared.word.Keyword.{Keyword}
use Rattle.oer_module_terms.specs.Looks.{series, past_sign, taken_at}

-- What is read at a state leaves at least k tokens fewer.
pub record Takes {A : Type 0} (k : ℕ) (s : State) (x : Read A) : Type 0 where
  pub fewer : (r : A × State) → x ≡ Ok r → length r.1.left + k ≤ length s.left

-- at a fault nothing is read
pub none : {A : Type 0} (k : ℕ) (s : State) (e : Fault) → Takes {A = A} k s (Err e)
none k s e = record { fewer = λ r h. absurd (cc) }

pub done : {A : Type 0} (a : A) (s : State) → Takes 0 s (Ok (a, s))
done a s = record { fewer = λ r h. let e = ap (λ v. length v.1.left) (same_ok (a, s) r h) in omega arith }

pub loose : {A : Type 0} {k : ℕ} {s : State} {x : Read A} → Takes k s x → Takes 0 s x
loose p = record { fewer = λ r h. let less = p.fewer r h in omega arith }

-- past so many tokens
pub behind : {A : Type 0} {k : ℕ} {x : Read A} (n : ℕ) (s : State) → Takes k (past n s) x → Takes k s x
behind n s p = record { fewer = λ r h. let less = p.fewer r h in let e = length-drop n s.left in omega arith }

-- past one, which is there
pub after : {A : Type 0} {t : Token} {k : ℕ} {x : Read A} (s : State) → first s ≡ Some t → Takes k (bump s) x → Takes 1 s x
after s f p = record { fewer = λ r h. let less = p.fewer r h in let one = some s.left f in let e = length-drop 1 s.left in omega arith }
  where
    some : {t : Token} (l : List Spot) → first_of l ≡ Some t → 0 < length l
    some [] h = absurd (cc)
    some (x ∷ xs) h = omega arith

pub after_sign : {A : Type 0} {k : ℕ} {x : Read A} (g : Sign) (s : State) → at_sign g s ≡ true → Takes k (bump s) x → Takes 1 s x
after_sign g s h p = after s (sign_first g (first s) h) p

pub after_keyword : {A : Type 0} {k : ℕ} {x : Read A} (w : Keyword) (s : State) → at_keyword w s ≡ true → Takes k (bump s) x → Takes 1 s x
after_keyword w s h p = after s (word_first (keyword_text w) (first s) h) p

-- ---- readers that are made of others

infixr 5 ◌▹◌
pub ◌▹◌ : {A B : Type 0} {j k : ℕ} {s : State} {x : Read A} {f : A × State → Read B} → Takes k s x
    → ((e : A × State) → Takes j e.1 (f e)) → Takes k s (x >>= f)
◌▹◌ {x} {f} p q = record {
  fewer = λ r h.
      let e = bind_ok x f r h in
      let front = p.fewer e.0 e.1 in
      let back = (q e.0).fewer r e.2 in
      omega arith;
}

-- where tokens are counted first
pub counted : {A B : Type 0} {k : ℕ} {s : State} {f : A → Read B} (x : Result A Fault) → ((a : A) → Takes k s (f a)) → Takes k s (x >>= f)
counted {f} x q = record { fewer = λ r h. let e = bind_ok x f r h in (q e.0).fewer r e.2 }

pub either : {A : Type 0} {k : ℕ} {s : State} {x y : Read A} (b : Bool) → (b ≡ true → Takes k s x) → (b ≡ false → Takes k s y)
    → Takes k s (if b then x else y)
either true p q = p refl
either false p q = q refl

pub choose : {A : Type 0} {k : ℕ} {s : State} {x y : Read A} (b : Bool) → Takes k s x → Takes k s y → Takes k s (if b then x else y)
choose b p q = either b (λ h. p) (λ h. q)

module _ {A : Type 0} {j : ℕ} (done_at : State → Bool) {one : State → Read A} (takes : (s : State) → Takes j s (one s)) where
  pub many_takes : (n : ℕ) (found : List A) (s : State) → Takes 0 s (many done_at one n found s)
  unfolding many
  many_takes zero found s = none 0 s _
  many_takes (suc n) found s = choose (done_at s) (done found s) (loose (takes s) ▹ λ x. many_takes n (found ++ x.0 ∷ []) x.1)

  pub series_takes : {k : ℕ} {front : State → Read A} → ((s : State) → Takes k s (front s)) → (s : State)
      → Takes k s (series done_at front one s)
  series_takes p s = p s ▹ λ x. many_takes (suc (length x.1.left)) (x.0 ∷ []) x.1

-- ---- those of the crates below

-- by what is known of the tokens that were taken
pub took_all : {A : Type 0} {s : State} {x : Read A} (k : ℕ) (P : A × State → List Spot → Type 0)
    → ((r : A × State) → x ≡ Ok r → Took s r.1 (P r)) → ((r : A × State) (ts : List Spot) → P r ts → k ≤ length ts) → Takes k s x
took_all {s} k P f some = record {
  fewer = λ r h.
      let t = f r h in
      let least = some r t.used t.holds in
      let e = ap length t.is in
      let a = length-append t.used r.1.left in
      omega arith;
}

pub skip_sign_takes : (g : Sign) (s : State) → Takes 1 s (skip_sign g s)
unfolding skip_sign
skip_sign_takes g s = either (at_sign g s) (λ h. after_sign g s h (done tt (bump s))) (λ h. none 1 s _)

pub skip_keyword_takes : (k : Keyword) (s : State) → Takes 1 s (skip_keyword k s)
unfolding skip_keyword
skip_keyword_takes k s = either (at_keyword k s) (λ h. after_keyword k s h (done tt (bump s))) (λ h. none 1 s _)

pub identifier_takes : (s : State) → Takes 1 s (identifier_at s)
identifier_takes s =
    took_all 1 (λ r. NameAt is_identifier (place s) r.0) (identifier_took s) (λ r ts i. let one = ap length i.0 in omega arith)

pub type_takes : (levels : ℕ) (s : State) → Takes 0 s (type_at levels s)
type_takes levels s = took_all 0 (λ r. SpelledType r.0) (type_took levels s) (λ r ts i. omega arith)

pub value_tokens_take : (s : State) → Takes 0 s (value_tokens_at s)
value_tokens_take s = took_all 0 (λ r. SpelledValue r.0) (value_took s) (λ r ts i. omega arith)

pub exception_takes : (s : State) → Takes 0 s (exception_at s)
exception_takes s = took_all 0 (λ r. Exception r.0) (exception_took s) (λ r ts i. omega arith)

pub group_takes : (g : Sign) (s : State) → Takes 0 s (group_at g s)
unfolding group_at
group_takes g s = choose (at_sign g s) (counted (group_len s) (λ n. behind n s (done _ (past n s)))) (done [] s)

pub span_takes : (s : State) → Takes 0 s (span_at s)
unfolding span_at
span_takes s = counted (groups_len Span s s.left []) (λ n. behind n s (done _ (past n s)))

pub taken_takes : (g : Sign) (s : State) → Takes 0 s (taken_at g s)
taken_takes g s = choose (at_sign g s) (group_takes g s) (none 0 s _)

pub past_sign_takes : {A : Type 0} {k : ℕ} {x : Read A} (g : Sign) (s : State) → Takes k (past_sign g s) x → Takes k s x
past_sign_takes {A} {k} {x} g s = whether (at_sign g s)
  where
    whether : (b : Bool) → Takes k (if b then bump s else s) x → Takes k s x
    whether true p = behind 1 s p
    whether false p = p
