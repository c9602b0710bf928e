-- The turns of the loops that go from reference to reference.
use Rattle.std.proofs.Common.{◌≡◌, ℕ, zero, suc, ◌+◌, ◌-◌, ◌≤◌, ◌<◌, List, Option, Some, None, Result, Ok, Err, refl, ap, ◌∙◌, arith}
use Rattle.std.proofs.Common.{sub-one}
use Rattle.oer_module_syntax.specs.Tree.{Module}
use Rattle.oer_module_values.specs.Errors.{Error, error, place_in, circular, ◌>>=◌}
use Rattle.oer_module_values.specs.Looks.{place_of}
use Rattle.oer_module_values.specs.Numbers.{Wanted, Numeral, reached, wants, numeral, step as number_step, after as number_after}
use Rattle.oer_module_values.specs.Types.{TypeIn, Given, Meaning, after, step, walk}

module _ (ms : List Module) (t : TypeIn) (gs : List Given) where
  walk_once : (k : ℕ) → 0 < k → walk ms k t gs ≡ (step ms t gs >>= after (walk ms (k - 1)) t)
  unfolding walk
  walk_once zero h = absurd (omega arith)
  walk_once (suc k) h = rw sub-one refl

  walk_none : (k : ℕ) → k ≤ 0 → walk ms k t gs ≡ error (place_in t.«module» (place_of t.type)) circular
  unfolding walk
  walk_none zero h = refl
  walk_none (suc k) h = absurd (omega arith)

  -- the way is as long in all, and has come to i
  module _ (n i : ℕ) (whole : Result Meaning Error) (is : whole ≡ walk ms (n - i) t gs) where
    walk_by : {r : Result (Option TypeIn × List Given) Error} → i < n → step ms t gs ≡ r → whole ≡ (r >>= after (walk ms (n - i - 1)) t)
    walk_by some h = is ∙ walk_once (n - i) (omega arith) ∙ ap (λ r. r >>= after (walk ms (n - i - 1)) t) h

    pub walk_err : {e : Error} → i < n → step ms t gs ≡ Err e → whole ≡ Err e
    walk_err some h = walk_by some h

    pub walk_end : {hs : List Given} → i < n → step ms t gs ≡ Ok (None, hs) → whole ≡ Ok (record { of = t; given = hs })
    walk_end some h = walk_by some h

    pub walk_next : {u : TypeIn} {hs : List Given} → i < n → step ms t gs ≡ Ok (Some u, hs) → whole ≡ walk ms (n - (i + 1)) u hs
    walk_next {u} {hs} some h =
        let e : n - i - 1 ≡ n - (i + 1) = omega arith in
        walk_by some h ∙ ap (λ k. walk ms k u hs) e

    pub walk_over : n ≤ i → whole ≡ error (place_in t.«module» (place_of t.type)) circular
    walk_over h = is ∙ walk_none (n - i) (omega arith)

module _ (ms : List Module) (q : Wanted) where
  numeral_once : (k : ℕ) → 0 < k → numeral ms k q ≡ (number_step ms q >>= number_after (numeral ms (k - 1)))
  unfolding numeral
  numeral_once zero h = absurd (omega arith)
  numeral_once (suc k) h = rw sub-one refl

  numeral_none : (k : ℕ) → k ≤ 0 → numeral ms k q ≡ error q.place circular
  unfolding numeral
  numeral_none zero h = refl
  numeral_none (suc k) h = absurd (omega arith)

  module _ (n i : ℕ) (whole : Result Numeral Error) (is : whole ≡ numeral ms (n - i) q) where
    pub numeral_err : {e : Error} → i < n → number_step ms q ≡ Err e → whole ≡ Err e
    numeral_err some h = is ∙ numeral_once (n - i) (omega arith) ∙ ap (λ r. r >>= number_after (numeral ms (n - i - 1))) h

    pub numeral_end : {d : Numeral} → i < n → number_step ms q ≡ Ok (reached d) → whole ≡ Ok d
    numeral_end some h = is ∙ numeral_once (n - i) (omega arith) ∙ ap (λ r. r >>= number_after (numeral ms (n - i - 1))) h

    pub numeral_next : {r : Wanted} → i < n → number_step ms q ≡ Ok (wants r) → whole ≡ numeral ms (n - (i + 1)) r
    numeral_next {r} some h =
        let e : n - i - 1 ≡ n - (i + 1) = omega arith in
        is ∙ numeral_once (n - i) (omega arith) ∙ ap (λ r. r >>= number_after (numeral ms (n - i - 1))) h ∙ ap (λ k. numeral ms k r) e

    pub numeral_over : n ≤ i → whole ≡ error q.place circular
    numeral_over h = is ∙ numeral_none (n - i) (omega arith)
