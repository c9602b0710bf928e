-- The turns of the loop that goes from reference to reference.
use Rattle.std.proofs.Common.{◌≡◌, ℕ, zero, suc, ◌+◌, ◌-◌, ◌≤◌, ◌<◌, List, Ok, Err, refl, ap, ◌∙◌, arith, sub-one}
use Rattle.oer_module_syntax.specs.Tree.{Module}
use Rattle.oer_module_terms.specs.Trees.{Value}
use Rattle.oer_module_text.specs.Errors.{Error, Read, error, unresolved, ◌>>=◌}
use Rattle.oer_module_values.specs.Errors.{circular}
use Rattle.oer_module_defaults.specs.Walks.{Source, Literal, reached, goes, source_place, step, after, walk}

module _ (ms : List Module) (s : Source) where
  walk_once : (k : ℕ) → 0 < k → walk ms k s ≡ (step ms s >>= after (walk ms (k - 1)) s)
  unfolding walk
  walk_once zero h = absurd (omega arith)
  walk_once (suc k) h = rw sub-one refl

  walk_none : (k : ℕ) → k ≤ 0 → walk ms k s ≡ error (source_place s) (unresolved circular)
  unfolding walk
  walk_none zero h = refl
  walk_none (suc k) h = absurd (omega arith)

  -- the way is as long in all, and has come to i
  module _ (n i : ℕ) (whole : Read Literal) (is : whole ≡ walk ms (n - i) s) where
    pub walk_err : {e : Error} → i < n → step ms s ≡ Err e → whole ≡ Err e
    walk_err some h = is ∙ walk_once (n - i) (omega arith) ∙ ap (λ r. r >>= after (walk ms (n - i - 1)) s) h

    pub walk_end : {v : Value} → i < n → step ms s ≡ Ok (reached v)
        → whole ≡ Ok (record { place = source_place s; governor = s.governor; value = v })
    walk_end some h = is ∙ walk_once (n - i) (omega arith) ∙ ap (λ r. r >>= after (walk ms (n - i - 1)) s) h

    pub walk_next : {u : Source} → i < n → step ms s ≡ Ok (goes u) → whole ≡ walk ms (n - (i + 1)) u
    walk_next {u} some h =
        let e : n - i - 1 ≡ n - (i + 1) = omega arith in
        is ∙ walk_once (n - i) (omega arith) ∙ ap (λ r. r >>= after (walk ms (n - i - 1)) s) h ∙ ap (λ k. walk ms k u) e

    pub walk_over : n ≤ i → whole ≡ error (source_place s) (unresolved circular)
    walk_over h = is ∙ walk_none (n - i) (omega arith)
