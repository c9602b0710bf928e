-- The turns of the loop that goes from name to name.
use Rattle.std.proofs.Common.{◌≡◌, ℕ, zero, suc, ◌+◌, ◌-◌, ◌≤◌, ◌<◌, List, Ok, Err, refl, ap, ◌∙◌, arith, sub-one}
use Rattle.oer_module_syntax.specs.Tree.{Module}
use Rattle.oer_module_text.specs.Errors.{Error, Read, error, place_in, unresolved, ◌>>=◌}
use Rattle.oer_module_values.specs.Errors.{circular}
use Rattle.oer_module_values.specs.Looks.{place_of}
use Rattle.oer_module_values.specs.Types.{TypeIn}
use Rattle.oer_units.specs.declared.tagging.Tag.{Tag}
use Rattle.oer_module_tags.specs.Outermost.{found, next, after, step, tag_within}

module _ (ms : List Module) (t : TypeIn) where
  within_once : (k : ℕ) → 0 < k → tag_within ms k t ≡ (step ms t >>= after (tag_within ms (k - 1)))
  unfolding tag_within
  within_once zero h = absurd (omega arith)
  within_once (suc k) h = rw sub-one refl

  within_none : (k : ℕ) → k ≤ 0 → tag_within ms k t ≡ error (place_in t.«module» (place_of t.type)) (unresolved circular)
  unfolding tag_within
  within_none zero h = refl
  within_none (suc k) h = absurd (omega arith)

  -- as many steps are left as the whole has, and it has come to i
  module _ (n i : ℕ) (whole : Read Tag) (is : whole ≡ tag_within ms (n - i) t) where
    pub tag_err : {e : Error} → i < n → step ms t ≡ Err e → whole ≡ Err e
    tag_err some h = is ∙ within_once (n - i) (omega arith) ∙ ap (λ r. r >>= after (tag_within ms (n - i - 1))) h

    pub tag_end : {g : Tag} → i < n → step ms t ≡ Ok (found g) → whole ≡ Ok g
    tag_end some h = is ∙ within_once (n - i) (omega arith) ∙ ap (λ r. r >>= after (tag_within ms (n - i - 1))) h

    pub tag_next : {u : TypeIn} → i < n → step ms t ≡ Ok (next u) → whole ≡ tag_within ms (n - (i + 1)) u
    tag_next {u} some h =
        let e : n - i - 1 ≡ n - (i + 1) = omega arith in
        is ∙ within_once (n - i) (omega arith) ∙ ap (λ r. r >>= after (tag_within ms (n - i - 1))) h ∙ ap (λ k. tag_within ms k u) e

    pub tag_over : n ≤ i → whole ≡ error (place_in t.«module» (place_of t.type)) (unresolved circular)
    tag_over h = is ∙ within_none (n - i) (omega arith)
