-- The turns from one module to the next.
use Rattle.std.proofs.Common.{◌≡◌, ◌<◌, ◌≤◌, ◌+◌, ◌-◌, ℕ, suc, List, Some, Ok, Err, sym, ap, ◌∙◌, arith}
use Rattle.oer_module_syntax.specs.Tree.{Module}
use Rattle.oer_module_names.specs.Finding.{Fault, ◌>>=◌, after, fault, follow, step}
use Rattle.oer_module_names.specs.declared.error.Found.{Found}
use Rattle.oer_module_names.specs.declared.error.Why.TheVariants.{Circular}
use Rattle.oer_module_names.specs.declared.way.Step.TheVariants.{Here, On}
use Rattle.oer_module_names.specs.declared.way.Way.{Way}

module _ (ms : List Module) (w : List ℕ) where
  follow_more : (n m : ℕ) (way : Way) → n ≡ suc m → follow ms w n way ≡ (step ms w way >>= after ms w (follow ms w m))
  unfolding follow
  follow_more n m way e = ap (λ i. follow ms w i way) e

  follow_over : (n : ℕ) (way : Way) → n ≡ 0 → follow ms w n way ≡ fault Circular w (Some way.place)
  unfolding follow
  follow_over n way e = ap (λ i. follow ms w i way) e

  -- turn t of n
  module _ (n t : ℕ) (start way : Way) (same : follow ms w n start ≡ follow ms w (n - t) way) where
    turn_more : t < n → follow ms w n start ≡ (step ms w way >>= after ms w (follow ms w (n - (t + 1))))
    turn_more l = same ∙ follow_more (n - t) (n - (t + 1)) way (omega (arith, l))

    pub turn_err : t < n → (e : Fault) → Err e ≡ step ms w way → Err e ≡ follow ms w n start
    turn_err l e s = sym (turn_more l ∙ ap (λ r. r >>= after ms w (follow ms w (n - (t + 1)))) (sym s))

    pub turn_here : t < n → (x : Found) → Ok (Here x) ≡ step ms w way → Ok x ≡ follow ms w n start
    turn_here l x s = sym (turn_more l ∙ ap (λ r. r >>= after ms w (follow ms w (n - (t + 1)))) (sym s))

    pub turn_on : t < n → (next : Way) → Ok (On next) ≡ step ms w way → follow ms w n start ≡ follow ms w (n - (t + 1)) next
    turn_on l next s = turn_more l ∙ ap (λ r. r >>= after ms w (follow ms w (n - (t + 1)))) (sym s)

    pub turns_over : n ≤ t → fault Circular w (Some way.place) ≡ follow ms w n start
    turns_over l = sym (same ∙ follow_over (n - t) way (omega (arith, l)))
