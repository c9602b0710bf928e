-- The turns of loops over lists.
use Rattle.std.proofs.Common.{◌≡◌, ℕ, zero, suc, ◌-◌, ◌≤◌, ◌<◌, List, [], ◌∷◌, ◌++◌, Bool, true, false, Ok, Err, refl, arith, sub-one}
use Rattle.oer_module_lexer.specs.declared.token.Sign.TheVariants.{Comma}
use Rattle.oer_module_syntax.specs.State.{State, Read, at_sign, bump, fault}
use Rattle.oer_module_syntax.specs.Modules.{many}
use Rattle.oer_module_syntax.specs.Types.{more_listed}
use Rattle.oer_module_syntax.specs.declared.fault.Fault.{Fault}
use Rattle.oer_module_syntax.specs.declared.fault.Sought.TheVariants as sought
use Rattle.oer_module_syntax.specs.declared.fault.Why.TheVariants as why

module _ {A : Type 0} (one : State → Read A) where
  pub listed_end : (n : ℕ) (found : List A) (s : State) → 0 < n → at_sign Comma s ≡ false → more_listed one n found s ≡ Ok (found, s)
  unfolding more_listed
  listed_end zero found s some h = absurd (omega arith)
  listed_end (suc n) found s some h = rw h refl

  pub listed_err : (n : ℕ) (found : List A) (s : State) (e : Fault) → 0 < n → at_sign Comma s ≡ true → one (bump s) ≡ Err e → more_listed one n found s ≡ Err e
  unfolding more_listed
  listed_err zero found s e some h g = absurd (omega arith)
  listed_err (suc n) found s e some h g = rw (h, g) refl

  pub listed_step : (n : ℕ) (found : List A) (s : State) (x : A) (r : State) → 0 < n → at_sign Comma s ≡ true → one (bump s) ≡ Ok (x, r) → more_listed one n found s ≡ more_listed one (n - 1) (found ++ x ∷ []) r
  unfolding more_listed
  listed_step zero found s x r some h g = absurd (omega arith)
  listed_step (suc n) found s x r some h g = rw (h, g, sub-one) refl

  pub listed_over : (n : ℕ) (found : List A) (s : State) → n ≤ 0 → more_listed one n found s ≡ Err (fault (why.Expected sought.Closing) s)
  unfolding more_listed
  listed_over zero found s h = refl
  listed_over (suc n) found s h = absurd (omega arith)

module _ {A : Type 0} (done : State → Bool) (one : State → Read A) where
  pub many_end : (n : ℕ) (found : List A) (s : State) → 0 < n → done s ≡ true → many done one n found s ≡ Ok (found, s)
  unfolding many
  many_end zero found s some h = absurd (omega arith)
  many_end (suc n) found s some h = rw h refl

  pub many_err : (n : ℕ) (found : List A) (s : State) (e : Fault) → 0 < n → done s ≡ false → one s ≡ Err e → many done one n found s ≡ Err e
  unfolding many
  many_err zero found s e some h g = absurd (omega arith)
  many_err (suc n) found s e some h g = rw (h, g) refl

  pub many_step : (n : ℕ) (found : List A) (s : State) (x : A) (r : State) → 0 < n → done s ≡ false → one s ≡ Ok (x, r) → many done one n found s ≡ many done one (n - 1) (found ++ x ∷ []) r
  unfolding many
  many_step zero found s x r some h g = absurd (omega arith)
  many_step (suc n) found s x r some h g = rw (h, g, sub-one) refl

  pub many_over : (n : ℕ) (found : List A) (s : State) → n ≤ 0 → many done one n found s ≡ Err (fault (why.Expected sought.Closing) s)
  unfolding many
  many_over zero found s h = refl
  many_over (suc n) found s h = absurd (omega arith)
