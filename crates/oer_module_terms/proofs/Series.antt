-- The turns of loops that read one after another.
use Rattle.std.proofs.Common.{◌≡◌, ℕ, suc, ◌+◌, ◌-◌, ◌≤◌, List, [], ◌∷◌, ◌++◌, length, Bool, true, false}
use Rattle.std.proofs.Common.{Ok, Err, sym, ap, ◌∙◌, arith}
use Rattle.oer_module_lexer.specs.Token.{spots_of}
use Rattle.oer_module_lexer.specs.declared.token.Spot.{Spot as RawSpot}
use Rattle.oer_module_syntax.proofs.Loops.{many_end, many_err, many_step}
use Rattle.oer_module_syntax.proofs.Spots.{spots_count}
use Rattle.oer_module_syntax.specs.Modules.{many}
use Rattle.oer_module_syntax.specs.State.{State, Read}
use Rattle.oer_module_syntax.specs.declared.fault.Fault.{Fault}
use Rattle.oer_module_terms.proofs.SameTurns.{same_turns}
use Rattle.oer_module_terms.proofs.Takes.{Takes}

-- What the loop began with is what is found and what is still to be read, at a turn; each turn before took a token.
pub record SoFar {A : Type 0} (done : State → Bool) (one : State → Read A) (ss : List RawSpot) (before : List A) (from : State)
    (t : ℕ) (found : List A) (s : State) : Type 0 where
  pub is : many done one (suc (length (spots_of ss))) before from ≡ many done one (suc (length s.left)) found s
  pub few : length s.left + t ≤ length (spots_of ss)

module _ {A : Type 0} {done : State → Bool} {one : State → Read A} {ss : List RawSpot} {before : List A} {from : State}
    {t : ℕ} {found : List A} {s : State} (so_far : SoFar done one ss before from t found s) where
  pub turn_end : done s ≡ true → many done one (suc (length (spots_of ss))) before from ≡ Ok (found, s)
  turn_end h = so_far.is ∙ many_end done one (suc (length s.left)) found s (omega arith) h

  pub turn_err : {e : Fault} → done s ≡ false → one s ≡ Err e → many done one (suc (length (spots_of ss))) before from ≡ Err e
  turn_err h g = so_far.is ∙ many_err done one (suc (length s.left)) found s _ (omega arith) h g

  pub turn_step : {x : A} {r : State} {more : List A} → ((u : State) → done u ≡ false → Takes 1 u (one u)) → done s ≡ false
      → one s ≡ Ok (x, r) → more ≡ found ++ x ∷ [] → SoFar done one ss before from (t + 1) more r
  turn_step {x} {r} turn h g pushed =
      let less = (turn s h).fewer (x, r) g in
      let few = so_far.few in
      record {
        is =
            so_far.is ∙ many_step done one (suc (length s.left)) found s _ _ (omega arith) h g
            ∙ same_turns done one turn (suc (length s.left) - 1) (suc (length r.left)) (found ++ x ∷ []) r (omega arith) (omega arith)
            ∙ ap (λ xs. many done one (suc (length r.left)) xs r) (sym pushed);
        few = omega arith;
      }

  pub no_turn : length ss + 1 ≤ t → ⊥
  no_turn over =
      let size = spots_count ss in
      let few = so_far.few in
      omega arith
