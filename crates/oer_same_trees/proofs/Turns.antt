-- What is read turn by turn.
use Rattle.std.proofs.Common.{◌≡◌, ℕ, zero, suc, ◌<◌, List, [], ◌∷◌, ◌++◌, length, length-append, Bool, true, false, Ok, refl, sym, ap, ◌∙◌, append_assoc, append-nil, arith}
use Rattle.oer_module_lexer.specs.Token.{Spot, sign}
use Rattle.oer_module_lexer.specs.declared.token.Sign.TheVariants.{Comma}
use Rattle.oer_module_syntax.specs.Modules.{many}
use Rattle.oer_module_syntax.specs.State.{State, Read, ◌>>=◌, at_sign}
use Rattle.oer_module_syntax.specs.Types.{listed, more_listed}
use Rattle.oer_same_trees.proofs.Placed.{before, spot}

-- ---- behind commas

-- Each is read from its tokens, which stand behind a comma.
pub data Turns (A : Type 0) (end : ℕ) (complete : Bool) (one : State → Read A) (tail : List Spot) : List A → List Spot → Type 0 where
  turned : Turns A end complete one tail [] []
  turn : {x : A} {xs : List A} {us : List Spot} (at : ℕ) (ps : List Spot)
      → one (before end complete (ps ++ (us ++ tail))) ≡ Ok (x, before end complete (us ++ tail)) → Turns A end complete one tail xs us
      → Turns A end complete one tail (x ∷ xs) (spot at (sign Comma) ∷ (ps ++ us))

module _ {A : Type 0} (end : ℕ) (complete : Bool) (one : State → Read A) (tail : List Spot) (ends : at_sign Comma (before end complete tail) ≡ false) where
  pub more_turns : (n : ℕ) (found : List A) {xs : List A} {ss : List Spot} → Turns A end complete one tail xs ss → length (ss ++ tail) < n
      → more_listed one n found (before end complete (ss ++ tail)) ≡ Ok (found ++ xs, before end complete tail)
  unfolding more_listed
  more_turns zero found turned h = absurd (omega arith)
  more_turns zero found (turn at ps e more) h = absurd (omega arith)
  more_turns (suc n) found turned h = rw ends (ap (λ l. Ok (l, before end complete tail)) (sym (append-nil found)))
  more_turns (suc n) found (turn {x} {xs} {us} at ps e more) h =
      let a = length-append (ps ++ us) tail in
      let b = length-append ps us in
      let c = length-append us tail in
      ap (λ r. r >>= λ e. more_listed one n (found ++ e.0 ∷ []) e.1) (ap (λ l. one (before end complete l)) (append_assoc ps us tail) ∙ e)
      ∙ more_turns n (found ++ x ∷ []) more (omega arith) ∙ ap (λ l. Ok (l, before end complete tail)) (append_assoc found (x ∷ []) xs)

  -- without the comma before the first
  pub first_turns : {xs : List A} {ss : List Spot} {at : ℕ} → Turns A end complete one tail xs (spot at (sign Comma) ∷ ss)
      → listed one (before end complete (ss ++ tail)) ≡ Ok (xs, before end complete tail)
  first_turns (turn {x} {xs} {us} at ps e more) =
      ap (λ r. r >>= λ e. more_listed one (suc (length e.1.left)) (e.0 ∷ []) e.1) (ap (λ l. one (before end complete l)) (append_assoc ps us tail) ∙ e)
      ∙ more_turns (suc (length (us ++ tail))) (x ∷ []) more (omega arith)

-- ---- one after another

-- Each is read from its tokens, of which it has some, and none of them ends the list.
pub data Runs (A : Type 0) (end : ℕ) (complete : Bool) (done : State → Bool) (one : State → Read A) (tail : List Spot) : List A → List Spot → Type 0 where
  ran : Runs A end complete done one tail [] []
  run : {x : A} {xs : List A} {us : List Spot} (p : Spot) (ps : List Spot) → done (before end complete (p ∷ (ps ++ (us ++ tail)))) ≡ false
      → one (before end complete (p ∷ (ps ++ (us ++ tail)))) ≡ Ok (x, before end complete (us ++ tail))
      → Runs A end complete done one tail xs us → Runs A end complete done one tail (x ∷ xs) (p ∷ (ps ++ us))

module _ {A : Type 0} (end : ℕ) (complete : Bool) (done : State → Bool) (one : State → Read A) (tail : List Spot) (ends : done (before end complete tail) ≡ true) where
  run_turn : (n : ℕ) (found : List A) (s : State) → done s ≡ false → many done one (suc n) found s ≡ (one s >>= λ x. many done one n (found ++ x.0 ∷ []) x.1)
  unfolding many
  run_turn n found s h = rw h refl

  pub all_run : (n : ℕ) (found : List A) {xs : List A} {ss : List Spot} → Runs A end complete done one tail xs ss → length (ss ++ tail) < n
      → many done one n found (before end complete (ss ++ tail)) ≡ Ok (found ++ xs, before end complete tail)
  unfolding many
  all_run zero found ran h = absurd (omega arith)
  all_run zero found (run p ps d e more) h = absurd (omega arith)
  all_run (suc n) found ran h = rw ends (ap (λ l. Ok (l, before end complete tail)) (sym (append-nil found)))
  all_run (suc n) found (run {x} {xs} {us} p ps d e more) h =
      let a = length-append (ps ++ us) tail in
      let b = length-append ps us in
      let c = length-append us tail in
      ap (λ l. many done one (suc n) found (before end complete (p ∷ l))) (append_assoc ps us tail)
      ∙ run_turn n found (before end complete (p ∷ (ps ++ (us ++ tail)))) d ∙ ap (λ r. r >>= λ e. many done one n (found ++ e.0 ∷ []) e.1) e
      ∙ all_run n (found ++ x ∷ []) more (omega arith) ∙ ap (λ l. Ok (l, before end complete tail)) (append_assoc found (x ∷ []) xs)
