-- What is taken up to the bracket that closes.
use Rattle.std.proofs.Common.{◌≡◌, ℕ, suc, ◌+◌, List, [], ◌∷◌, ◌++◌, length, Bool, true, false, Ok, refl, ap, ap₂, ◌∙◌}
use Rattle.std.proofs.Math.Seq.{take-append_seam, drop-append_seam}
use Rattle.oer_module_lexer.specs.Token.{Token, Spot, sign}
use Rattle.oer_module_lexer.specs.declared.token.Sign.{Sign}
use Rattle.oer_module_lexer.specs.declared.token.Sign.TheVariants.{OpenParenthesis, CloseParenthesis}
use Rattle.oer_module_syntax.specs.Ranges.{nest, groups_len, group_len, group_at, constraints_at, starts_sign}
use Rattle.oer_module_syntax.specs.State.{State, ◌>>=◌, same_sign}
use Rattle.oer_module_syntax.specs.declared.range.Extent.{Extent}
use Rattle.oer_module_syntax.specs.declared.range.Extent.TheVariants.{Group, Constraints}
use Rattle.oer_module_syntax.proofs.Groups.{one_more, at_end}
use Rattle.oer_same_trees.proofs.Placed.{Placed, none_placed, placed, before, spot}

-- Tokens behind which all is closed for the first time that is open before them.
pub data Closing : List Sign → List Token → Type 0 where
  all_closed : Closing [] []
  step : {c : Sign} {cs ds : List Sign} {t : Token} {ts : List Token} → ((at : ℕ) → nest at t (c ∷ cs) ≡ Ok ds) → Closing ds ts
      → Closing (c ∷ cs) (t ∷ ts)

module _ (x : Extent) (s : State) (rest : List Spot) (ends : groups_len x s rest [] ≡ Ok 0) where
  pub closing_len : {cs : List Sign} {ts : List Token} → Closing cs ts → (ms : List Spot) → Placed ts ms → groups_len x s (ms ++ rest) cs ≡ Ok (length ms)
  unfolding groups_len
  closing_len all_closed _ none_placed = ends
  closing_len (step {c} {cs} {ds} n more) _ (placed {ss} at p) =
      ap (λ r. r >>= λ more. groups_len x s (ss ++ rest) more >>= λ n. Ok (1 + n)) (n at) ∙ ap (λ r. r >>= λ n. Ok (1 + n)) (closing_len more ss p)
      ∙ ap Ok (one_more (length ss))

-- ---- groups

module _ (end : ℕ) (complete : Bool) where
  pub no_group : (o : Sign) (ss : List Spot) → starts_sign o ss ≡ false → group_at o (before end complete ss) ≡ Ok ([], before end complete ss)
  unfolding group_at
  no_group o ss h = rw h refl

  pub opened_len : (o c : Sign) (ts : List Token) → ((at : ℕ) → nest at (sign o) [] ≡ Ok (c ∷ [])) → Closing (c ∷ []) ts → (at : ℕ) (ms rest : List Spot)
      → Placed ts ms → group_len (before end complete (spot at (sign o) ∷ (ms ++ rest))) ≡ Ok (suc (length ms))
  opened_len o c ts opens closes at ms rest p =
      let s = before end complete (spot at (sign o) ∷ (ms ++ rest)) in
      ap (λ r. r >>= λ cs. groups_len Group s (ms ++ rest) cs >>= λ n. Ok (1 + n)) (opens at)
      ∙ ap (λ r. r >>= λ n. Ok (1 + n)) (closing_len Group s rest (at_end s rest) closes ms p) ∙ ap Ok (one_more (length ms))

  pub group_taken : (o c : Sign) (ts : List Token) → ((at : ℕ) → nest at (sign o) [] ≡ Ok (c ∷ [])) → same_sign o o ≡ true → Closing (c ∷ []) ts
      → (at : ℕ) (ms rest : List Spot) → Placed ts ms
      → group_at o (before end complete (spot at (sign o) ∷ (ms ++ rest))) ≡ Ok (spot at (sign o) ∷ ms, before end complete rest)
  unfolding group_at
  group_taken o c ts opens same closes at ms rest p =
      rw (same, opened_len o c ts opens closes at ms rest p)
      (ap₂ (λ a b. Ok (spot at (sign o) ∷ a, before end complete b)) (take-append_seam ms rest) (drop-append_seam ms rest))

  -- ---- constraints

  no_more : (s : State) (ss : List Spot) → starts_sign OpenParenthesis ss ≡ false → groups_len Constraints s ss [] ≡ Ok 0
  unfolding groups_len
  no_more s [] h = refl
  no_more s (t ∷ ts) h = rw h refl

  pub no_constraints : (ss : List Spot) → starts_sign OpenParenthesis ss ≡ false → constraints_at (before end complete ss) ≡ Ok ([], before end complete ss)
  unfolding constraints_at
  no_constraints ss h = rw (no_more (before end complete ss) ss h) refl

  constraints_len : (ts : List Token) → Closing (CloseParenthesis ∷ []) ts → (s : State) (at : ℕ) (ms rest : List Spot) → Placed ts ms
      → starts_sign OpenParenthesis rest ≡ false → groups_len Constraints s (spot at (sign OpenParenthesis) ∷ (ms ++ rest)) [] ≡ Ok (suc (length ms))
  unfolding groups_len
  constraints_len ts closes s at ms rest p h =
      ap (λ r. r >>= λ n. Ok (1 + n)) (closing_len Constraints s rest (no_more s rest h) closes ms p) ∙ ap Ok (one_more (length ms))

  pub constraints_taken : (ts : List Token) → Closing (CloseParenthesis ∷ []) ts → (at : ℕ) (ms rest : List Spot) → Placed ts ms
      → starts_sign OpenParenthesis rest ≡ false
      → constraints_at (before end complete (spot at (sign OpenParenthesis) ∷ (ms ++ rest))) ≡ Ok (spot at (sign OpenParenthesis) ∷ ms, before end complete rest)
  unfolding constraints_at
  constraints_taken ts closes at ms rest p h =
      rw (constraints_len ts closes (before end complete (spot at (sign OpenParenthesis) ∷ (ms ++ rest))) at ms rest p h)
      (ap₂ (λ a b. Ok (spot at (sign OpenParenthesis) ∷ a, before end complete b)) (take-append_seam ms rest) (drop-append_seam ms rest))
