-- The answers to some messages after others.
use Rattle.std.proofs.Common.{◌≡◌, ◌∙◌, ℕ, ◌+◌, max, List, [], ◌∷◌, ◌++◌, length, refl, sym, ap, arith, append_assoc}
use Rattle.oer_lines_cmd.specs.Answers.{Numbered, answers_from, error_line_at, error_lines, output_line, output_of, worst}

module _ {X : Type 0} (to : ℕ → X → List Numbered) where
  pub answers_both : (n : ℕ) (ls ms : List X) → answers_from to n (ls ++ ms) ≡ answers_from to n ls ++ answers_from to (n + length ls) ms
  answers_both n [] ms = ap (λ k. answers_from to k ms) (omega arith)
  answers_both n (l ∷ ls) ms =
      ap (λ xs. to n l ++ xs) (answers_both (n + 1) ls ms)
      ∙ ap (λ k. to n l ++ (answers_from to (n + 1) ls ++ answers_from to k ms)) (omega arith)
      ∙ sym (append_assoc (to n l) (answers_from to (n + 1) ls) (answers_from to (n + length (l ∷ ls)) ms))

  -- those to more
  pub answers_more : (ls ms : List X) (n : ℕ) → n ≡ 1 + length ls → answers_from to 1 (ls ++ ms) ≡ answers_from to 1 ls ++ answers_from to n ms
  answers_more ls ms n is = answers_both 1 ls ms ∙ ap (λ k. answers_from to 1 ls ++ answers_from to k ms) (sym is)

pub output_both : (xs bs : List Numbered) → output_of (xs ++ bs) ≡ output_of xs ++ output_of bs
output_both [] bs = refl
output_both (a ∷ xs) bs = ap (λ t. output_line a.answer ++ t) (output_both xs bs) ∙ sym (append_assoc (output_line a.answer) (output_of xs) (output_of bs))

pub errors_both : (xs bs : List Numbered) → error_lines (xs ++ bs) ≡ error_lines xs ++ error_lines bs
errors_both [] bs = refl
errors_both (a ∷ xs) bs = ap (λ ls. error_line_at a.place a.answer ++ ls) (errors_both xs bs)
    ∙ sym (append_assoc (error_line_at a.place a.answer) (error_lines xs) (error_lines bs))

pub worst_both : (xs bs : List Numbered) → worst (xs ++ bs) ≡ max (worst xs) (worst bs)
worst_both [] bs = omega arith
worst_both (a ∷ xs) bs = omega (arith, worst_both xs bs)
