use Rattle.std.proofs.Common.{◌≡◌, List, ℕ, Result, Ok, Err, String, Global, IfOk, ◌∙◌, string_bytes, append_assoc}
use Rattle.oer_lines_cmd.specs.Answering.{refusal_by}
use Rattle.oer_lines_cmd.specs.Answers.{rejection_at}
use Rattle.oer_lines_cmd.proofs.answer.rejection_at.Goals as goal

same_text : {E : Type 0} (r : Result (String Global) E) (x y : List ℕ) → IfOk r (λ s. string_bytes s ≡ x) → x ≡ y → IfOk r (λ s. string_bytes s ≡ y)
same_text (Ok s) x y h e = h ∙ e
same_text (Err f) x y h e = tt

pub returns : goal.returns
returns c = same_text c.format.result _ (rejection_at c.args.place (refusal_by c.args.why).text) c.format.ensures.ok (simp append_assoc)
