use Rattle.std.proofs.Common.{◌∙◌, ap, eq-eqb, sym, true≢false, codes, ◌++◌, ◌≡◌, ℕ, List, length, string_bytes}
use Rattle.std.proofs.lemmas.Result.{IfOk-weaker}
use Rattle.oer_at_cmd.proofs.Words.{placed}
use Rattle.oer_at_cmd.proofs.name.place_of.Goals as goal

pub returns : goal.returns
returns c =
    let some : length c.args.front.now ≡ 0 → ⊥ = λ e. true≢false (sym (eq-eqb _ 0 e) ∙ sym c.is_empty.ensures ∙ c.if-is_empty.false) in
    IfOk-weaker c.format.result _ _ (λ text h. placed c.args.front.now some (string_bytes text) (h ∙ ap (λ (l : List ℕ). codes " at " ++ l) c.in_ok-names.ensures.ok)) c.format.ensures.ok
