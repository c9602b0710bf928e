use Rattle.std.proofs.Common.{◌≡◌, ◌+◌, ◌-◌, ◌≤◌, List, ℕ, length, take, drop, ◌++◌, arith, ap, sym, ◌∙◌}
use Rattle.std.proofs.Math.Seq.{take-add}
use Rattle.std.proofs.lemmas.List.{append_cancel_left}
use Rattle.std.proofs.lemmas.Slice.Eq.{bytes_eq-Decides}
use Rattle.oer_leaves.proofs.comparison.stands_at.Goals as goal

pub returns : goal.returns
returns c =
    let o = c.args.octets.now in
    let part = c.args.part.now in
    let cut : length part ≡ c.args.at + length part - c.args.at = omega (arith) in
    let split : take (c.args.at + length part) o ≡ take c.args.at o ++ take (c.args.at + length part - c.args.at) (drop c.args.at o) = take-add c.args.at (length part) o ∙ ap (λ n. take c.args.at o ++ take n (drop c.args.at o)) cut in
    let within : c.args.at + length part ≤ length o = omega (arith, c.if-part-octets.false, c.if-at-octets.false) in (
      λ equal. (within, split ∙ ap (λ (l : List ℕ). take c.args.at o ++ l) ((bytes_eq-Decides _ _).0 (sym c.eq.ensures ∙ equal))),
      λ stands. c.eq.ensures ∙ (bytes_eq-Decides _ _).1 (append_cancel_left (take c.args.at o) _ _ (sym split ∙ stands.1)),
    )
