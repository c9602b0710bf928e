use Rattle.std.proofs.Common.{Result, ◌≡◌, ◌++◌, ◌+◌, ◌/◌, ◌%◌, ◌∙◌, ℕ, List, Ok, Err, OnOk, ap, append_assoc, string_bytes}
use Rattle.oer_cmd.specs.Ascii.{unit_escape}
use Rattle.oer_cmd.proofs.ascii.push_pair.Goals as goal

-- one text was appended, and then another
both : {A E : Type 0} (r : Result A E) (old mid new a b : List ℕ) → mid ≡ old ++ a → OnOk r (new ≡ mid ++ b)
    → OnOk r (new ≡ old ++ (a ++ b))
both (Ok x) old mid new a b e h = h ∙ ap (λ (l : List ℕ). l ++ b) e ∙ append_assoc old a b
both (Err x) old mid new a b e h = tt

pub returns : goal.returns
returns c = both c.push_unit-2.result (string_bytes c.args.out.now) (string_bytes c.push_unit.new.out) (string_bytes c.push_unit-2.new.out)
    (unit_escape (55296 + c.args.above / 1024)) (unit_escape (56320 + c.args.above % 1024)) c.in_ok-push_unit.ensures c.push_unit-2.ensures
