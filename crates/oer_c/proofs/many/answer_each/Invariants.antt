use Rattle.std.proofs.Common.{◌≡◌, ◌<◌, ◌≤◌, ℕ, get_or}
use Rattle.oer_types.specs.Schema.{the_type}
use Rattle.oer_c.specs.Messages.{IsAnswered}
use Rattle.oer_c.specs.declared.check.Checked.{Checked}
use Rattle.oer_c.specs.declared.many.Message.{Message}
use Rattle.oer_c.proofs.many.answer_each.Given as goal

-- those before the index have their answers, and the others are as before
abbrev pub invariant-loop-at : goal.invariant-loop-at
invariant-loop-at l = record {
  done : (k : ℕ) (m : Message) (a : Checked) → k < l.at → IsAnswered (the_type l.initial.schema) l.initial.octets (get_or l.initial.messages k m) (get_or l.answers k a);
  kept : (k : ℕ) (a : Checked) → l.at ≤ k → get_or l.answers k a ≡ get_or l.initial.answers k a;
}
