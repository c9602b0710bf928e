-- One answer more.
use Rattle.std.proofs.Common.{◌≡◌, ◌<◌, ◌≤◌, ◌+◌, ⊎_elim, ℕ, List, length, get_or, slice_set, sym, ap, ◌∙◌, subst, arith}
use Rattle.std.proofs.lemmas.Bool.{cases_lt}
use Rattle.std.proofs.lemmas.Grind.{get_or-set_at}
use Rattle.std.proofs.lemmas.List.{get_or_default, get_or-set_other}
use Rattle.oer_model.specs.AsnType.{AsnType}
use Rattle.oer_c.specs.Messages.{IsAnswered}
use Rattle.oer_c.specs.declared.check.Checked.{Checked}
use Rattle.oer_c.specs.declared.many.Message.{Message}

module _ (T : AsnType) (octets : List ℕ) (messages : List Message) (answers : List Checked) (at : ℕ) (x : Checked) where
  -- the messages before the index have their answers
  abbrev pub Done : List Checked → ℕ → Type 0
  Done all end = (k : ℕ) (m : Message) (a : Checked) → k < end → IsAnswered T octets (get_or messages k m) (get_or all k a)

  earlier : (k : ℕ) (m : Message) (a : Checked) → Done answers at → k < at → IsAnswered T octets (get_or messages k m) (get_or (slice_set answers at x) k a)
  earlier k m a done less = subst (λ (z : Checked). IsAnswered T octets (get_or messages k m) z) (sym (get_or-set_other answers at k x a (λ e. omega arith))) (done k m a less)

  last : (k : ℕ) (m d : Message) (a : Checked) → k ≡ at → at < length messages → at < length answers → IsAnswered T octets (get_or messages at d) x
      → IsAnswered T octets (get_or messages k m) (get_or (slice_set answers at x) k a)
  last k m d a e less room now =
      let read : get_or messages at d ≡ get_or messages k m = get_or_default messages at d m less ∙ ap (λ (j : ℕ). get_or messages j m) (sym e) in
      subst (λ (z : Message). IsAnswered T octets z (get_or (slice_set answers at x) k a)) read
      (subst (λ (z : Checked). IsAnswered T octets (get_or messages at d) z) (sym (get_or-set_at answers at k x a e room)) now)

  -- the answer at the index is put beside those before it
  pub one_more : (d : Message) → at < length messages → at < length answers → IsAnswered T octets (get_or messages at d) x → Done answers at → Done (slice_set answers at x) (at + 1)
  one_more d less room now done k m a before = ⊎_elim (λ l. earlier k m a done l) (λ le. last k m d a (omega arith) less room now) (cases_lt k at)

-- the answers after the index stay
pub kept_after : (answers old : List Checked) (at : ℕ) (x : Checked) → ((k : ℕ) (a : Checked) → at ≤ k → get_or answers k a ≡ get_or old k a)
    → (k : ℕ) (a : Checked) → at + 1 ≤ k → get_or (slice_set answers at x) k a ≡ get_or old k a
kept_after answers old at x kept k a after = get_or-set_other answers at k x a (λ e. omega arith) ∙ kept k a (omega arith)
