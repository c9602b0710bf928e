-- The answer to one message, from what its steps write.
use Rattle.std.proofs.Common.{Result, ◌≡◌, ◌∙◌, ℕ, ◌≤◌, true, false, Option, Ok, Err, List, [], ◌∷◌, ◌++◌, cond, refl, sym, ap, subst, arith, append-nil, String, Global}
use Rattle.std.specs.Io.KnownBytes.{Appends}
use Rattle.clap.specs.Words.{Text}
use Rattle.oer_cmd.specs.Expected.{Expected, Meets, Refusal, refusal, refusal_of, unknown, value}
use Rattle.oer_cmd.specs.Faults.{AppendsFront, status_of}
use Rattle.oer_cmd.specs.declared.fault.Fault.{Fault}
use Rattle.oer_cmd.proofs.Meeting.{bytes}
use Rattle.oer_lines_cmd.specs.Answering.{IsKnown, Rejected}
use Rattle.oer_lines_cmd.specs.Answers.{Answered, Numbered, output_of, rejection, rejection_at, to_line}
use Rattle.oer_lines_cmd.specs.Lines.{is_message}
use Rattle.oer_lines_cmd.specs.declared.failure.Failure.{Failure}
use Rattle.oer_lines_cmd.specs.declared.way.Place.{Place}
use Rattle.oer_lines_cmd.specs.declared.way.Place.TheVariants.{Line}
use Rattle.oer_lines_cmd.proofs.Fronts.{keeps_same, no_front, no_fronts, one_front, appends_nothing}
use Rattle.oer_lines_cmd.proofs.Looping.{streams}

abbrev one : Place → Expected Text → List Numbered
one place x = record { place = place; answer = x } ∷ []

-- the line of a message is printed, or cut
pub shown : (x : Expected Text) (place : Place) (text : String Global) (o o' e : Option (List ℕ)) → IsKnown x → Meets bytes x (Ok text)
    → Appends o o' (bytes text ++ 10 ∷ []) → Answered (one place x) (Ok 0) (streams o o' e e)
shown unknown place text o o' e known meets h = absurd known
shown (value y) place text o o' e known meets h = (
  refl,
  subst (Appends o o') (ap (λ l. l ++ 10 ∷ []) meets ∙ sym (append-nil (y ++ 10 ∷ []))) h,
  no_fronts e e (keeps_same e),
)
shown (refusal r) place text o o' e known meets h = absurd meets

pub cut : (x : Expected Text) (place : Place) (text : String Global) (f : Failure) (o o' e : Option (List ℕ)) → IsKnown x → Meets bytes x (Ok text)
    → AppendsFront o o' (bytes text ++ 10 ∷ []) → Answered (one place x) (Err f) (streams o o' e e)
cut unknown place text f o o' e known meets h = absurd known
cut (value y) place text f o o' e known meets h =
    (subst (AppendsFront o o') (ap (λ l. l ++ 10 ∷ []) meets ∙ sym (append-nil (y ++ 10 ∷ []))) h, keeps_same e)
cut (refusal r) place text f o o' e known meets h = absurd meets

-- a message is rejected by this refusal
pub refused : (r : Refusal) (place : Place) (result : Result ℕ Failure) (o o' e e' : Option (List ℕ)) → Rejected place r result o o' e e'
    → Answered (one place (refusal r)) result (streams o o' e e')
refused r place (Ok status) o o' e e' (same, out, err) = (
  omega (arith, same),
  subst (Appends o o') (sym (append-nil (rejection r.text))) out,
  one_front e e' (rejection_at place r.text) err,
)
refused r place (Err f) o o' e e' (out, kept) = (subst (AppendsFront o o') (sym (append-nil (rejection r.text))) out, kept)

-- the message is rejected
pub rejected : (x : Expected Text) (place : Place) (fault : Fault) (result : Result ℕ Failure) (o o' e e' : Option (List ℕ)) → IsKnown x
    → Meets {X = String Global} bytes x (Err fault) → status_of fault ≤ 2 → Rejected place (refusal_of fault) result o o' e e'
    → Answered (one place x) result (streams o o' e e')
rejected unknown place fault result o o' e e' known meets small h = absurd known
rejected (value y) place fault result o o' e e' known meets small h = absurd (meets small)
rejected (refusal r) place fault result o o' e e' known meets small h =
    refused r place result o o' e e' (subst (λ q. Rejected place q result o o' e e') (meets small) h)

-- the machine failed before there was a line
pub broken : (x : Expected Text) (place : Place) (f : Failure) (o e : Option (List ℕ)) → Answered (one place x) (Err f) (streams o o e e)
broken x place f o e = (no_front o o (output_of (one place x)) (keeps_same o), keeps_same e)

-- the message on a line
pub on_line : (ask : Text → Expected Text) (n : ℕ) (line : Text) (result : Result ℕ Failure) (o o' e e' : Option (List ℕ)) → is_message line ≡ true
    → Answered (one (Line n) (ask line)) result (streams o o' e e') → Answered (to_line ask n line) result (streams o o' e e')
on_line ask n line result o o' e e' is h = subst (λ xs. Answered xs result (streams o o' e e')) (sym (ap (λ b. cond b (one (Line n) (ask line)) []) is)) h

-- no message
pub passed : (ask : Text → Expected Text) (n : ℕ) (line : Text) (o e : Option (List ℕ)) → is_message line ≡ false
    → Answered (to_line ask n line) (Ok 0) (streams o o e e)
passed ask n line o e is = subst (λ xs. Answered xs (Ok 0) (streams o o e e)) (sym (ap (λ b. cond b (one (Line n) (ask line)) []) is))
    (refl, appends_nothing o o (keeps_same o), no_fronts e e (keeps_same e))
