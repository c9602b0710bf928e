-- How the program ends, from what its steps answer.
use Rattle.std.proofs.Common.{◌≡◌, ◌∙◌, ℕ, ◌≤◌, List, Bool, true, false, Option, Some, None, Ok, Err, String, Global, refl, sym, ap, subst, arith, string_bytes, ◌⊎◌, inl, inr, leb}
use Rattle.std.proofs.lemmas.Bool.{leb-false, leb-true}
use Rattle.std.specs.Io.KnownBytes.{Appends, Keeps}
use Rattle.oer_cmd.specs.Ending.{IsMachineLine, MayPrint, Streams}
use Rattle.oer_cmd.specs.Expected.{Expected, Refusal, refusal, refusal_of, unknown, value}
use Rattle.oer_cmd.specs.Faults.{AppendsFront, Reports, error_line, status_of as fault_status}
use Rattle.oer_cmd.specs.declared.fault.Fault.{Fault}
use Rattle.oer_cmd.proofs.Endings.{by_status, moved}
use Rattle.oer_cmd.proofs.Meeting.{bytes}
use Rattle.oer_module_cmd.specs.Errors.{Error, Reports as ReportsError, input, line_of, memory, not_text, options, refused, status_of as error_status}
use Rattle.oer_module_options.specs.Words.{Text}
use Rattle.oer_types_cmd.specs.Answer.{Meets}
use Rattle.oer_types_cmd.specs.Ending.{Delivers, EndsIn}
use Rattle.oer_types_cmd.specs.Stops.{Tells, TellsMachine, by_error, stop_of}
use Rattle.oer_types_cmd.specs.declared.stop.Stop.{Stop}

-- ---- the status

pub at_three : (n : ℕ) → (n ≤ 2 → n ≡ 3) → n ≤ 3 → n ≡ 3
at_three n h most = by (leb n 2) refl where
  by : (b : Bool) → leb n 2 ≡ b → n ≡ 3
  by true e = h (leb-true n 2 e)
  by false e = let more = leb-false n 2 e in omega (arith, more, most)

two_or_three : (n : ℕ) → n ≤ 3 → (n ≤ 2) ⊎ (n ≡ 3)
two_or_three n most = by (leb n 2) refl where
  by : (b : Bool) → leb n 2 ≡ b → (n ≤ 2) ⊎ (n ≡ 3)
  by true e = inl (leb-true n 2 e)
  by false e = inr (let more = leb-false n 2 e in omega (arith, more, most))

-- ---- the line of an error

-- of words or modules
pub error_status_told : (e : Error) (status : ℕ) (old new : Option (List ℕ)) → ReportsError e status old new → status ≤ 2
    → status ≡ error_status e
error_status_told e status old new (line, inl (same, is), front) small = same
error_status_told e status old new (line, inr (three, is), front) small = absurd (omega (arith, three, small))

pub error_told : (e : Error) (status : ℕ) (old new : Option (List ℕ)) → ReportsError e status old new → status ≤ 2
    → Tells (by_error e) old new
error_told e status old new (line, inl (same, is), front) small = subst (λ (w : Text). AppendsFront old new w) is front
error_told e status old new (line, inr (three, is), front) small = absurd (omega (arith, three, small))

own_machine : (e : Error) (line : Text) → error_status e ≡ 3 → line ≡ line_of e → IsMachineLine line
own_machine (options e) line three is = absurd (omega (arith, three))
own_machine not_text line three is = absurd (omega (arith, three))
own_machine (refused r) line three is = absurd (omega (arith, three))
own_machine input line three is = inl is
own_machine memory line three is = inr (inr is)

pub error_machine : (e : Error) (status : ℕ) (old new : Option (List ℕ)) → ReportsError e status old new → status ≡ 3
    → TellsMachine old new
error_machine e status old new (line, inl (same, is), front) three = (line, own_machine e line (sym same ∙ three) is, front)
error_machine e status old new (line, inr (same, is), front) three = (line, inr (inr is), front)

-- of definitions
pub fault_told : (fault : Fault) (status : ℕ) (old new : Option (List ℕ)) → Reports fault status old new → status ≤ 2
    → Tells (refusal_of fault) old new
fault_told fault status old new (line, inl (same, is), front) small = subst (λ (w : Text). AppendsFront old new w) is front
fault_told fault status old new (line, inr (three, is), front) small = absurd (omega (arith, three, small))

pub fault_machine : (fault : Fault) (status : ℕ) (old new : Option (List ℕ)) → Reports fault status old new → status ≡ 3
    → TellsMachine old new
fault_machine fault status old new (line, inr (same, is), front) three = (line, inr (inr is), front)
fault_machine fault status old new (line, inl (same, is), front) three = by (by_status fault) where
  by : (fault_status fault ≤ 2) ⊎ ((fault_status fault ≡ 3) × IsMachineLine (error_line fault)) → TellsMachine old new
  by (inl small) = absurd (omega (arith, same, three, small))
  by (inr (high, own)) = (line, moved line (error_line fault) is own, front)

-- ---- the end

pub may_print : (m : Expected Text) (s : String Global) → Meets bytes m (Ok s) → MayPrint m (string_bytes s)
may_print unknown s h = tt
may_print (refusal r) s h = h
may_print (value t) s h = sym h

-- It is told why nothing is printed.
pub told_end : (m : Expected Text) (e : Stop) (status : ℕ) (s : Streams) → Meets {X = String Global} bytes m (Err e)
    → (status ≤ 2 → status ≡ (stop_of e).status) → (status ≤ 2 → Tells (stop_of e) s.errors s.errors')
    → (status ≡ 3 → TellsMachine s.errors s.errors') → status ≤ 3 → Keeps s.output s.output' → EndsIn m status s
told_end m e status s meets own line machine most kept = by (two_or_three status most) where
  told : (m : Expected Text) → Meets {X = String Global} bytes m (Err e) → status ≤ 2 → Delivers m status s
  told unknown h small = tt
  told (value t) h small = let same = own small in absurd (h (omega (arith, same, small)))
  told (refusal r) h small =
      let same = own small in
      let is = h (omega (arith, same, small)) in
      (same ∙ ap (λ (q : Refusal). q.status) is, kept, subst (λ (q : Refusal). Tells q s.errors s.errors') is (line small))

  by : (status ≤ 2) ⊎ (status ≡ 3) → EndsIn m status s
  by (inl small) = inl (told m meets small)
  by (inr three) = inr (three, inl kept, machine three)

-- The text is printed, or the output fails.
pub printed_end : (m : Expected Text) (text : Text) (status : ℕ) (s : Streams) → MayPrint m text
    → (status ≡ 0 → Appends s.output s.output' text) → (status ≡ 0 → Keeps s.errors s.errors') → (status ≡ 0) ⊎ (status ≡ 3)
    → AppendsFront s.output s.output' text → (status ≡ 3 → TellsMachine s.errors s.errors') → EndsIn m status s
printed_end m text status s may whole alone (inr three) front machine = inr (three, inr (text, may, front), machine three)
printed_end m text status s may whole alone (inl zero) front machine = inl (by m may) where
  by : (m : Expected Text) → MayPrint m text → Delivers m status s
  by unknown may = tt
  by (value t) may = (zero, subst (λ (w : Text). Appends s.output s.output' w) (sym may) (whole zero), alone zero)
  by (refusal r) may = absurd may

-- Printing ends with 0 or 3.
pub not_between : (status : ℕ) → (status ≡ 0) ⊎ (status ≡ 3) → 1 ≤ status → status ≤ 2 → ⊥
not_between status (inl zero) some small = omega (arith, zero, some)
not_between status (inr three) some small = omega (arith, three, small)

-- nothing was written
pub kept : (a : Option (List ℕ)) → Keeps a a
kept None = tt
kept (Some x) = refl
