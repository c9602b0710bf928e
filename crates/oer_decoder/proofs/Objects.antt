-- Object identifiers: one subidentifier after another.
use Rattle.std.proofs.Common.{◌≡◌, ◌≢◌, ℕ, zero, suc, ◌-◌, leb, refl, List, [], ◌∷◌, ◌++◌, Result, Ok, Err, sym, ◌∙◌, ap, subst, arith, append_assoc, append-nil}
use Rattle.std.proofs.lemmas.Bool.{eq-eqb, le-leb, lt-leb, ne_eqb}
use Rattle.oer_units.specs.declared.fault.Why.TheVariants.{Memory, ObjectId}
use Rattle.oer_units.specs.declared.fault.ReadFault.{ReadFault}
use Rattle.oer_units.specs.Reader.{bind, give, guard, Reader}
use Rattle.oer_units.specs.Reading.{arcs_of, counted_length, object_identifier, subidentifier, subidentifiers}
use Rattle.oer_units.specs.Reads.{Leads, Reads, seen, State}
use Rattle.oer_units.proofs.ReadLengths.{with_stop, with_then}
use Rattle.oer_units.proofs.ReadSteps.{Reads-give, Reads-map, Reads-memory_after, Reads-stop, Reads-then}
use Rattle.oer_model.specs.AsnType.{object_id}
use Rattle.oer_model.specs.AsnValue.{oid}
use Rattle.oer_model.specs.Reading.{read_value}
use Rattle.oer_decoder.proofs.Joins.{guard_no, guard_yes, IsPlain, plain, seen_twice}

abbrev after_first : ℕ → ℕ → ℕ × ℕ → Reader (List ℕ)
after_first fuel n x = bind (subidentifiers fuel (n - x.1)) (λ xs. give (x.0 ∷ xs))

subs_then : (fuel n : ℕ) (s s' s'' : State) (x j : ℕ) (result : Result (List ℕ) ReadFault) → n ≢ 0 → Reads (subidentifier n) s (Ok (x, j)) s' → Reads (subidentifiers fuel (n - j)) s' result s'' → Reads (subidentifiers (suc fuel) n) s (seen (λ ys. x ∷ ys) result) s''
unfolding subidentifiers
subs_then fuel n s s' s'' x j result some h k =
    rw (ne_eqb n 0 some) (Reads-then (subidentifier n) (after_first fuel n) s s' s'' (x, j) (seen (λ ys. x ∷ ys) result) h (Reads-map (subidentifiers fuel (n - j)) (λ ys. x ∷ ys) s' s'' result k))

subs_none : (fuel n : ℕ) (s : State) → n ≡ 0 → Reads (subidentifiers fuel n) s (Ok []) s
unfolding subidentifiers
subs_none zero n s none = Reads-give [] s
subs_none (suc fuel) n s none = rw (eq-eqb n 0 none) (Reads-give [] s)

subs_spent : (n : ℕ) (s : State) → Reads (subidentifiers 0 n) s (Ok []) s
unfolding subidentifiers
subs_spent n s = Reads-give [] s

subs_first : (fuel n : ℕ) (s s' : State) (e : ReadFault) → n ≢ 0 → Reads (subidentifier n) s (Err e) s' → Reads (subidentifiers (suc fuel) n) s (Err e) s'
unfolding subidentifiers
subs_first fuel n s s' e some h = rw (ne_eqb n 0 some) (Reads-stop (subidentifier n) (after_first fuel n) s s' e h)

pub subs_next : (k fuel n m : ℕ) (xs ys : List ℕ) (x j : ℕ) (s s' old : State) (whole : Reader (List ℕ)) → k ≡ suc fuel → n ≢ 0 → m ≡ n - j → ys ≡ xs ++ x ∷ [] → Leads (subidentifiers k n) s (λ zs. xs ++ zs) whole old → Reads (subidentifier n) s (Ok (x, j)) s' → Leads (subidentifiers fuel m) s' (λ zs. ys ++ zs) whole old
subs_next k fuel n m xs ys x j s s' old whole more some left is p h result then r =
    let here : Reads (subidentifiers fuel (n - j)) s' result then = subst (λ (i : ℕ). Reads (subidentifiers fuel i) s' result then) left r in
    let lead : Leads (subidentifiers (suc fuel) n) s (λ zs. xs ++ zs) whole old = subst (λ (i : ℕ). Leads (subidentifiers i n) s (λ zs. xs ++ zs) whole old) more p in
    seen_twice (λ zs. x ∷ zs) (λ zs. xs ++ zs) (λ zs. ys ++ zs) whole old then result (λ zs. sym (ap (λ (l : List ℕ). l ++ zs) is ∙ append_assoc xs (x ∷ []) zs)) (lead (seen (λ zs. x ∷ zs) result) then (subs_then fuel n s s' then x j result some h here))

pub subs_stop : (k fuel n : ℕ) (xs : List ℕ) (s s' old : State) (whole : Reader (List ℕ)) (e : ReadFault) → k ≡ suc fuel → n ≢ 0 → Leads (subidentifiers k n) s (λ zs. xs ++ zs) whole old → Reads (subidentifier n) s (Err e) s' → Reads whole old (Err e) s'
subs_stop k fuel n xs s s' old whole e more some p h =
    let lead : Leads (subidentifiers (suc fuel) n) s (λ zs. xs ++ zs) whole old = subst (λ (i : ℕ). Leads (subidentifiers i n) s (λ zs. xs ++ zs) whole old) more p in
    lead (Err e) s' (subs_first fuel n s s' e some h)

pub subs_memory : (k fuel n : ℕ) (xs : List ℕ) (x j : ℕ) (s s' old : State) (whole : Reader (List ℕ)) (e : ReadFault) → k ≡ suc fuel → n ≢ 0 → e.why ≡ Memory → e.taken ≡ s'.bound.taken → Leads (subidentifiers k n) s (λ zs. xs ++ zs) whole old → Reads (subidentifier n) s (Ok (x, j)) s' → Reads whole old (Err e) s'
subs_memory k fuel n xs x j s s' old whole e more some why taken p h =
    p (Err e) s' (Reads-memory_after (subidentifier n) (subidentifiers k n) s s' (x, j) e h why taken)

ended : (xs : List ℕ) (s old : State) (whole : Reader (List ℕ)) → Reads whole old (Ok (xs ++ [])) s → Reads whole old (Ok xs) s
ended xs s old whole h = subst (λ (l : List ℕ). Reads whole old (Ok l) s) (append-nil xs) h

pub subs_end : (k n : ℕ) (xs : List ℕ) (s old : State) (whole : Reader (List ℕ)) → n ≡ 0 → Leads (subidentifiers k n) s (λ zs. xs ++ zs) whole old → Reads whole old (Ok xs) s
subs_end k n xs s old whole none p = ended xs s old whole (p (Ok []) s (subs_none k n s none))

pub subs_out : (k n : ℕ) (xs : List ℕ) (s old : State) (whole : Reader (List ℕ)) → k ≡ 0 → Leads (subidentifiers k n) s (λ zs. xs ++ zs) whole old → Reads whole old (Ok xs) s
subs_out k n xs s old whole none p = ended xs s old whole (p (Ok []) s (subst (λ (i : ℕ). Reads (subidentifiers i n) s (Ok []) s) (sym none) (subs_spent n s)))

-- ---- the arcs

object_plain : IsPlain ObjectId
object_plain = plain ObjectId refl (λ d. cc)

abbrev arcs_in : ℕ → Reader (List ℕ)
arcs_in n = guard (leb 1 n) ObjectId (bind (subidentifiers n n) (λ xs. give (arcs_of xs)))

pub object_stop : (s s' : State) (e : ReadFault) → Reads counted_length s (Err e) s' → Reads (read_value object_id) s (Err e) s'
unfolding object_identifier
object_stop s s' e h = Reads-stop object_identifier (λ w. give (oid w)) s s' e (with_stop arcs_in s s' e h)

pub object_empty : (s s' : State) (n : ℕ) (e : ReadFault) → Reads counted_length s (Ok n) s' → n ≡ 0 → e.why ≡ ObjectId → e.taken ≡ s'.bound.taken → Reads (read_value object_id) s (Err e) s'
unfolding object_identifier
object_empty s s' n e h none why taken =
    Reads-stop object_identifier (λ w. give (oid w)) s s' e (with_then arcs_in s s' s' n (Err e) h (guard_no (leb 1 n) ObjectId (bind (subidentifiers n n) (λ xs. give (arcs_of xs))) s' e (lt-leb 1 n (omega arith)) object_plain why taken))

pub object_then : (s s' s'' : State) (n : ℕ) (result : Result (List ℕ) ReadFault) → Reads counted_length s (Ok n) s' → n ≢ 0 → Reads (subidentifiers n n) s' result s'' → Reads (read_value object_id) s (seen (λ xs. oid (arcs_of xs)) result) s''
unfolding object_identifier
object_then s s' s'' n (Ok xs) h some k =
    Reads-map object_identifier oid s s'' (Ok (arcs_of xs)) (with_then arcs_in s s' s'' n (Ok (arcs_of xs)) h (guard_yes (leb 1 n) ObjectId (bind (subidentifiers n n) (λ ys. give (arcs_of ys))) s' s'' (Ok (arcs_of xs)) (le-leb 1 n (omega arith)) (Reads-map (subidentifiers n n) arcs_of s' s'' (Ok xs) k)))
object_then s s' s'' n (Err e) h some k =
    Reads-stop object_identifier (λ w. give (oid w)) s s'' e (with_then arcs_in s s' s'' n (Err e) h (guard_yes (leb 1 n) ObjectId (bind (subidentifiers n n) (λ ys. give (arcs_of ys))) s' s'' (Err e) (le-leb 1 n (omega arith)) (Reads-stop (subidentifiers n n) (λ ys. give (arcs_of ys)) s' s'' e k)))

pub object_memory : (s s' s'' : State) (n : ℕ) (xs : List ℕ) (e : ReadFault) → Reads counted_length s (Ok n) s' → n ≢ 0 → Reads (subidentifiers n n) s' (Ok xs) s'' → e.why ≡ Memory → e.taken ≡ s''.bound.taken → Reads (read_value object_id) s (Err e) s''
unfolding object_identifier
object_memory s s' s'' n xs e h some k why taken =
    Reads-stop object_identifier (λ w. give (oid w)) s s'' e (with_then arcs_in s s' s'' n (Err e) h (Reads-memory_after (subidentifiers n n) (arcs_in n) s' s'' xs e k why taken))
