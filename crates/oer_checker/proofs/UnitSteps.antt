-- A unit that was read at a place.
use Rattle.std.proofs.Common.{◌≡◌, ◌≢◌, ℕ, ◌+◌, ◌-◌, ◌≤◌, true, false, List, [], ◌∷◌, ◌++◌, length, drop, take, Option, Some, None, Result, Ok, Err, arith, refl, sym, ap, ap₂, ◌∙◌, subst, length-append}
use Rattle.std.specs.Prelude.{IfErr, OnOk}
use Rattle.std.specs.Borrow.{GName}
use Rattle.oer_units.specs.declared.fault.Why.{Why}
use Rattle.oer_units.specs.declared.fault.Why.TheVariants.{Device, Memory}
use Rattle.oer_units.specs.declared.fault.ReadFault.{ReadFault}
use Rattle.oer_units.specs.Reader.{Outcome, Place, Reader, at, got, refused}
use Rattle.oer_units.specs.Reads.{Exactly, Gives, Reads, Span, State, TakesNoMemory, Took, count_after, counted, renamed, start}
use Rattle.std.specs.Prelude.{IfOk, ℤ}
use Rattle.oer_units.proofs.Closure.{got_value}
use Rattle.oer_checker.specs.declared.cursor.Cursor.{Cursor}
use Rattle.oer_checker.specs.declared.stop.Stop.{Stop}
use Rattle.oer_checker.specs.Places.{ended, outcome, place_of, same}
use Rattle.oer_units.specs.Reader.{give, group}
use Rattle.oer_units.specs.Fixed.{signed_fixed_at, unsigned_fixed_at}
use Rattle.oer_units.specs.Numbers.{signed, unsigned}
use Rattle.oer_units.specs.Width.{octets_of_width}
use Rattle.oer_units.specs.declared.width.Width.{Width}
use Rattle.oer_units.specs.Reading.{subidentifier}
use Rattle.oer_checker.specs.Plain.{is_plain}
use Rattle.oer_checker.specs.Steps.{subidentifier_size}
use Rattle.oer_checker.proofs.BitLists.{take_all}
use Rattle.oer_checker.proofs.Joins.{bind_got, bind_stop, give_got}

-- what is known of what was read as r reads, from the octets xs under a limit n
pub record Came {A : Type 0} (r : Reader A) (xs : List ℕ) (n : ℕ) (result : Result A ReadFault) (taken : ℕ) : Type 0 where
  pub came : taken ≤ length xs
  pub room : taken ≤ n
  pub fault : IfErr result (λ e. e.taken ≡ taken)
  pub plain : IfErr result (λ e. is_plain e.why ≡ true)
  pub ends : ended (at xs n) result taken ≡ r (at xs n)

abbrev begin : ℕ → Span
begin n = record { taken = 0; end = n; limit = n; inside = false }

same_outcome : {A : Type 0} (o : Outcome A) → renamed false o ≡ o
same_outcome (got x q) = refl
same_outcome (refused w l) = refl

less_none : (n : ℕ) → n - 0 ≡ n
less_none n = omega arith

dropped : (t ys : List ℕ) → drop (length t) (t ++ ys) ≡ ys
dropped [] ys = refl
dropped (x ∷ t) ys = dropped t ys

not_device : (why : Why) (n : ℕ) → n ≡ 0 → n ≡ count_after 0 why → why ≢ Device
not_device Device n z c d = absurd (omega arith)
not_device _ n z c d = absurd (cc)

plain_why : (why : Why) (n : ℕ) → n ≡ 0 → n ≡ count_after 0 why → why ≢ Memory → is_plain why ≡ true
plain_why Memory n z c m = absurd (m refl)
plain_why Device n z c m = absurd (omega arith)
plain_why _ n z c m = refl

came_known : {A : Type 0} (r : Reader A) (xs : List ℕ) (n taken failed : ℕ) (b : Span) (known : Option (List ℕ)) (result : Result A ReadFault) → failed ≡ 0 → failed ≡ counted 0 result → IfErr result (λ e. e.taken ≡ taken) → TakesNoMemory result
    → OnOk result (b.end ≡ n) → b.taken ≡ taken → taken ≤ n → Took (Some xs) known (λ t. 0 + length t ≡ taken) → Exactly r (Some xs) (begin n) result known b → Came r xs n result taken
came_known r xs n taken failed b None result z c f m k bt le took exact = absurd took
came_known {A} r xs n taken failed b (Some ys) (Ok x) z c f m k bt le took exact =
    let many : length took.0 ≡ taken = (let h = took.3 in omega arith) in
    let here : Gives (renamed false (r (at xs n))) (Ok x) ys b = subst (λ (l : ℕ). Gives (renamed false (r (at xs l))) (Ok x) ys b) (less_none n) exact in
    let rest : drop taken xs ≡ ys = ap₂ (λ (i : ℕ) (l : List ℕ). drop i l) (sym many) took.1 ∙ dropped took.0 ys in
    let left : n - taken ≡ b.end - b.taken = omega arith in
    record {
      came = omega (arith, ap length took.1, length-append took.0 ys);
      room = le;
      fault = tt;
      plain = tt;
      ends = ap₂ (λ (l : List ℕ) (i : ℕ). got x (at l i)) rest left ∙ sym here ∙ same_outcome (r (at xs n));
    }
came_known {A} r xs n taken failed b (Some ys) (Err e) z c f m k bt le took exact =
    let many : length took.0 ≡ taken = (let h = took.3 in omega arith) in
    let here : renamed false (r (at xs n)) ≡ refused e.why ys = subst (λ (l : ℕ). renamed false (r (at xs l)) ≡ refused e.why ys) (less_none n) (exact (not_device e.why failed z c) m) in
    let rest : drop e.taken xs ≡ ys = ap (λ (i : ℕ). drop i xs) f ∙ ap₂ (λ (i : ℕ) (l : List ℕ). drop i l) (sym many) took.1 ∙ dropped took.0 ys in
    record {
      came = omega (arith, ap length took.1, length-append took.0 ys);
      room = le;
      fault = f;
      plain = plain_why e.why failed z c m;
      ends = ap (λ (l : List ℕ). refused e.why l) rest ∙ sym here ∙ same_outcome (r (at xs n));
    }

pub came_by : {A : Type 0} (r : Reader A) (name : GName) (xs : List ℕ) (n : ℕ) (s s' : State) (result : Result A ReadFault) → s ≡ start name None (Some xs) 0 n → s'.failed ≡ 0 → TakesNoMemory result → Reads r s result s' → Came r xs n result s'.bound.taken
came_by {A} r name xs n s s' result is none memory h = from result none memory (subst (λ (t : State). Reads r t result s') is h) where
  ended_at : (result : Result A ReadFault) → Reads r (start name None (Some xs) 0 n) result s' → OnOk result (s'.bound.end ≡ n)
  ended_at (Ok x) k = k.kept.end
  ended_at (Err e) k = tt

  from : (result : Result A ReadFault) → s'.failed ≡ 0 → TakesNoMemory result → Reads r (start name None (Some xs) 0 n) result s' → Came r xs n result s'.bound.taken
  from result none memory k = came_known r xs n s'.bound.taken s'.failed s'.bound s'.known result none k.count k.fault memory (ended_at result k) refl (k.within (omega arith)) k.took k.exact

-- ---- a subidentifier, as how many octets it has

pub sub_ok : (k : ℕ) (name : GName) (xs : List ℕ) (n : ℕ) (s s' : State) (v t m : ℕ) → s ≡ start name None (Some xs) 0 n → s'.failed ≡ 0 → Reads (subidentifier k) s (Ok (v, t)) s' → t ≡ s'.bound.taken - s.bound.taken → m ≡ s'.bound.taken → ended (at xs n) (Ok m) m ≡ subidentifier_size k (at xs n)
unfolding subidentifier_size
sub_ok k name xs n s s' v t m is none h size many =
    let c = came_by (subidentifier k) name xs n s s' (Ok (v, t)) is none tt h in
    let first : s.bound.taken ≡ 0 = ap (λ (x : State). x.bound.taken) is in
    let same : m ≡ t = omega (arith, many, size, first) in
    let q : Place = at (drop s'.bound.taken xs) (n - s'.bound.taken) in
    ap₂ (λ (i j : ℕ). got i (at (drop j xs) (n - j))) same many
    ∙ bind_got (subidentifier k) (λ x. give x.1) (at xs n) q (v, t) (got t q) c.ends (give_got t q)

pub sub_err : (k : ℕ) (name : GName) (xs : List ℕ) (n : ℕ) (s s' : State) (e : ReadFault) (m : ℕ) → s ≡ start name None (Some xs) 0 n → s'.failed ≡ 0 → e.why ≢ Memory → Reads (subidentifier k) s (Err e) s' → ended {A = ℕ} (at xs n) (Err e) m ≡ subidentifier_size k (at xs n)
unfolding subidentifier_size
sub_err k name xs n s s' e m is none memory h =
    let c = came_by (subidentifier k) name xs n s s' (Err e) is none memory h in
    bind_stop (subidentifier k) (λ x. give x.1) (at xs n) e.why (drop e.taken xs) c.ends

-- ---- what was read is in its range

pub range_ok : (P : ℤ → Type 0) (z : ℤ) (r : Result ℤ Stop) (after : Cursor) (p : Place) (taken : ℕ) → outcome same r after ≡ ended p (Ok z) taken → P z → IfOk r (λ y. P y)
range_ok P z (Ok y) after p taken e fits = subst P (sym (got_value y z (place_of after) (at (drop taken p.input) (p.left - taken)) e)) fits
range_ok P z (Err s) after p taken e fits = tt

-- ---- a number of fixed size

pub fixed_got : (width : Width) (n : ℕ) (p q : Place) (w : List ℕ) → n ≡ octets_of_width width → got w q ≡ group n p → got (unsigned w) q ≡ unsigned_fixed_at width p
unfolding unsigned_fixed_at
fixed_got width n p q w is e = bind_got (group (octets_of_width width)) (λ w. give (unsigned w)) p q w (got (unsigned w) q) (e ∙ ap (λ (k : ℕ). group k p) is) (give_got (unsigned w) q)

pub fixed_stop : (width : Width) (n : ℕ) (p : Place) (why : Why) (rest : List ℕ) → n ≡ octets_of_width width → refused why rest ≡ group n p → refused why rest ≡ unsigned_fixed_at width p
unfolding unsigned_fixed_at
fixed_stop width n p why rest is e = bind_stop (group (octets_of_width width)) (λ w. give (unsigned w)) p why rest (e ∙ ap (λ (k : ℕ). group k p) is)

pub signed_got : (width : Width) (n : ℕ) (p q : Place) (w : List ℕ) → n ≡ octets_of_width width → got w q ≡ group n p → got (signed w) q ≡ signed_fixed_at width p
unfolding signed_fixed_at
signed_got width n p q w is e = bind_got (group (octets_of_width width)) (λ w. give (signed w)) p q w (got (signed w) q) (e ∙ ap (λ (k : ℕ). group k p) is) (give_got (signed w) q)

pub signed_stop : (width : Width) (n : ℕ) (p : Place) (why : Why) (rest : List ℕ) → n ≡ octets_of_width width → refused why rest ≡ group n p → refused why rest ≡ signed_fixed_at width p
unfolding signed_fixed_at
signed_stop width n p why rest is e = bind_stop (group (octets_of_width width)) (λ w. give (signed w)) p why rest (e ∙ ap (λ (k : ℕ). group k p) is)

-- ---- the only octet that was asked for

pub one_pulled : (xs : List ℕ) → xs ≡ take 1 (take 1 xs) ++ take (length xs - 1) (drop 1 xs)
one_pulled [] = refl
one_pulled (x ∷ xs) = ap (λ (l : List ℕ). x ∷ l) (sym (take_all (length (x ∷ xs) - 1) xs (omega arith)))
