-- One call after another: what each reads, the whole reads.
use Rattle.std.proofs.Common.{◌≡◌, ◌≢◌, ℕ, ◌+◌, ◌≤◌, Bool, List, [], ◌∷◌, ◌++◌, length, Option, Some, None, Result, Ok, Err, arith, refl, sym, ap, ◌∙◌, append_assoc, subst}
use Rattle.std.proofs.lemmas.List.{length-append}
use Rattle.std.specs.Prelude.{OnOk}
use Rattle.std.specs.List.{AllByRecursion}
use Rattle.oer_units.specs.declared.fault.Why.{Why}
use Rattle.oer_units.specs.declared.fault.Why.TheVariants.{Device, Memory}
use Rattle.oer_units.specs.declared.fault.ReadFault.{ReadFault}
use Rattle.oer_units.specs.Reader.{Place, Outcome, got, refused, Reader, then_read, bind, give, refuse}
use Rattle.oer_units.specs.Reads.{Span, place, named, renamed, seen, count_after, counted, Took, Gives, Exactly, Made, Keeps, State, Reads}

pub Keeps-refl : (b : Span) → Keeps b b
Keeps-refl b = record { end = refl; limit = refl; inside = refl; grows = omega arith }

pub Keeps-then : (a b c : Span) → Keeps a b → Keeps b c → Keeps a c
Keeps-then a b c p q = record { end = q.end ∙ p.end; limit = q.limit ∙ p.limit; inside = q.inside ∙ p.inside; grows = omega arith }

pub All-append : (P : ℕ → Type 0) (s t : List ℕ) → AllByRecursion P s → AllByRecursion P t → AllByRecursion P (s ++ t)
All-append P [] t p q = q
All-append P (x ∷ s) t p q = (p.0, All-append P s t p.1 q)

pub Took-then : (a b c : Option (List ℕ)) (P Q R : List ℕ → Type 0) → Took a b P → Took b c Q → ((s t : List ℕ) → P s → Q t → R (s ++ t)) → Took a c R
Took-then None b c P Q R p q join = tt
Took-then (Some xs) None c P Q R p q join = absurd p
Took-then (Some xs) (Some ys) None P Q R p q join = absurd q
Took-then (Some xs) (Some ys) (Some zs) P Q R p q join = (p.0 ++ q.0, p.1 ∙ ap (λ (l : List ℕ). p.0 ++ l) q.1 ∙ sym (append_assoc p.0 q.0 zs), All-append _ p.0 q.0 p.2 q.2, join p.0 q.0 p.3 q.3)

pub Took-none : (a : Option (List ℕ)) (P : List ℕ → Type 0) → P [] → Took a a P
Took-none None P p = tt
Took-none (Some xs) P p = ([], refl, tt, p)

-- a renamed outcome is got where the outcome is
pub got_named : {A : Type 0} (i : Bool) (o : Outcome A) (x : A) (q : Place) → renamed i o ≡ got x q → o ≡ got x q
got_named i (got y p) x q e = e
got_named i (refused why rest) x q e = cc

pub refused_then : {A B : Type 0} (i : Bool) (f : A → Reader B) (o : Outcome A) (why : Why) (rest : List ℕ) → renamed i o ≡ refused why rest → renamed i (then_read f o) ≡ refused why rest
refused_then i f (got y p) why rest e = cc
refused_then i f (refused w r) why rest e = let p : named i w ≡ why = cc in let q : r ≡ rest = cc in ap (λ (v : Why). refused v r) p ∙ ap (λ (l : List ℕ). refused why l) q

Exactly-then : {A B : Type 0} (m : Reader A) (f : A → Reader B) (known known' known'' : Option (List ℕ)) (b b' b'' : Span) (x : A) (result : Result B ReadFault) → b'.inside ≡ b.inside → Exactly m known b (Ok x) known' b' → Exactly (f x) known' b' result known'' b'' → Exactly (bind m f) known b result known'' b''
unfolding bind
Exactly-then m f None known' known'' b b' b'' x result i p q = tt
Exactly-then m f (Some xs) None known'' b b' b'' x result i p q = absurd p
Exactly-then m f (Some xs) (Some ys) None b b' b'' x result i p q = absurd q
Exactly-then {A} {B} m f (Some xs) (Some ys) (Some zs) b b' b'' x result i p q =
    let e : m (place xs b) ≡ got x (place ys b') = got_named b.inside (m (place xs b)) x (place ys b') p in
    let there = subst (λ (j : Bool). Gives (renamed j (f x (place ys b'))) result zs b'') i q in
    subst (λ (o : Outcome A). Gives (renamed b.inside (then_read f o)) result zs b'') (sym e) there

Exactly-stop : {A B : Type 0} (m : Reader A) (f : A → Reader B) (known known' : Option (List ℕ)) (b b' : Span) (e : ReadFault) → Exactly m known b (Err e) known' b' → Exactly (bind m f) known b (Err e) known' b'
unfolding bind
Exactly-stop m f None known' b b' e p = tt
Exactly-stop m f (Some xs) None b b' e p = absurd p
Exactly-stop m f (Some xs) (Some ys) b b' e p = λ d n. refused_then b.inside f (m (place xs b)) e.why ys (p d n)

kept_then : {B : Type 0} (a b c : Span) (result : Result B ReadFault) → Keeps a b → OnOk result (Keeps b c) → OnOk result (Keeps a c)
kept_then a b c (Ok x) p q = Keeps-then a b c p q
kept_then a b c (Err e) p q = tt

made_then : {A B : Type 0} (m : Reader A) (f : A → Reader B) (b b' b'' : Span) (x : A) (result : Result B ReadFault) → b'.inside ≡ b.inside → Made m b (Ok x) b' → Made (f x) b' result b'' → Made (bind m f) b result b''
made_then m f b b' b'' x (Err e) i p q = tt
made_then m f b b' b'' x (Ok y) i p q = (
  p.0 ++ q.0,
  All-append _ p.0 q.0 p.1 q.1,
  (let h = p.2 in let k = q.2 in omega (arith, length-append p.0 q.0)),
  λ rest.
      let whole : p.0 ++ (q.0 ++ rest) ≡ (p.0 ++ q.0) ++ rest = sym (append_assoc p.0 q.0 rest) in
      subst (λ (l : List ℕ). Exactly (bind m f) (Some l) b (Ok y) (Some rest) b'') whole (Exactly-then m f (Some (p.0 ++ (q.0 ++ rest))) (Some (q.0 ++ rest)) (Some rest) b b' b'' x (Ok y) i (p.3 (q.0 ++ rest)) (q.3 rest)),
)

-- a step, and what follows it
pub Reads-then : {A B : Type 0} (m : Reader A) (f : A → Reader B) (s s' s'' : State) (x : A) (result : Result B ReadFault) → Reads m s (Ok x) s' → Reads (f x) s' result s'' → Reads (bind m f) s result s''
Reads-then m f s s' s'' x result p q = record {
  reader = q.reader ∙ p.reader;
  loan = q.loan ∙ p.loan;
  kept = kept_then s.bound s'.bound s''.bound result p.kept q.kept;
  limit = q.limit ∙ p.limit;
  within = λ h. let a : s'.bound.taken ≤ s.bound.end = p.within h in let e : s'.bound.end ≡ s.bound.end = p.kept.end in let b : s'.bound.taken ≤ s'.bound.end = omega arith in let d : s''.bound.taken ≤ s'.bound.end = q.within b in omega arith;
  count = subst (λ n. s''.failed ≡ counted n result) p.count q.count;
  fault = q.fault;
  made = made_then m f s.bound s'.bound s''.bound x result p.kept.inside p.made q.made;
  took = Took-then _ _ _ _ _ _ p.took q.took (λ (t u : List ℕ) (h : s.bound.taken + length t ≡ s'.bound.taken) (k : s'.bound.taken + length u ≡ s''.bound.taken). omega (arith, length-append t u));
  exact = Exactly-then m f s.known s'.known s''.known s.bound s'.bound s''.bound x result p.kept.inside p.exact q.exact;
}

-- a step that is refused
pub Reads-stop : {A B : Type 0} (m : Reader A) (f : A → Reader B) (s s' : State) (e : ReadFault) → Reads m s (Err e) s' → Reads (bind m f) s (Err e) s'
Reads-stop m f s s' e p = record { reader = p.reader; loan = p.loan; kept = tt; limit = p.limit; within = p.within; count = p.count; fault = p.fault; made = tt; took = p.took; exact = Exactly-stop m f s.known s'.known s.bound s'.bound e p.exact }

Exactly-done : {A : Type 0} (x : A) (known : Option (List ℕ)) (b : Span) → Exactly (give x) known b (Ok x) known b
unfolding give
Exactly-done x None b = tt
Exactly-done x (Some xs) b = refl

pub Reads-give : {A : Type 0} (x : A) (s : State) → Reads (give x) s (Ok x) s
Reads-give x s = record {
  reader = refl;
  loan = refl;
  kept = Keeps-refl s.bound;
  limit = refl;
  within = λ h. h;
  count = refl;
  fault = tt;
  made = ([], tt, omega arith, λ rest. Exactly-done x (Some rest) s.bound);
  took = Took-none s.known _ (omega arith);
  exact = Exactly-done x s.known s.bound;
}

-- a value, and what is made of it
pub Reads-map : {A B : Type 0} (r : Reader A) (f : A → B) (s s' : State) (result : Result A ReadFault) → Reads r s result s' → Reads (bind r (λ x. give (f x))) s (seen f result) s'
Reads-map r f s s' (Ok x) h = Reads-then r (λ x. give (f x)) s s' s' x (Ok (f x)) h (Reads-give (f x) s')
Reads-map r f s s' (Err e) h = Reads-stop r (λ x. give (f x)) s s' e h

pub exact_same : {A : Type 0} (r r' : Reader A) (known known' : Option (List ℕ)) (b b' : Span) (result : Result A ReadFault) → ((xs : List ℕ) → r (place xs b) ≡ r' (place xs b)) → Exactly r known b result known' b' → Exactly r' known b result known' b'
exact_same r r' None known' b b' result same h = tt
exact_same r r' (Some xs) None b b' result same h = absurd h
exact_same {A} r r' (Some xs) (Some ys) b b' result same h = subst (λ (o : Outcome A). Gives (renamed b.inside o) result ys b') (same xs) h

made_same : {A : Type 0} (r r' : Reader A) (b b' : Span) (result : Result A ReadFault) → ((xs : List ℕ) → r (place xs b) ≡ r' (place xs b)) → Made r b result b' → Made r' b result b'
made_same r r' b b' (Ok x) same h = (h.0, h.1, h.2, λ rest. exact_same r r' (Some (h.0 ++ rest)) (Some rest) b b' (Ok x) same (h.3 rest))
made_same r r' b b' (Err e) same h = tt

-- a reader that agrees with another one at the places in question
pub Reads-same : {A : Type 0} (r r' : Reader A) (s s' : State) (result : Result A ReadFault) → ((xs : List ℕ) → r (place xs s.bound) ≡ r' (place xs s.bound)) → Reads r s result s' → Reads r' s result s'
Reads-same r r' s s' result same h = record { reader = h.reader; loan = h.loan; kept = h.kept; limit = h.limit; within = h.within; count = h.count; fault = h.fault; made = made_same r r' s.bound s'.bound result same h.made; took = h.took; exact = exact_same r r' s.known s'.known s.bound s'.bound result same h.exact }

-- ---- refusals at a place

count_kept : (n : ℕ) (why : Why) → why ≢ Device → n ≡ count_after n why
count_kept n Device h = absurd (h refl)
count_kept n why h = refl

Exactly-refused : (A : Type 0) (why : Why) (e : ReadFault) (known : Option (List ℕ)) (b : Span) → named b.inside why ≡ e.why → Exactly {A = A} (refuse why) known b (Err e) known b
unfolding refuse
Exactly-refused A why e None b is = tt
Exactly-refused A why e (Some xs) b is = λ d n. ap (λ (w : Why). refused w xs) is

-- a refusal here, for another reason than the device
pub Reads-refused : (A : Type 0) (why : Why) (e : ReadFault) (s : State) → e.why ≢ Device → named s.bound.inside why ≡ e.why → e.taken ≡ s.bound.taken → Reads {A = A} (refuse why) s (Err e) s
Reads-refused A why e s other is taken = record {
  reader = refl;
  loan = refl;
  kept = tt;
  limit = refl;
  within = λ h. h;
  count = count_kept s.failed e.why other;
  fault = taken;
  made = tt;
  took = Took-none s.known _ (omega arith);
  exact = Exactly-refused A why e s.known s.bound is;
}

Exactly-memory : {A : Type 0} (r : Reader A) (e : ReadFault) (known : Option (List ℕ)) (b : Span) → e.why ≡ Memory → Exactly r known b (Err e) known b
Exactly-memory r e None b is = tt
Exactly-memory r e (Some xs) b is = λ d n. absurd (n is)

-- memory ran out
pub Reads-memory : {A : Type 0} (r : Reader A) (e : ReadFault) (s : State) → e.why ≡ Memory → e.taken ≡ s.bound.taken → Reads r s (Err e) s
Reads-memory r e s is taken = record {
  reader = refl;
  loan = refl;
  kept = tt;
  limit = refl;
  within = λ h. h;
  count = count_kept s.failed e.why (λ (d : e.why ≡ Device). cc);
  fault = taken;
  made = tt;
  took = Took-none s.known _ (omega arith);
  exact = Exactly-memory r e s.known s.bound is;
}

-- memory ran out after a part
pub Reads-memory_after : {A B : Type 0} (m : Reader A) (r : Reader B) (s s' : State) (x : A) (e : ReadFault) → Reads m s (Ok x) s' → e.why ≡ Memory → e.taken ≡ s'.bound.taken → Reads r s (Err e) s'
Reads-memory_after m r s s' x e p is taken = record {
  reader = p.reader;
  loan = p.loan;
  kept = tt;
  limit = p.limit;
  within = p.within;
  count = p.count ∙ count_kept s.failed e.why (λ (d : e.why ≡ Device). cc);
  fault = taken;
  made = tt;
  took = p.took;
  exact = after r e s.known s'.known s.bound s'.bound p.exact is;
} where
  after : {B : Type 0} (r : Reader B) (e : ReadFault) (known known' : Option (List ℕ)) (b b' : Span) → Exactly m known b (Ok x) known' b' → e.why ≡ Memory → Exactly r known b (Err e) known' b'
  after r e None known' b b' h is = tt
  after r e (Some xs) None b b' h is = absurd h
  after r e (Some xs) (Some ys) b b' h is = λ d n. absurd (n is)

-- ---- what leads to the whole

pub Leads-start : {A : Type 0} (r : Reader A) (s : State) → (result : Result A ReadFault) (then : State) → Reads r s result then → Reads r s result then
Leads-start r s result then h = h
