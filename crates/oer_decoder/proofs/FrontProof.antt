-- From what the code reads to what its caller learns.
use Rattle.std.proofs.Common.{◌≡◌, ◌≢◌, ℕ, ◌+◌, ◌-◌, ◌<◌, ◌≤◌, false, List, [], ◌∷◌, ◌++◌, length, Option, Some, None, Result, Ok, Err, ◌⊎◌, inl, inr, arith, refl, sym, ap, ◌∙◌, subst, append-nil}
use Rattle.std.proofs.lemmas.List.{length-append}
use Rattle.std.specs.Prelude.{IfErr, IfOk}
use Rattle.std.specs.List.{AllByRecursion}
use Rattle.std.specs.Io.KnownBytes.{Consumes}
use Rattle.oer_units.specs.Lawful.{Excludes}
use Rattle.oer_units.specs.Octets.{IsOctets}
use Rattle.oer_units.specs.declared.fault.Why.{Why}
use Rattle.oer_units.specs.declared.fault.Why.TheVariants.{Device, End, Limit, Memory}
use Rattle.oer_units.specs.declared.fault.ReadFault.{ReadFault}
use Rattle.oer_units.specs.Reader.{at, got, Outcome, Place, Reader, refused}
use Rattle.oer_units.specs.Reads.{Exactly, Gives, Made, place, ReadsFront, renamed, seen, Span, Took}
use Rattle.oer_model.specs.AsnType.{AsnType}
use Rattle.oer_model.specs.AsnValue.{AsnValue}
use Rattle.oer_model.specs.Constraints.{KeepsLimits}
use Rattle.oer_model.specs.Encoding.{Encodes, IsSpelling}
use Rattle.oer_model.specs.Fits.{Fits}
use Rattle.oer_model.specs.Laws.{Means}
use Rattle.oer_model.specs.Reading.{read_value}
use Rattle.oer_model.proofs.canonical.CanonicalForms.{encodes_from}
use Rattle.oer_model.proofs.reading.Main.{value_lawful}
use Rattle.oer_model.proofs.reading.Payload.{value_paid}
use Rattle.oer_model.proofs.reading.Sizes.{nodes_bounded}
use Rattle.oer_model.proofs.reading.Theorems.{reads_each}
use Rattle.oer_values.specs.ValueView.{value_of}
use Rattle.oer_values.specs.declared.value.Value.{Value}
use Rattle.oer_decoder.specs.Front.{counted_of, first_of, IsFound, IsTaken, ReadsAndCounts, ReadsWhatComes, Told, value_in}

plain : {A : Type 0} (o : Outcome A) → renamed false o ≡ o
plain (got x q) = refl
plain (refused w l) = refl

less_none : (n : ℕ) → n - 0 ≡ n
less_none n = omega arith

lengths : (t u ys : List ℕ) → t ++ ys ≡ u ++ ys → length t ≡ length u
lengths t u ys e = omega (arith, length-append t ys, length-append u ys, ap length e)

means : (why : Why) (T : AsnType) (n : ℕ) (t rest : List ℕ) → Excludes (IsSpelling T) why n t → (why ≡ End → rest ≡ []) → Means why T n t rest
means End T n t rest ex none = (none refl, λ v b c s e. ex v b c [] s.2 (sym e ∙ sym (append-nil t)) refl)
means Limit T n t rest ex none = λ v b c s short. (λ e. ex v b [] c s.2 (append-nil b ∙ e) short, λ e. ex v b c [] s.2 (sym e ∙ sym (append-nil t)) short)
means _ T n t rest ex none = λ v b c s. (λ e. ex v b [] c s.2 (append-nil b ∙ e) tt, λ e. ex v b c [] s.2 (sym e ∙ sym (append-nil t)) tt)

pub octets_taken : (t : List ℕ) → AllByRecursion (λ x. x < 256) t → IsOctets t
octets_taken [] all = tt
octets_taken (x ∷ t) all = (all.0, octets_taken t all.1)

-- the two lists that were taken are one
pub same_front : (t u ys : List ℕ) → t ++ ys ≡ u ++ ys → t ≡ u
same_front [] [] ys e = refl
same_front [] (x ∷ u) ys e = absurd (omega (arith, length-append u ys, ap length e))
same_front (x ∷ t) [] ys e = absurd (omega (arith, length-append t ys, ap length e))
same_front (x ∷ t) (y ∷ u) ys e = let h : x ≡ y = cc in let r : t ++ ys ≡ u ++ ys = cc in ap (λ (z : ℕ). z ∷ t) h ∙ ap (λ (l : List ℕ). y ∷ l) (same_front t u ys r)

-- the place at which reading begins
abbrev pub begin : ℕ → Span
begin n = record { taken = 0; end = n; limit = n; inside = false }

-- octets that are read as a value, whatever follows them, are an encoding of it
encoded : (T : AsnType) → KeepsLimits T → (n : ℕ) (t ys : List ℕ) (b : Span) (v : AsnValue) → AllByRecursion (λ (x : ℕ). x < 256) t → Exactly (read_value T) (Some (t ++ ys)) (begin n) (Ok v) (Some ys) b → Encodes T v t
encoded T wf n t ys b v fits exact =
    let here : Gives (renamed false (read_value T (at (t ++ ys) n))) (Ok v) ys b = subst (λ (l : ℕ). Gives (renamed false (read_value T (at (t ++ ys) l))) (Ok v) ys b) (less_none n) exact in
    let e : read_value T (at (t ++ ys) n) ≡ got v (place ys b) = sym (plain (read_value T (at (t ++ ys) n))) ∙ here in
    let a = (value_lawful T wf).sound (at (t ++ ys) n) v (place ys b) e in
    let same : t ≡ a.0 = same_front t a.0 ys a.2 in
    encodes_from T wf v t (octets_taken t fits) (subst (λ (l : List ℕ). IsSpelling T v l) (sym same) a.1)

-- at Ok an encoding of the value was taken, whether its octets were known before or not
pub takes_by : (T : AsnType) → KeepsLimits T → (n : ℕ) (known known' : Option (List ℕ)) (b : Span) (v : AsnValue) → b.taken ≤ n → Took known known' (λ t. 0 + length t ≡ b.taken) → Exactly (read_value T) known (begin n) (Ok v) known' b → Made (read_value T) (begin n) (Ok v) b → (t : List ℕ) × Consumes known known' t × (length t ≤ n) × Encodes T v t × (b.taken ≡ length t)
takes_by T wf n None known' b v le took exact made = (made.0, tt, (let l = made.2 in omega arith), encoded T wf n made.0 [] b v made.1 (made.3 []), (let l = made.2 in omega arith))
takes_by T wf n (Some xs) None b v le took exact made = absurd took
takes_by T wf n (Some xs) (Some ys) b v le took exact made =
    let here : Exactly (read_value T) (Some (took.0 ++ ys)) (begin n) (Ok v) (Some ys) b = subst (λ (l : List ℕ). Exactly (read_value T) (Some l) (begin n) (Ok v) (Some ys) b) took.1 exact in
    (took.0, took.1, (let l = took.3 in omega arith), encoded T wf n took.0 ys b v took.2 here, (let l = took.3 in omega arith))

told_by : (T : AsnType) → KeepsLimits T → (n taken : ℕ) (known known' : Option (List ℕ)) (b : Span) (result : Result AsnValue ReadFault) → taken ≤ n → Took known known' (λ t. 0 + length t ≡ taken) → Exactly (read_value T) known (record { taken = 0; end = n; limit = n; inside = false }) result known' b → ((e : ReadFault) → result ≡ Err e → e.taken ≡ taken) → Told T n known known' result
told_by T wf n taken None known' b result le took exact fault = tt
told_by T wf n taken (Some xs) None b result le took exact fault = absurd took
told_by T wf n taken (Some xs) (Some ys) b (Ok v) le took exact fault =
    let here : Exactly (read_value T) (Some (took.0 ++ ys)) (begin n) (Ok v) (Some ys) b = subst (λ (l : List ℕ). Exactly (read_value T) (Some l) (begin n) (Ok v) (Some ys) b) took.1 exact in
    let e : Encodes T v took.0 = encoded T wf n took.0 ys b v took.2 here in
    (took.0, took.1, (let l = took.3 in omega arith), (e, nodes_bounded T wf v took.0 e.2, value_paid T v took.0 e.2))
told_by T wf n taken (Some xs) (Some ys) b (Err e) le took exact fault = (
  took.0,
  took.1,
  (let l = took.3 in omega arith),
  (
    (let l = took.3 in let f = fault e refl in omega arith),
    λ d m.
        let here : Gives (renamed false (read_value T (at xs n))) (Err e) ys b = subst (λ (l : ℕ). Gives (renamed false (read_value T (at xs l))) (Err e) ys b) (less_none n) exact in
        let h : read_value T (at xs n) ≡ refused e.why ys = sym (plain (read_value T (at xs n))) ∙ here d m in
        let a = (value_lawful T wf).refusal (at xs n) e.why ys h in
        subst (λ (t : List ℕ). Means e.why T n t ys) (sym (same_front took.0 a.0 ys (sym took.1 ∙ a.1))) (means e.why T n a.0 ys a.3 a.4),
  ),
)

pub tells : (T : AsnType) → KeepsLimits T → (n failed failed' : ℕ) (known known' : Option (List ℕ)) (result : Result AsnValue ReadFault) → ReadsFront (read_value T) n known failed result known' failed' → Told T n known known' result
tells T wf n failed failed' known known' result h = told_by T wf n h.bound.taken known known' h.bound result h.within h.reads.took h.reads.exact (λ e is. subst (λ (r : Result AsnValue ReadFault). IfErr r (λ d. d.taken ≡ h.bound.taken)) is h.reads.fault)

comes_by : (T : AsnType) → KeepsLimits T → (n : ℕ) (known' : Option (List ℕ)) (b : Span) (result : Result AsnValue ReadFault) (v : AsnValue) (c rest : List ℕ) → Exactly (read_value T) (Some (c ++ rest)) (record { taken = 0; end = n; limit = n; inside = false }) result known' b → Encodes T v c → length c ≤ n → IsFound v rest known' result
comes_by T wf n None b result v c rest exact s le = absurd exact
comes_by T wf n (Some ys) b (Ok w) v c rest exact s le =
    let h = reads_each T wf v c rest n s le in
    let here : Gives (renamed false (read_value T (at (c ++ rest) n))) (Ok w) ys b = subst (λ (l : ℕ). Gives (renamed false (read_value T (at (c ++ rest) l))) (Ok w) ys b) (less_none n) exact in
    let e : got v (at rest (n - length c)) ≡ got w (place ys b) = sym h ∙ sym (plain (read_value T (at (c ++ rest) n))) ∙ here in
    let p : at rest (n - length c) ≡ place ys b = cc in
    (let q : v ≡ w = cc in sym q, sym (ap (λ (r : Place). r.input) p))
comes_by T wf n (Some ys) b (Err e) v c rest exact s le =
    let h = reads_each T wf v c rest n s le in
    let here : Gives (renamed false (read_value T (at (c ++ rest) n))) (Err e) ys b = subst (λ (l : ℕ). Gives (renamed false (read_value T (at (c ++ rest) l))) (Err e) ys b) (less_none n) exact in
    failed e.why (λ d m. let f : got v (at rest (n - length c)) ≡ refused e.why ys = sym h ∙ sym (plain (read_value T (at (c ++ rest) n))) ∙ here d m in cc) where
      failed : (w : Why) → (w ≢ Device → w ≢ Memory → ⊥) → (w ≡ Device) ⊎ (w ≡ Memory)
      failed Device never = inl refl
      failed Memory never = inr refl
      failed _ never = absurd (never (λ d. cc) (λ m. cc))

pub comes : (T : AsnType) → KeepsLimits T → (n failed failed' : ℕ) (known known' : Option (List ℕ)) (result : Result AsnValue ReadFault) → ReadsFront (read_value T) n known failed result known' failed' → ReadsWhatComes T n known known' result
comes T wf n failed failed' known known' result h v c rest is s le =
    comes_by T wf n known' h.bound result v c rest (subst (λ (k : Option (List ℕ)). Exactly (read_value T) k (record { taken = 0; end = n; limit = n; inside = false }) result known' h.bound) is h.reads.exact) s le

-- the number of octets put aside
pub front_of : {A : Type 0} (r : Reader A) (n failed failed' : ℕ) (known known' : Option (List ℕ)) (result : Result (A × ℕ) ReadFault) → ReadsAndCounts r n known failed result known' failed' → ReadsFront r n known failed (seen first_of result) known' failed'
front_of r n failed failed' known known' result h = record { name = h.name; loan = h.loan; bound = h.bound; within = h.within; reads = h.reads }

pub takes : (T : AsnType) → KeepsLimits T → (n failed failed' : ℕ) (known known' : Option (List ℕ)) (v : AsnValue) (m : ℕ) → ReadsAndCounts (read_value T) n known failed (Ok (v, m)) known' failed' → (t : List ℕ) × Consumes known known' t × (length t ≤ n) × Encodes T v t × (m ≡ length t)
takes T wf n failed failed' known known' v m h =
    let all = takes_by T wf n known known' h.bound v h.within h.reads.took h.reads.exact h.reads.made in
    (all.0, all.1, all.2, all.3, h.count ∙ all.4)

pub tells_of : (T : AsnType) → KeepsLimits T → (n failed failed' : ℕ) (known known' : Option (List ℕ)) (result : Result (AsnValue × ℕ) ReadFault) → ReadsAndCounts (read_value T) n known failed result known' failed' → Told T n known known' (seen first_of result)
tells_of T wf n failed failed' known known' result h = tells T wf n failed failed' known known' (seen first_of result) (front_of (read_value T) n failed failed' known known' result h)

pub comes_of : (T : AsnType) → KeepsLimits T → (n failed failed' : ℕ) (known known' : Option (List ℕ)) (result : Result (AsnValue × ℕ) ReadFault) → ReadsAndCounts (read_value T) n known failed result known' failed' → ReadsWhatComes T n known known' (seen first_of result)
comes_of T wf n failed failed' known known' result h = comes T wf n failed failed' known known' (seen first_of result) (front_of (read_value T) n failed failed' known known' result h)

pub fits_of : (T : AsnType) → KeepsLimits T → (n failed failed' : ℕ) (known known' : Option (List ℕ)) (v : AsnValue) (m : ℕ) → ReadsAndCounts (read_value T) n known failed (Ok (v, m)) known' failed' → Fits T v
fits_of T wf n failed failed' known known' v m h = (takes T wf n failed failed' known known' v m h).3.1

value_seen : (r : Result (Value × ℕ) ReadFault) → seen first_of (seen counted_of r) ≡ seen value_in r
value_seen (Ok p) = refl
value_seen (Err e) = refl

-- the same of a call that answers the number of octets, too
pub value_told : (T : AsnType) → KeepsLimits T → (n failed failed' : ℕ) (known known' : Option (List ℕ)) (r : Result (Value × ℕ) ReadFault) → ReadsAndCounts (read_value T) n known failed (seen counted_of r) known' failed' → Told T n known known' (seen value_in r)
value_told T wf n failed failed' known known' r h = subst (Told T n known known') (value_seen r) (tells_of T wf n failed failed' known known' (seen counted_of r) h)

pub value_comes : (T : AsnType) → KeepsLimits T → (n failed failed' : ℕ) (known known' : Option (List ℕ)) (r : Result (Value × ℕ) ReadFault) → ReadsAndCounts (read_value T) n known failed (seen counted_of r) known' failed' → ReadsWhatComes T n known known' (seen value_in r)
value_comes T wf n failed failed' known known' r h = subst (ReadsWhatComes T n known known') (value_seen r) (comes_of T wf n failed failed' known known' (seen counted_of r) h)

pub value_taken : (T : AsnType) → KeepsLimits T → (n failed failed' : ℕ) (known known' : Option (List ℕ)) (r : Result (Value × ℕ) ReadFault) → ReadsAndCounts (read_value T) n known failed (seen counted_of r) known' failed' → IfOk r (λ p. IsTaken T n known known' (counted_of p))
value_taken T wf n failed failed' known known' (Ok p) h =
    let all = takes T wf n failed failed' known known' (value_of p.0) p.1 h in
    (all.0, (all.1, all.2, all.3), all.4)
value_taken T wf n failed failed' known known' (Err e) h = tt

pub value_fits : (T : AsnType) → KeepsLimits T → (n failed failed' : ℕ) (known known' : Option (List ℕ)) (r : Result (Value × ℕ) ReadFault) → ReadsAndCounts (read_value T) n known failed (seen counted_of r) known' failed' → IfOk r (λ p. Fits T (value_in p))
value_fits T wf n failed failed' known known' (Ok p) h = fits_of T wf n failed failed' known known' (value_of p.0) p.1 h
value_fits T wf n failed failed' known known' (Err e) h = tt
