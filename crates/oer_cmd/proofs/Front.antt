-- A value at the front of what a reader has left, and the octet after it.
use Rattle.std.proofs.Common.{Result, ◌≡◌, ◌≢◌, ◌∙◌, ℕ, suc, ◌+◌, ◌-◌, ◌≤◌, false, List, [], ◌∷◌, ◌++◌, length, Option, Some, None, Ok, Err, refl, sym, ap, subst, arith, append_assoc, append-nil, length-append}
use Rattle.std.specs.Prelude.{⊤}
use Rattle.std.specs.Io.KnownBytes.{Consumes, IsAtEnd}
use Rattle.oer_units.specs.declared.fault.ReadFault.{ReadFault}
use Rattle.oer_units.specs.declared.fault.Why.{Why}
use Rattle.oer_units.specs.declared.fault.Why.TheVariants as why
use Rattle.oer_units.specs.Octets.{IsOctets}
use Rattle.oer_units.specs.Reader.{Outcome, at, got, refused}
use Rattle.oer_units.specs.Reads.{ReadsFront, renamed, seen}
use Rattle.oer_writer.specs.declared.fault.WriteFault.TheVariants as write
use Rattle.oer_model.specs.AsnType.{AsnType}
use Rattle.oer_model.specs.AsnValue.{AsnValue}
use Rattle.oer_model.specs.Canonical.{canonical_octets}
use Rattle.oer_model.specs.Reading.{read_value}
use Rattle.oer_decoder.specs.Front.{ReadsAndCounts, Takes, first_of}
use Rattle.oer_decoder.specs.Rewriting.{IsRewritten, ReadsAndWrites}
use Rattle.oer_decoder.specs.declared.fault.RewriteFault.{RewriteFault}
use Rattle.oer_decoder.specs.declared.fault.RewriteFault.TheVariants as rewrite
use Rattle.oer_cmd.specs.Answer.{end_at, ended, value_read, whole}
use Rattle.oer_cmd.specs.Expected.{stop, value}
use Rattle.oer_cmd.specs.Faults.{IsOfRead, IsOfRewrite, status_of}
use Rattle.oer_cmd.specs.Taking.{Amounts, GivesFront, GivesValue, IsNext, taken_by}
use Rattle.oer_cmd.specs.declared.fault.Fault.{Fault}
use Rattle.oer_cmd.specs.declared.fault.Fault.TheVariants.{Follows, Input, Memory, Read}
use Rattle.oer_cmd.proofs.Meeting.{three}

-- ---- the octet after a value

-- No octet is there, or one.
pub nothing_left : (known known' : Option (List ℕ)) (t b : List ℕ) (n : ℕ) → Consumes known known' t → IsAtEnd known' → length t ≡ 0 → known ≡ Some b
    → end_at n b ≡ value tt
nothing_left None known' t b n takes end none is = absurd (cc)
nothing_left (Some xs) None t b n takes end none is = absurd takes
nothing_left (Some xs) (Some ys) [] b n takes end none is = let e : b ≡ [] = cc in ap (ended n tt) e
nothing_left (Some xs) (Some ys) (x ∷ t) b n takes end none is = absurd (omega (arith, none))

pub more_left : (known known' : Option (List ℕ)) (t b : List ℕ) (n : ℕ) → Consumes known known' t → 1 ≤ length t → known ≡ Some b
    → end_at n b ≡ stop (Follows n)
more_left None known' t b n takes some is = absurd (cc)
more_left (Some xs) None t b n takes some is = absurd takes
more_left (Some xs) (Some ys) [] b n takes some is = absurd (omega (arith, some))
more_left (Some xs) (Some ys) (x ∷ t) b n takes some is = let e : b ≡ x ∷ (t ++ ys) = cc in ap (ended n tt) e

-- One was looked for.
pub one_taken : (known known' : Option (List ℕ)) (t : List ℕ) (status : ℕ) → Consumes known known' t → length t ≤ 1 → (length t ≡ 0 → IsAtEnd known')
    → GivesFront known known' (Amounts 1 status IsNext)
one_taken None known' t status takes few end = tt
one_taken (Some b) None t status takes few end = absurd takes
one_taken (Some b) (Some rest) [] status takes few end = ([], takes, (few, λ small. let none = ap length (takes ∙ end refl) in omega (arith, none)))
one_taken (Some b) (Some rest) (x ∷ []) status takes few end = (x ∷ [], takes, (few, λ small. let more : length b ≡ suc (length rest) = ap length takes in omega (arith, more)))
one_taken (Some b) (Some rest) (x ∷ y ∷ t) status takes few end = absurd (omega (arith, few))

-- ---- a value

-- The reader took t of the octets b, and left rest: a value and its length, or an error.
abbrev pub Took : AsnType → ℕ → List ℕ → List ℕ → List ℕ → Result (AsnValue × ℕ) Fault → Type 0
Took T limit b t rest (Ok (v, n)) = IsOctets t × (n ≡ length t) × ((left : ℕ) × (read_value T (at b limit) ≡ got v (at rest left)))
Took T limit b t rest (Err fault) = status_of fault ≤ 2
    → (why : Why) × (read_value T (at b limit) ≡ refused why rest) × (fault ≡ Read (record { taken = length t; why = why }))

abbrev pub IsFront : AsnType → ℕ → Option (List ℕ) → Option (List ℕ) → Result (AsnValue × ℕ) Fault → Type 0
IsFront T limit None known' result = ⊤
IsFront T limit (Some b) None result = ⊥
IsFront T limit (Some b) (Some rest) result = (t : List ℕ) × (b ≡ t ++ rest) × (length t ≤ limit) × Took T limit b t rest result

plain : {A : Type 0} (o : Outcome A) → renamed false o ≡ o
plain (got x q) = refl
plain (refused w l) = refl

-- a refusal of the reader is told as such
pub is_read : (e : ReadFault) (fault : Fault) → IsOfRead e fault → status_of fault ≤ 2 → (e.why ≢ why.Device) × (e.why ≢ why.Memory) × (fault ≡ Read e)
is_read e fault is small =
    let device : e.why ≢ why.Device = λ d. three fault Input (is.input d) refl small in
    let memory : e.why ≢ why.Memory = λ m. three fault Memory (is.memory m) refl small in
    (device, memory, is.other device memory)

module _ (T : AsnType) (limit failed failed' : ℕ) where
  -- what the plain reader makes of them
  at_start : (xs : List ℕ) → read_value T (at xs limit) ≡ renamed false (read_value T (at xs (limit - 0)))
  at_start xs = ap (λ (n : ℕ). read_value T (at xs n)) (omega arith) ∙ sym (plain (read_value T (at xs (limit - 0))))

  front_read : (known known' : Option (List ℕ)) (v w : AsnValue) (t : List ℕ) (n : ℕ) → ReadsFront (read_value T) limit known failed (Ok v) known' failed'
      → Takes T limit known known' w t → n ≡ length t → IsFront T limit known known' (Ok (v, n))
  front_read None known' v w t n h takes size = tt
  front_read (Some xs) None v w t n h takes size = absurd takes.0
  front_read (Some xs) (Some ys) v w t n h takes size =
      (t, takes.0, takes.1, (takes.2.0, size, (h.bound.end - h.bound.taken, at_start xs ∙ h.reads.exact)))

  front_refused : (known known' : Option (List ℕ)) (e : ReadFault) (fault : Fault) → IsOfRead e fault
      → ReadsFront (read_value T) limit known failed (Err e) known' failed' → IsFront T limit known known' (Err fault)
  front_refused None known' e fault is h = tt
  front_refused (Some xs) None e fault is h = absurd h.reads.exact
  front_refused (Some xs) (Some ys) e fault is h =
      let took = h.reads.took in
      let size : e.taken ≡ length took.0 = omega (arith, took.3, h.reads.fault) in (
        took.0,
        took.1,
        omega (arith, took.3, h.within),
        λ small.
            let told = is_read e fault is small in
            (e.why, at_start xs ∙ h.reads.exact told.0 told.1, told.2 ∙ ap (λ (n : ℕ). Read (record { taken = n; why = e.why })) size),
      )

  -- It was read, and the machine failed.
  front_lost : (known known' : Option (List ℕ)) (answer : Result AsnValue ReadFault) (fault : Fault)
      → ReadsFront (read_value T) limit known failed answer known' failed' → (status_of fault ≤ 2 → ⊥) → IsFront T limit known known' (Err fault)
  front_lost None known' answer fault h high = tt
  front_lost (Some xs) None answer fault h high = absurd h.reads.exact
  front_lost (Some xs) (Some ys) answer fault h high =
      let took = h.reads.took in
      (took.0, took.1, omega (arith, took.3, h.within), λ small. absurd (high small))

  front_of : (known known' : Option (List ℕ)) (result : Result (AsnValue × ℕ) ReadFault) → ReadsAndCounts (read_value T) limit known failed result known' failed'
      → ReadsFront (read_value T) limit known failed (seen first_of result) known' failed'
  front_of known known' result h = record { name = h.name; loan = h.loan; bound = h.bound; within = h.within; reads = h.reads }

  pub counted_read : (known known' : Option (List ℕ)) (v w : AsnValue) (t : List ℕ) (n : ℕ) → ReadsAndCounts (read_value T) limit known failed (Ok (v, n)) known' failed'
      → Takes T limit known known' w t → n ≡ length t → IsFront T limit known known' (Ok (v, n))
  counted_read known known' v w t n h takes size = front_read known known' v w t n (front_of known known' (Ok (v, n)) h) takes size

  pub counted_refused : (known known' : Option (List ℕ)) (e : ReadFault) (fault : Fault) → IsOfRead e fault
      → ReadsAndCounts (read_value T) limit known failed (Err e) known' failed' → IsFront T limit known known' (Err fault)
  counted_refused known known' e fault is h = front_refused known known' e fault is (front_of known known' (Err e) h)

  -- Its canonical octets were appended to nothing.
  pub rewritten_read : (known known' : Option (List ℕ)) (old new : List ℕ) (m n count count' : ℕ)
      → ReadsAndWrites T limit known failed known' failed' (Some old) count (Ok (m, n)) (Some new) count'
      → IsRewritten T limit known known' (Some old) (Some new) (m, n) → old ≡ []
      → (v : AsnValue) × IsFront T limit known known' (Ok (v, m)) × (new ≡ canonical_octets T v)
  rewritten_read known known' old new m n count count' (Ok v, front, (size, few, appends, still)) (w, t, takes, length_is, puts) none =
      (v, front_read known known' v w t m front takes length_is, appends ∙ ap (λ (l : List ℕ). l ++ canonical_octets T v) none)
  rewritten_read known known' old new m n count count' (Err e, front, (clash, kept, still)) written none = absurd (cc)

  pub rewritten_refused : (known known' old new : Option (List ℕ)) (count count' : ℕ) (e : RewriteFault) (fault : Fault) → IsOfRewrite e fault
      → ReadsAndWrites T limit known failed known' failed' old count (Err e) new count' → IsFront T limit known known' (Err fault)
  rewritten_refused known known' old new count count' (rewrite.Read e) fault is (Ok v, front, follows) = absurd follows
  rewritten_refused known known' old new count count' (rewrite.Read e) fault is (Err f, front, (one, kept, still)) =
      let other : f ≡ e = cc in front_refused known known' f fault (subst (λ x. IsOfRead x fault) (sym other) is) front
  rewritten_refused known known' old new count count' (rewrite.Write (write.Device n)) fault is h = front_lost known known' h.0 fault h.1 (three fault _ is refl)
  rewritten_refused known known' old new count count' (rewrite.Write write.TooLong) fault is h = front_lost known known' h.0 fault h.1 (three fault _ is refl)

-- ---- what is expected of the octets, and what was taken

module _ (T : AsnType) (limit : ℕ) where
  -- The value is all that there was, or more follows it.
  ends : (xs ys : List ℕ) (v : AsnValue) (n : ℕ) → IsFront T limit (Some xs) (Some ys) (Ok (v, n)) → value_read T limit xs ≡ ended n v ys
  ends xs ys v n (t, split, few, (octets, count, (left, is))) =
      let size : length xs - length ys ≡ n = omega (arith, ap length split, length-append t ys, count) in
      ap (whole xs) is ∙ ap (λ (k : ℕ). ended k v ys) size

  pub alone : (known known' : Option (List ℕ)) (v : AsnValue) (n : ℕ) (b : List ℕ) → IsFront T limit known known' (Ok (v, n)) → known ≡ Some b
      → ((rest : List ℕ) → known' ≡ Some rest → end_at n rest ≡ value tt) → IsOctets b × (value_read T limit b ≡ value v)
  alone None known' v n b h is end = absurd (cc)
  alone (Some xs) None v n b h is end = absurd h
  alone (Some xs) (Some []) v n b h is end =
      let same : xs ≡ b = cc in
      let all : h.0 ≡ b = sym (append-nil h.0) ∙ sym h.1 ∙ same in
      (subst IsOctets all h.3.0, subst (λ (l : List ℕ). value_read T limit l ≡ value v) same (ends xs [] v n h))
  alone (Some xs) (Some (y ∷ ys)) v n b h is end = let no = end (y ∷ ys) refl in absurd (cc)

  pub followed : (known known' : Option (List ℕ)) (v : AsnValue) (n : ℕ) (fault : Fault) (b : List ℕ) → IsFront T limit known known' (Ok (v, n)) → known ≡ Some b
      → ((rest : List ℕ) → known' ≡ Some rest → status_of fault ≤ 2 → end_at n rest ≡ stop fault) → status_of fault ≤ 2 → value_read T limit b ≡ stop fault
  followed None known' v n fault b h is end small = absurd (cc)
  followed (Some xs) None v n fault b h is end small = absurd h
  followed (Some xs) (Some []) v n fault b h is end small = let no = end [] refl small in absurd (cc)
  followed (Some xs) (Some (y ∷ ys)) v n fault b h is end small =
      let same : xs ≡ b = cc in
      let told : stop {A = AsnValue} (Follows n) ≡ stop fault = (let e = end (y ∷ ys) refl small in cc) in
      subst (λ (l : List ℕ). value_read T limit l ≡ stop fault) same (ends xs (y ∷ ys) v n h ∙ told)

  -- There is none.
  pub stopped : (known known' : Option (List ℕ)) (fault : Fault) (b : List ℕ) → IsFront T limit known known' (Err fault) → known ≡ Some b → status_of fault ≤ 2
      → value_read T limit b ≡ stop fault
  stopped None known' fault b h is small = absurd (cc)
  stopped (Some xs) None fault b h is small = absurd h
  stopped (Some xs) (Some ys) fault b (t, split, few, told) is small =
      let same : xs ≡ b = cc in
      let r = told small in
      let size : length xs - length ys ≡ length t = omega (arith, ap length split, length-append t ys) in
      subst (λ (l : List ℕ). value_read T limit l ≡ stop fault) same
      (ap (whole xs) r.1 ∙ ap (λ (n : ℕ). stop (Read (record { taken = n; why = r.0 }))) size ∙ ap stop (sym r.2))

  pub value_taken : (status : ℕ) (known known' known'' : Option (List ℕ)) (v : AsnValue) (n : ℕ) → IsFront T limit known known' (Ok (v, n))
      → GivesFront known' known'' (Amounts 1 status IsNext) → GivesValue T limit status known known''
  value_taken status None known' known'' v n h end = tt
  value_taken status (Some xs) None known'' v n h end = absurd h
  value_taken status (Some xs) (Some ys) None v n h end = absurd end
  value_taken status (Some xs) (Some ys) (Some zs) v n (t, split, few, (octets, count, (left, is))) (u, then, (one, next)) =
      let size : length (t ++ u) ≡ length t + length u = length-append t u in
      let rest : length t ≡ length xs - length ys = omega (arith, ap length split, length-append t ys) in (
        t ++ u,
        split ∙ ap (λ (l : List ℕ). t ++ l) then ∙ sym (append_assoc t u zs),
        (
          omega (arith, size, few, one),
          λ small. size ∙ ap (λ (k : ℕ). k + length u) rest
              ∙ ap (λ (k : ℕ). (length xs - length ys) + k) (next small) ∙ sym (ap (taken_by xs) is),
        ),
      )

  pub value_untaken : (known known' : Option (List ℕ)) (fault : Fault) → IsFront T limit known known' (Err fault) → GivesValue T limit (status_of fault) known known'
  value_untaken None known' fault h = tt
  value_untaken (Some xs) None fault h = absurd h
  value_untaken (Some xs) (Some ys) fault (t, split, few, told) =
      let rest : length t ≡ length xs - length ys = omega (arith, ap length split, length-append t ys) in
      (t, split, (omega (arith, few), λ small. rest ∙ sym (ap (taken_by xs) (told small).1)))
