-- How answers that are expected are put together.
use Rattle.std.proofs.Common.{Result, ◌≡◌, ◌≢◌, ◌∙◌, ℕ, ◌≤◌, List, [], ◌∷◌, Option, Some, Ok, Err, refl, sym, ap, subst, arith, String, Global, string_bytes}
use Rattle.std.specs.Prelude.{IfOk, IfSome, IsErrAnd}
use Rattle.clap.specs.Words.{Text}
use Rattle.oer_units.specs.Octets.{IsOctets}
use Rattle.oer_cmd.specs.Answer.{ended, limited, within_limit}
use Rattle.oer_cmd.specs.Expected.{Expected, Meets, Says, SaysOf, refusal, stop, unknown, value, ◌>>=◌}
use Rattle.oer_cmd.specs.Faults.{status_of}
use Rattle.oer_cmd.specs.declared.fault.Fault.{Fault}
use Rattle.oer_cmd.specs.declared.fault.Fault.TheVariants.{Follows}

-- the bytes of a line
abbrev pub bytes : String Global → List ℕ
bytes line = string_bytes line

-- a fault of status 3 has none below it
pub three : (fault x : Fault) → fault ≡ x → status_of x ≡ 3 → status_of fault ≤ 2 → ⊥
three fault x e s small = omega (arith, ap status_of e, s, small)

-- what a `?` answers
pub left : {X : Type 0} (r : Result X Fault) (fault : Fault) → IsErrAnd r (λ e. e ≡ fault) → r ≡ Err fault
left (Ok x) fault h = absurd h
left (Err e) fault h = ap (λ (f : Fault). Err f) h

-- A failure of the machine is always allowed.
pub fails : {X Y : Type 0} (view : X → Y) (m : Expected Y) (fault : Fault) → (status_of fault ≤ 2 → ⊥) → Meets view m (Err fault)
fails view unknown fault high = tt
fails view (value y) fault high = high
fails view (refusal r) fault high = λ small. absurd (high small)

-- Where a step is refused, what goes on from it is.
pub stops : {X Y Z W : Type 0} (view : X → Y) (view' : Z → W) (m : Expected Y) (next : Y → Expected W) (fault : Fault)
    → Meets view m (Err fault) → Meets view' (m >>= next) (Err fault)
stops view view' unknown next fault h = tt
stops view view' (value y) next fault h = fails view' (next y) fault h
stops view view' (refusal r) next fault h = h

pub stops_twice : {X Y V Z W : Type 0} (view : X → Y) (view' : Z → W) (m : Expected Y) (next : Y → Expected V) (more : V → Expected W) (fault : Fault)
    → Meets view m (Err fault) → Meets view' (m >>= next >>= more) (Err fault)
stops_twice view view' unknown next more fault h = tt
stops_twice view view' (value y) next more fault h = fails view' (next y >>= more) fault h
stops_twice view view' (refusal r) next more fault h = h

-- Where it is made, what goes on is next.
pub goes : {X Y Z W : Type 0} (view : X → Y) (view' : Z → W) (m : Expected Y) (next : Y → Expected W) (x : X) (result : Result Z Fault)
    → Meets view m (Ok x) → Meets view' (next (view x)) result → Meets view' (m >>= next) result
goes view view' unknown next x result h k = tt
goes view view' (value y) next x result h k = subst (λ z. Meets view' (next z) result) h k
goes view view' (refusal r) next x result h k = absurd h

pub meets : {X Y : Type 0} (view : X → Y) (m : Expected Y) (result : Result X Fault) → Says view m result → Meets view m result
meets view unknown result h = tt
meets view (value y) (Ok x) h = cc
meets view (value y) (Err fault) h = λ small. let no = h small in cc
meets view (refusal r) (Ok x) h = absurd (cc)
meets view (refusal r) (Err fault) h = λ small. let same = h small in cc

-- Two steps that follow one are one.
pub assoc : {A B C : Type 0} (m : Expected A) (f : A → Expected B) (g : B → Expected C) → (m >>= f >>= g) ≡ (m >>= λ x. f x >>= g)
assoc unknown f g = refl
assoc (refusal r) f g = refl
assoc (value x) f g = refl

-- what is said of an answer that is expected, by another name
pub named : {X Y : Type 0} (view : X → Y) (m n : Expected Y) (result : Result X Fault) → m ≡ n → Says view n result → Says view m result
named view m n (Ok x) same h = same ∙ h
named view m n (Err fault) same h = λ small. same ∙ h small

pub named_of : {X Y : Type 0} (view : X → Y) (b : List ℕ) (m n : Expected Y) (result : Result X Fault) → m ≡ n → SaysOf view b n result
    → Says view m result
named_of view b m n (Ok x) same h = same ∙ h.1
named_of view b m n (Err fault) same h = λ small. same ∙ h small

-- what holds anyway
pub anyway : {X : Type 0} (P : Type 0) (result : Result X Fault) → P → IfOk result (λ x. P)
anyway P (Ok x) p = p
anyway P (Err fault) p = tt

-- All that there is was gathered, and the same octets are looked at as a slice.
pub limited_said : {X : Type 0} (view : X → Text) (limit : ℕ) (next : List ℕ → Expected Text) (told : Option (List ℕ)) (b octets slice : List ℕ)
    (result : Result X Fault) → IfSome told (λ xs. xs ≡ octets) → told ≡ Some b → slice ≡ octets → within_limit limit b ≡ value octets
    → IfOk result (λ x. IsOctets slice) → Says view (next slice) result → SaysOf view b (limited limit next b) result
limited_said view limit next told b octets slice (Ok x) all is same few are h =
    let first = rw is at all in (subst IsOctets (same ∙ sym first) are, ap (λ o. o >>= next) few ∙ ap next (sym same) ∙ h)
limited_said view limit next told b octets slice (Err fault) all is same few are h = λ small. ap (λ o. o >>= next) few ∙ ap next (sym same) ∙ h small

-- Octets follow.
pub ended_more : {A : Type 0} (m n : ℕ) (x : A) (rest : List ℕ) → rest ≢ [] → m ≡ n → ended m x rest ≡ stop (Follows n)
ended_more m n x [] some same = absurd (some refl)
ended_more m n x (y ∷ rest) some same = ap (λ (k : ℕ). stop (Follows k)) same
