-- Counted numbers, step by step.
use Rattle.std.proofs.Common.{◌≡◌, ◌≢◌, ℕ, ◌-◌, ◌^◌, ◌<◌, ◌≤◌, Bool, true, false, leb, ltb, List, Result, Ok, Err, arith, refl, sym, ap, ◌∙◌, pos, ℤ}
use Rattle.std.proofs.lemmas.Bool.{le-leb, lt-leb, le-ltb, lt-ltb}
use Rattle.oer_units.specs.declared.fault.Why.TheVariants.{Device, EmptyNumber, EnumForm, IntegerRange}
use Rattle.oer_units.specs.declared.fault.ReadFault.{ReadFault}
use Rattle.oer_units.specs.declared.twos.Twos.{Twos}
use Rattle.oer_units.specs.Reader.{Reader, guard}
use Rattle.oer_units.specs.Reading.{number, counted_length, counted_number, is_int128, is_int64, octet, enumerated, enumerated_after}
use Rattle.oer_units.specs.Numbers.{unsigned, signed, natural}
use Rattle.oer_units.specs.Fixed.{group_as}
use Rattle.oer_units.specs.ReadingSteps.{size_after, twos_of_octets, int_of}
use Rattle.oer_units.specs.Reads.{named, State, Reads}
use Rattle.oer_units.proofs.ReadSteps.{Reads-then, Reads-stop, Reads-give, Reads-refused}
use Rattle.oer_units.proofs.ReadNumbers.{got_as, number_in, number_out, number_stop, unsigned_is, signed_is, signed_out128, signed_out64, size_whole, out_int128, in_int64}
use Rattle.oer_units.proofs.ReadLengths.{with_stop, with_then}

-- ---- counted numbers

empty_name : (i : Bool) → named i EmptyNumber ≡ EmptyNumber
empty_name true = refl
empty_name false = refl

range_name : (i : Bool) → named i IntegerRange ≡ IntegerRange
range_name true = refl
range_name false = refl

-- what follows the count
abbrev counted_by : {A : Type 0} → (List ℕ → A) → (A → Bool) → ℕ → Reader A
counted_by f test n = guard (leb 1 n) EmptyNumber (number IntegerRange f test n)

pub counted_stop : {A : Type 0} (f : List ℕ → A) (test : A → Bool) (s s' : State) (e : ReadFault) → Reads counted_length s (Err e) s' → Reads (counted_number f test) s (Err e) s'
unfolding counted_number
counted_stop f test s s' e p = with_stop (counted_by f test) s s' e p

pub counted_empty : {A : Type 0} (f : List ℕ → A) (test : A → Bool) (s s' : State) (n : ℕ) (e : ReadFault) → n ≡ 0 → e.why ≡ EmptyNumber → e.taken ≡ s'.bound.taken → Reads counted_length s (Ok n) s' → Reads (counted_number f test) s (Err e) s'
unfolding counted_number
counted_empty {A} f test s s' n e is why taken p =
    let none : leb 1 n ≡ false = lt-leb 1 n (omega arith) in
    let refused = Reads-refused A EmptyNumber e s' (λ (device : e.why ≡ Device). cc) (empty_name s'.bound.inside ∙ sym why) taken in
    with_then (counted_by f test) s s' s' n (Err e) p (rw none refused)

counted_some : {A : Type 0} (f : List ℕ → A) (test : A → Bool) (s s' s'' : State) (n : ℕ) (result : Result A ReadFault) → n ≢ 0 → Reads counted_length s (Ok n) s' → Reads (number IntegerRange f test n) s' result s'' → Reads (counted_number f test) s result s''
unfolding counted_number
counted_some f test s s' s'' n result some p q =
    let there : leb 1 n ≡ true = le-leb 1 n (omega arith) in
    with_then (counted_by f test) s s' s'' n result p (rw there q)

pub counted_short : {A B : Type 0} (h : List ℕ → B) (f : List ℕ → A) (test : A → Bool) (s s' s'' : State) (n : ℕ) (e : ReadFault) → n ≢ 0 → Reads counted_length s (Ok n) s' → Reads (group_as n h) s' (Err e) s'' → Reads (counted_number f test) s (Err e) s''
counted_short h f test s s' s'' n e some p q = counted_some f test s s' s'' n (Err e) some p (number_stop IntegerRange h f test n s' s'' e q)

pub counted_got : {A : Type 0} (f : List ℕ → A) (test : A → Bool) (s s' s'' : State) (n : ℕ) (v : A) → n ≢ 0 → test v ≡ true → Reads counted_length s (Ok n) s' → Reads (group_as n f) s' (Ok v) s'' → Reads (counted_number f test) s (Ok v) s''
counted_got f test s s' s'' n v some passes p q = counted_some f test s s' s'' n (Ok v) some p (number_in IntegerRange f test n v s' s'' passes q)

pub counted_large : {A : Type 0} (f : List ℕ → A) (test : A → Bool) (s s' s'' : State) (n : ℕ) (e : ReadFault) → n ≢ 0 → e.why ≡ IntegerRange → e.taken ≡ s''.bound.taken → Reads counted_length s (Ok n) s' → Reads (group_as n (λ w. test (f w))) s' (Ok false) s'' → Reads (counted_number f test) s (Err e) s''
counted_large f test s s' s'' n e some why taken p q =
    counted_some f test s s' s'' n (Err e) some p (number_out IntegerRange f test n s' s'' e (λ (device : e.why ≡ Device). cc) (range_name s'.bound.inside ∙ sym why) taken q)

-- ---- the numbers that the program holds

-- an unsigned number
pub natural_got : (n : ℕ) (v : ℕ) (s s' : State) → v < 2 ^ 127 → Reads (group_as n (size_after false 0)) s (Ok v) s' → Reads (group_as n natural) s (Ok (pos v)) s'
natural_got n v s s' less p = got_as n (size_after false 0) natural v (pos v) s s' (λ w l fits e. ap pos (unsigned_is w v e less)) p

natural_large : (w : List ℕ) (v : ℕ) → size_after false 0 w ≡ v → 2 ^ 127 ≤ v → is_int128 (natural w) ≡ false
natural_large w v e le = let h = size_whole w in out_int128 false (unsigned w) (omega arith)

pub natural_out : (n : ℕ) (v : ℕ) (s s' : State) → 2 ^ 127 ≤ v → Reads (group_as n (size_after false 0)) s (Ok v) s' → Reads (group_as n (λ w. is_int128 (natural w))) s (Ok false) s'
natural_out n v s s' le p = got_as n (size_after false 0) (λ w. is_int128 (natural w)) v false s s' (λ w l fits e. natural_large w v e le) p

-- a signed number
pub signed_got : (n : ℕ) (t : Twos) (s s' : State) → 1 ≤ n → t.size < 2 ^ 127 → Reads (group_as n twos_of_octets) s (Ok t) s' → Reads (group_as n signed) s (Ok (int_of t)) s'
signed_got n t s s' some less p = got_as n twos_of_octets signed t (int_of t) s s' (λ w l fits e. signed_is w t (omega arith) fits e less) p

pub signed_large : (n : ℕ) (t : Twos) (s s' : State) → 1 ≤ n → 2 ^ 127 ≤ t.size → Reads (group_as n twos_of_octets) s (Ok t) s' → Reads (group_as n (λ w. is_int128 (signed w))) s (Ok false) s'
signed_large n t s s' some le p = got_as n twos_of_octets (λ w. is_int128 (signed w)) t false s s' (λ w l fits e. signed_out128 w t (omega arith) fits e le) p

signed_large64 : (n : ℕ) (t : Twos) (s s' : State) → 1 ≤ n → 2 ^ 63 ≤ t.size → Reads (group_as n twos_of_octets) s (Ok t) s' → Reads (group_as n (λ w. is_int64 (signed w))) s (Ok false) s'
signed_large64 n t s s' some le p = got_as n twos_of_octets (λ w. is_int64 (signed w)) t false s s' (λ w l fits e. signed_out64 w t (omega arith) fits e le) p

-- ---- enumerations

form_name : (i : Bool) → named i EnumForm ≡ EnumForm
form_name true = refl
form_name false = refl

pub enum_number_in : (n : ℕ) (t : Twos) (s s' : State) → 1 ≤ n → t.size < 2 ^ 63 → Reads (group_as n twos_of_octets) s (Ok t) s' → Reads (number EnumForm signed is_int64 n) s (Ok (int_of t)) s'
enum_number_in n t s s' some less p = number_in EnumForm signed is_int64 n (int_of t) s s' (in_int64 t.is_below t.size less) (signed_got n t s s' some (omega arith) p)

pub enum_number_out : (n : ℕ) (t : Twos) (s s' : State) (e : ReadFault) → 1 ≤ n → 2 ^ 63 ≤ t.size → e.why ≡ EnumForm → e.taken ≡ s'.bound.taken → Reads (group_as n twos_of_octets) s (Ok t) s' → Reads (number EnumForm signed is_int64 n) s (Err e) s'
enum_number_out n t s s' e some le why taken p = number_out EnumForm signed is_int64 n s s' e (λ (device : e.why ≡ Device). cc) (form_name s.bound.inside ∙ sym why) taken (signed_large64 n t s s' some le p)

pub enum_stop : (s s' : State) (e : ReadFault) → Reads octet s (Err e) s' → Reads enumerated s (Err e) s'
unfolding enumerated
enum_stop s s' e p = Reads-stop octet enumerated_after s s' e p

pub enum_short : (s s' : State) (first : ℕ) → first < 128 → Reads octet s (Ok first) s' → Reads enumerated s (Ok (pos first)) s'
unfolding enumerated
enum_short s s' first less p =
    let short : ltb first 128 ≡ true = lt-ltb _ _ less in
    Reads-then octet enumerated_after s s' s' first (Ok (pos first)) p (rw short (Reads-give (pos first) s'))

pub enum_form : (s s' : State) (first : ℕ) (e : ReadFault) → first ≡ 128 → e.why ≡ EnumForm → e.taken ≡ s'.bound.taken → Reads octet s (Ok first) s' → Reads enumerated s (Err e) s'
unfolding enumerated
enum_form s s' first e is why taken p =
    let long : ltb first 128 ≡ false = le-ltb _ _ (omega arith) in
    let none : leb 129 first ≡ false = lt-leb 129 first (omega arith) in
    let refused = Reads-refused ℤ EnumForm e s' (λ (device : e.why ≡ Device). cc) (form_name s'.bound.inside ∙ sym why) taken in
    Reads-then octet enumerated_after s s' s' first (Err e) p (rw (long, none) refused)

pub enum_long : (s s' s'' : State) (first : ℕ) (result : Result ℤ ReadFault) → 128 ≤ first → first ≢ 128 → first < 256 → Reads octet s (Ok first) s' → Reads (number EnumForm signed is_int64 (first - 128)) s' result s'' → Reads enumerated s result s''
unfolding enumerated
enum_long s s' s'' first result le other most p q =
    let long : ltb first 128 ≡ false = le-ltb _ _ le in
    let low : leb 129 first ≡ true = le-leb 129 first (omega arith) in
    let high : leb first 255 ≡ true = le-leb first 255 (omega arith) in
    Reads-then octet enumerated_after s s' s'' first result p (rw (long, low, high) q)
