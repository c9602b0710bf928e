-- Numbers in base 128, digit by digit.
use Rattle.std.proofs.Common.{◌≡◌, ◌≢◌, ℕ, zero, suc, ◌+◌, ◌-◌, ◌*◌, ◌/◌, ◌%◌, ◌^◌, ◌<◌, ◌≤◌, Bool, true, false, not, leb, ltb, eqb, ◌&&◌, Result, Ok, Err, arith, refl, sym, ap, ◌∙◌, subst}
use Rattle.std.proofs.lemmas.Bool.{le-leb, lt-leb, le-ltb, lt-ltb, ne_eqb}
use Rattle.oer_units.specs.declared.fault.Why.{Why}
use Rattle.oer_units.specs.declared.fault.Why.TheVariants.{Device, Memory, ObjectId, TagForm}
use Rattle.oer_units.specs.declared.fault.ReadFault.{ReadFault}
use Rattle.oer_units.specs.declared.tagging.Tag.{Tag}
use Rattle.oer_units.specs.declared.tagging.Class.{Class}
use Rattle.oer_units.specs.Reader.{Place, Outcome, Reader, bind, give, refuse, guard, choose, then_read}
use Rattle.oer_units.specs.Reading.{octet, digits, digits_after, long_number, class_of, tag, tag_after, subidentifier, subidentifier_after, subidentifier_digits}
use Rattle.oer_units.specs.ReadingSteps.{IsOfForm, digits_then, digits_within, base128_within}
use Rattle.oer_units.specs.Reads.{place, named, seen, State, Reads, Leads}
use Rattle.oer_units.proofs.ReadSteps.{Reads-then, Reads-stop, Reads-give, Reads-map, Reads-same, Reads-refused}
use Rattle.oer_units.proofs.ReadNumbers.{assoc, agree}

pub form_name : (why : Why) (i : Bool) → IsOfForm why → named i why ≡ why
form_name why false h = refl
form_name ObjectId true h = refl
form_name TagForm true h = refl
form_name _ true h = absurd h

pub form_other : (why : Why) → IsOfForm why → why ≢ Device
form_other ObjectId h = λ (e : ObjectId ≡ Device). cc
form_other TagForm h = λ (e : TagForm ≡ Device). cc
form_other _ h = absurd h

pub form_memory : (why : Why) → IsOfForm why → why ≢ Memory
form_memory ObjectId h = λ (e : ObjectId ≡ Memory). cc
form_memory TagForm h = λ (e : TagForm ≡ Memory). cc
form_memory _ h = absurd h

-- a refusal of the form, here
refused_here : {A : Type 0} (why : Why) (e : ReadFault) (s : State) → IsOfForm why → e.why ≡ why → e.taken ≡ s.bound.taken → Reads {A = A} (refuse why) s (Err e) s
refused_here {A} why e s form is taken = Reads-refused A why e s (subst (λ (w : Why). w ≢ Device) (sym is) (form_other why form)) (form_name why s.bound.inside form ∙ sym is) taken

abbrev Next : Type 0
Next = ℕ → Reader (ℕ × ℕ)

then_end : (why : Why) (limit : ℕ) (next : Next) (high x v : ℕ) (s : State) → x < 128 → v ≡ high * 128 + x % 128 → v < limit → Reads (digits_then why limit next high x) s (Ok (v, 1)) s
then_end why limit next high x v s short is less =
    let a : leb x 255 ≡ true = le-leb x 255 (omega arith) in
    let b : ltb (high * 128 + x % 128) limit ≡ true = lt-ltb _ _ (omega arith) in
    let c : ltb x 128 ≡ true = lt-ltb _ _ short in
    rw (a, b, c, sym is) (Reads-give (v, 1) s)

then_large : (why : Why) (limit : ℕ) (next : Next) (high x : ℕ) (e : ReadFault) (s : State) → IsOfForm why → limit ≤ high * 128 + x % 128 → x < 256 → e.why ≡ why → e.taken ≡ s.bound.taken → Reads (digits_then why limit next high x) s (Err e) s
then_large why limit next high x e s form le fits is taken =
    let a : leb x 255 ≡ true = le-leb x 255 (omega arith) in
    let b : ltb (high * 128 + x % 128) limit ≡ false = le-ltb _ _ le in
    rw (a, b) (refused_here why e s form is taken)

then_go : (why : Why) (limit : ℕ) (next : Next) (high x v : ℕ) (result : Result (ℕ × ℕ) ReadFault) (s s' : State) → 128 ≤ x → x < 256 → v ≡ high * 128 + x % 128 → v < limit → Reads (next v) s result s' → Reads (digits_then why limit next high x) s (seen (λ y. (y.0, suc y.1)) result) s'
then_go why limit next high x v result s s' long fits is less p =
    let a : leb x 255 ≡ true = le-leb x 255 (omega arith) in
    let b : ltb (high * 128 + x % 128) limit ≡ true = lt-ltb _ _ (omega arith) in
    let c : ltb x 128 ≡ false = le-ltb _ _ long in
    rw (a, b, c, sym is) (Reads-map (next v) (λ y. (y.0, suc y.1)) s s' result p)

-- ---- further digits

pub digits_stop : {A : Type 0} (why : Why) (limit k n high : ℕ) (s s' old : State) (e : ReadFault) (f : ℕ × ℕ → A) (whole : Reader A) → k ≡ suc n → Leads (digits_within why limit k high) s f whole old → Reads octet s (Err e) s' → Reads whole old (Err e) s'
unfolding digits_within
digits_stop why limit k n high s s' old e f whole is p r =
    p (Err e) s' (subst (λ (j : ℕ). Reads (digits_within why limit j high) s (Err e) s') (sym is) (Reads-stop octet (digits_then why limit (digits_within why limit n) high) s s' e r))

pub digits_large : {A : Type 0} (why : Why) (limit k n high x : ℕ) (s s' old : State) (e : ReadFault) (f : ℕ × ℕ → A) (whole : Reader A) → IsOfForm why → k ≡ suc n → limit ≤ high * 128 + x % 128 → x < 256 → e.why ≡ why → e.taken ≡ s'.bound.taken → Leads (digits_within why limit k high) s f whole old → Reads octet s (Ok x) s' → Reads whole old (Err e) s'
unfolding digits_within
digits_large why limit k n high x s s' old e f whole form is le fits same taken p r =
    p (Err e) s' (subst (λ (j : ℕ). Reads (digits_within why limit j high) s (Err e) s') (sym is) (Reads-then octet (digits_then why limit (digits_within why limit n) high) s s' s' x (Err e) r (then_large why limit (digits_within why limit n) high x e s' form le fits same taken)))

pub digits_end : {A : Type 0} (why : Why) (limit k n high x v : ℕ) (s s' old : State) (f : ℕ × ℕ → A) (y : A) (whole : Reader A) → k ≡ suc n → x < 128 → v ≡ high * 128 + x % 128 → v < limit → f (v, 1) ≡ y → Leads (digits_within why limit k high) s f whole old → Reads octet s (Ok x) s' → Reads whole old (Ok y) s'
unfolding digits_within
digits_end why limit k n high x v s s' old f y whole is short number less same p r =
    subst (λ (z : _). Reads whole old (Ok z) s') same
    (p (Ok (v, 1)) s' (subst (λ (j : ℕ). Reads (digits_within why limit j high) s (Ok (v, 1)) s') (sym is) (Reads-then octet (digits_then why limit (digits_within why limit n) high) s s' s' x (Ok (v, 1)) r (then_end why limit (digits_within why limit n) high x v s' short number less))))

seen_as : {A : Type 0} (f g : ℕ × ℕ → A) (r : Reader A) (s s' : State) (result : Result (ℕ × ℕ) ReadFault) → ((y : ℕ × ℕ) → f (y.0, suc y.1) ≡ g y) → Reads r s (seen f (seen (λ y. (y.0, suc y.1)) result)) s' → Reads r s (seen g result) s'
seen_as f g r s s' (Ok y) same p = subst (λ (z : _). Reads r s (Ok z) s') (same y) p
seen_as f g r s s' (Err e) same p = p

pub digits_go : {A : Type 0} (why : Why) (limit k n high x v : ℕ) (s s' old : State) (f g : ℕ × ℕ → A) (whole : Reader A) → k ≡ suc n → 128 ≤ x → x < 256 → v ≡ high * 128 + x % 128 → v < limit → ((y : ℕ × ℕ) → f (y.0, suc y.1) ≡ g y) → Leads (digits_within why limit k high) s f whole old → Reads octet s (Ok x) s' → Leads (digits_within why limit n v) s' g whole old
unfolding digits_within
digits_go why limit k n high x v s s' old f g whole is long fits number less same p r result then h =
    let more : Reads (digits_then why limit (digits_within why limit n) high x) s' (seen (λ y. (y.0, suc y.1)) result) then = then_go why limit (digits_within why limit n) high x v result s' then long fits number less h in
    let here : Reads (digits_within why limit (suc n) high) s (seen (λ y. (y.0, suc y.1)) result) then = Reads-then octet (digits_then why limit (digits_within why limit n) high) s s' then x _ r more in
    seen_as f g whole old then result same (p (seen (λ y. (y.0, suc y.1)) result) then (subst (λ (j : ℕ). Reads (digits_within why limit j high) s (seen (λ y. (y.0, suc y.1)) result) then) (sym is) here))

pub digits_none : {A : Type 0} (why : Why) (limit k high : ℕ) (s old : State) (e : ReadFault) (f : ℕ × ℕ → A) (whole : Reader A) → IsOfForm why → k ≡ 0 → e.why ≡ why → e.taken ≡ s.bound.taken → Leads (digits_within why limit k high) s f whole old → Reads whole old (Err e) s
unfolding digits_within
digits_none why limit k high s old e f whole form is same taken p =
    p (Err e) s (subst (λ (j : ℕ). Reads (digits_within why limit j high) s (Err e) s) (sym is) (refused_here why e s form same taken))

seen_pair : (r : Reader (ℕ × ℕ)) (s s' : State) (result : Result (ℕ × ℕ) ReadFault) → Reads r s result s' → Reads r s (seen (λ y. (y.0, y.1 + 0)) result) s'
seen_pair r s s' (Ok y) p = let e : y.1 ≡ y.1 + 0 = omega arith in subst (λ (n : ℕ). Reads r s (Ok (y.0, n)) s') e p
seen_pair r s s' (Err e) p = p

pub digits_start : (why : Why) (limit count k high : ℕ) (s : State) → k ≡ count → Leads (digits_within why limit k high) s (λ y. (y.0, y.1 + 0)) (digits_within why limit count high) s
digits_start why limit count k high s is result then h = seen_pair (digits_within why limit count high) s then result (subst (λ (j : ℕ). Reads (digits_within why limit j high) s result then) is h)

-- ---- the first digit

pub base_stop : (why : Why) (limit k : ℕ) (s s' : State) (e : ReadFault) → 1 ≤ k → Reads octet s (Err e) s' → Reads (base128_within why limit k) s (Err e) s'
base_stop why limit zero s s' e some r = absurd (omega arith)
base_stop why limit (suc k) s s' e some r = Reads-stop octet _ s s' e r

pub base_end : (why : Why) (limit k x count : ℕ) (s s' : State) → 1 ≤ k → x < 128 → 128 ≤ limit → count ≡ 1 → Reads octet s (Ok x) s' → Reads (base128_within why limit k) s (Ok (x, count)) s'
base_end why limit zero x count s s' some short le is r = absurd (omega arith)
base_end why limit (suc k) x count s s' some short le is r =
    let other : eqb x 128 ≡ false = ne_eqb x 128 (omega arith) in
    subst (λ (n : ℕ). Reads (base128_within why limit (suc k)) s (Ok (x, n)) s') (sym is)
    (Reads-then octet (λ x. guard (not (eqb x 128)) why (digits_then why limit (digits_within why limit k) 0 x)) s s' s' x (Ok (x, 1)) r (rw other (then_end why limit (digits_within why limit k) 0 x x s' short (omega arith) (omega arith))))

pub base_zero : (why : Why) (limit k x : ℕ) (s s' : State) (e : ReadFault) → 1 ≤ k → IsOfForm why → x ≡ 128 → e.why ≡ why → e.taken ≡ s'.bound.taken → Reads octet s (Ok x) s' → Reads (base128_within why limit k) s (Err e) s'
base_zero why limit zero x s s' e some form is same taken r = absurd (omega arith)
base_zero why limit (suc k) x s s' e some form is same taken r =
    Reads-then octet (λ x. guard (not (eqb x 128)) why (digits_then why limit (digits_within why limit k) 0 x)) s s' s' x (Err e) r (rw is (refused_here why e s' form same taken))

-- how many octets, counted from the first one on
seen_count : (r : Reader (ℕ × ℕ)) (s s' : State) (m n : ℕ) (result : Result ℕ ReadFault) → n ≡ suc m → Reads r s (seen (λ (y : ℕ × ℕ). (y.0, suc y.1)) (seen (λ (v : ℕ). (v, m)) result)) s' → Reads r s (seen (λ (v : ℕ). (v, n)) result) s'
seen_count r s s' m n (Ok v) is p = subst (λ (k : ℕ). Reads r s (Ok (v, k)) s') (sym is) p
seen_count r s s' m n (Err e) is p = p

pub base_go : (why : Why) (limit k x v m n : ℕ) (result : Result ℕ ReadFault) (s s' s'' : State) → 1 ≤ k → 128 ≤ x → x ≢ 128 → x < 256 → v ≡ x - 128 → 128 ≤ limit → n ≡ suc m → Reads octet s (Ok x) s' → Reads (digits_within why limit (k - 1) v) s' (seen (λ (y : ℕ). (y, m)) result) s'' → Reads (base128_within why limit k) s (seen (λ (y : ℕ). (y, n)) result) s''
base_go why limit zero x v m n result s s' s'' some long other fits is le count r p = absurd (omega arith)
base_go why limit (suc k) x v m n result s s' s'' some long other fits is le count r p =
    let same : suc k - 1 ≡ k = omega arith in
    let differs : eqb x 128 ≡ false = ne_eqb x 128 other in
    let here : Reads (digits_within why limit k v) s' (seen (λ (y : ℕ). (y, m)) result) s'' = subst (λ (j : ℕ). Reads (digits_within why limit j v) s' (seen (λ (y : ℕ). (y, m)) result) s'') same p in
    let more : Reads (digits_then why limit (digits_within why limit k) 0 x) s' (seen (λ (y : ℕ × ℕ). (y.0, suc y.1)) (seen (λ (y : ℕ). (y, m)) result)) s'' = then_go why limit (digits_within why limit k) 0 x v _ s' s'' long fits (omega arith) (omega arith) here in
    seen_count (base128_within why limit (suc k)) s s'' m n result count (Reads-then octet (λ x. guard (not (eqb x 128)) why (digits_then why limit (digits_within why limit k) 0 x)) s s' s'' x _ r (rw differs more))

-- ---- subidentifiers

pick : {A : Type 0} (c d : Bool) (why : Why) (r t u : Reader A) (q : Place) → t q ≡ u q → guard c why (choose d r t) q ≡ guard c why (choose d r u) q
pick false d why r t u q e = refl
pick true true why r t u q e = refl
pick true false why r t u q e = e

bind_same : {A B : Type 0} (r r' : Reader A) (f : A → Reader B) (q : Place) → r q ≡ r' q → bind r f q ≡ bind r' f q
unfolding bind
bind_same r r' f q e = ap (λ (o : Outcome _). then_read f o) e

sub_digits : (k high : ℕ) (p : Place) → digits_within ObjectId (2 ^ 128) k high p ≡ subidentifier_digits k high p
unfolding digits_within subidentifier_digits
sub_digits zero high p = refl
sub_digits (suc k) high p = agree octet (digits_then ObjectId (2 ^ 128) (digits_within ObjectId (2 ^ 128) k) high) (subidentifier_after (subidentifier_digits k) high) p
    (λ x q. pick (leb x 255 && ltb (high * 128 + x % 128) (2 ^ 128)) (ltb x 128) ObjectId _ _ _ q (bind_same (digits_within ObjectId (2 ^ 128) k (high * 128 + x % 128)) (subidentifier_digits k (high * 128 + x % 128)) (λ y. give (y.0, suc y.1)) q (sub_digits k (high * 128 + x % 128) q)))

guarded : {A : Type 0} (c : Bool) (why : Why) (r u : Reader A) (q : Place) → r q ≡ u q → guard c why r q ≡ guard c why u q
guarded false why r u q e = refl
guarded true why r u q e = e

sub_then : (k high x : ℕ) (q : Place) → digits_then ObjectId (2 ^ 128) (digits_within ObjectId (2 ^ 128) k) high x q ≡ subidentifier_after (subidentifier_digits k) high x q
sub_then k high x q = pick (leb x 255 && ltb (high * 128 + x % 128) (2 ^ 128)) (ltb x 128) ObjectId _ _ _ q (bind_same (digits_within ObjectId (2 ^ 128) k (high * 128 + x % 128)) (subidentifier_digits k (high * 128 + x % 128)) (λ y. give (y.0, suc y.1)) q (sub_digits k (high * 128 + x % 128) q))

sub_is : (k : ℕ) (p : Place) → base128_within ObjectId (2 ^ 128) k p ≡ subidentifier k p
unfolding subidentifier
sub_is zero p = refl
sub_is (suc k) p = agree octet (λ x. guard (not (eqb x 128)) ObjectId (digits_then ObjectId (2 ^ 128) (digits_within ObjectId (2 ^ 128) k) 0 x)) (λ x. guard (not (eqb x 128)) ObjectId (subidentifier_after (subidentifier_digits k) 0 x)) p (λ x q. guarded (not (eqb x 128)) ObjectId _ _ q (sub_then k 0 x q))

pub subidentifier_reads : (k : ℕ) (s s' : State) (result : Result (ℕ × ℕ) ReadFault) → Reads (base128_within ObjectId (2 ^ 128) k) s result s' → Reads (subidentifier k) s result s'
subidentifier_reads k s s' result p = Reads-same (base128_within ObjectId (2 ^ 128) k) (subidentifier k) s s' result (λ xs. sub_is k (place xs s.bound)) p

-- ---- tags

-- the number alone, which isn't below 63
abbrev alone : ℕ × ℕ → Reader ℕ
alone y = guard (leb 63 y.0) TagForm (give y.0)

tag_pick : (c d : Bool) (v : ℕ) (m : Reader (ℕ × ℕ)) (n : Reader ℕ) (q : Place) → bind m alone q ≡ n q → bind (guard c TagForm (choose d (give (v, 1)) (bind m (λ y. give (y.0, suc y.1))))) alone q ≡ guard c TagForm (choose d (guard (leb 63 v) TagForm (give v)) n) q
unfolding bind give refuse
tag_pick false d v m n q e = refl
tag_pick true true v m n q e = refl
tag_pick true false v m n q e = assoc m (λ y. give (y.0, suc y.1)) alone q ∙ e

tag_digits : (k high : ℕ) (p : Place) → bind (digits_within TagForm (2 ^ 32) k high) alone p ≡ digits k high p
unfolding digits_within digits bind refuse
tag_digits zero high p = refl
tag_digits (suc k) high p =
    assoc octet (digits_then TagForm (2 ^ 32) (digits_within TagForm (2 ^ 32) k) high) alone p
    ∙ agree octet (λ x. bind (digits_then TagForm (2 ^ 32) (digits_within TagForm (2 ^ 32) k) high x) alone) (digits_after (digits k) high) p
    (λ x q. tag_pick (leb x 255 && ltb (high * 128 + x % 128) (2 ^ 32)) (ltb x 128) (high * 128 + x % 128) (digits_within TagForm (2 ^ 32) k (high * 128 + x % 128)) (digits k (high * 128 + x % 128)) q (tag_digits k (high * 128 + x % 128) q))

guard_then : {A B : Type 0} (c : Bool) (why : Why) (m : Reader A) (f : A → Reader B) (n : Reader B) (q : Place) → bind m f q ≡ n q → bind (guard c why m) f q ≡ guard c why n q
unfolding bind refuse
guard_then false why m f n q e = refl
guard_then true why m f n q e = e

tag_then : (k high x : ℕ) (q : Place) → bind (digits_then TagForm (2 ^ 32) (digits_within TagForm (2 ^ 32) k) high x) alone q ≡ digits_after (digits k) high x q
tag_then k high x q = tag_pick (leb x 255 && ltb (high * 128 + x % 128) (2 ^ 32)) (ltb x 128) (high * 128 + x % 128) (digits_within TagForm (2 ^ 32) k (high * 128 + x % 128)) (digits k (high * 128 + x % 128)) q (tag_digits k (high * 128 + x % 128) q)

long_is : (p : Place) → bind (base128_within TagForm (2 ^ 32) 6) alone p ≡ long_number p
unfolding long_number
long_is p =
    assoc octet (λ x. guard (not (eqb x 128)) TagForm (digits_then TagForm (2 ^ 32) (digits_within TagForm (2 ^ 32) 5) 0 x)) alone p
    ∙ agree octet _ (λ x. guard (not (eqb x 128)) TagForm (digits_after (digits 5) 0 x)) p (λ x q. guard_then (not (eqb x 128)) TagForm _ alone _ q (tag_then 5 0 x q))

pub tag_number_stop : (s s' : State) (e : ReadFault) → Reads (base128_within TagForm (2 ^ 32) 6) s (Err e) s' → Reads long_number s (Err e) s'
tag_number_stop s s' e p = Reads-same (bind (base128_within TagForm (2 ^ 32) 6) alone) long_number s s' (Err e) (λ xs. long_is (place xs s.bound)) (Reads-stop (base128_within TagForm (2 ^ 32) 6) alone s s' e p)

pub tag_number_low : (s s' : State) (v m : ℕ) (e : ReadFault) → v < 63 → e.why ≡ TagForm → e.taken ≡ s'.bound.taken → Reads (base128_within TagForm (2 ^ 32) 6) s (Ok (v, m)) s' → Reads long_number s (Err e) s'
tag_number_low s s' v m e less same taken p =
    let low : leb 63 v ≡ false = lt-leb 63 v less in
    Reads-same (bind (base128_within TagForm (2 ^ 32) 6) alone) long_number s s' (Err e) (λ xs. long_is (place xs s.bound)) (Reads-then (base128_within TagForm (2 ^ 32) 6) alone s s' s' (v, m) (Err e) p (rw low (refused_here TagForm e s' tt same taken)))

pub tag_number_got : (s s' : State) (v m : ℕ) → 63 ≤ v → Reads (base128_within TagForm (2 ^ 32) 6) s (Ok (v, m)) s' → Reads long_number s (Ok v) s'
tag_number_got s s' v m le p =
    let high : leb 63 v ≡ true = le-leb 63 v le in
    Reads-same (bind (base128_within TagForm (2 ^ 32) 6) alone) long_number s s' (Ok v) (λ xs. long_is (place xs s.bound)) (Reads-then (base128_within TagForm (2 ^ 32) 6) alone s s' s' (v, m) (Ok v) p (rw high (Reads-give v s')))

abbrev pub tag_of : Class → ℕ → Tag
tag_of c n = record { class = c; number = n }

pub tag_stop : (s s' : State) (e : ReadFault) → Reads octet s (Err e) s' → Reads tag s (Err e) s'
unfolding tag
tag_stop s s' e p = Reads-stop octet tag_after s s' e p

pub tag_short : (s s' : State) (x : ℕ) (c : Class) → x < 256 → x % 64 < 63 → c ≡ class_of (x / 64) → Reads octet s (Ok x) s' → Reads tag s (Ok (record { class = c; number = x % 64 })) s'
unfolding tag
tag_short s s' x c fits less is p =
    let a : leb x 255 ≡ true = le-leb x 255 (omega arith) in
    let b : ltb (x % 64) 63 ≡ true = lt-ltb _ _ less in
    let t : Tag = record { class = c; number = x % 64 } in
    Reads-then octet tag_after s s' s' x (Ok t) p (rw (a, b, sym is) (Reads-give t s'))

pub tag_long : (s s' s'' : State) (x : ℕ) (c : Class) (result : Result ℕ ReadFault) → x < 256 → 63 ≤ x % 64 → c ≡ class_of (x / 64) → Reads octet s (Ok x) s' → Reads long_number s' result s'' → Reads tag s (seen (λ (n : ℕ). tag_of c n) result) s''
unfolding tag
tag_long s s' s'' x c result fits le is p q =
    let a : leb x 255 ≡ true = le-leb x 255 (omega arith) in
    let b : ltb (x % 64) 63 ≡ false = le-ltb _ _ le in
    Reads-then octet tag_after s s' s'' x _ p (rw (a, b, sym is) (Reads-map long_number (λ n. tag_of c n) s' s'' result q))
