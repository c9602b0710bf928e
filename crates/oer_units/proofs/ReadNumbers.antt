-- Numbers of a group of octets.
use Rattle.std.proofs.Common.{◌≡◌, ◌≢◌, ℕ, zero, suc, ◌+◌, ◌-◌, ◌*◌, ◌^◌, min, ◌<◌, ◌≤◌, Bool, true, false, leb, List, [], ◌∷◌, ◌++◌, length, take, drop, Option, Some, None, Result, Ok, Err, arith, refl, sym, ap, ◌∙◌, inl, inr, subst, pos, negsuc, ◌-ℤ◌, mul_assoc, add-one, get_or, drop-cons}
use Rattle.std.specs.List.{AllByRecursion}
use Rattle.std.proofs.lemmas.Bool.{le-leb, lt-leb, cases_lt}
use Rattle.std.proofs.lemmas.List.{length-append, length-drop, length-take-le, at_drop_all}
use Rattle.std.proofs.Math.Seq.{take-append_seam}
use Rattle.std.proofs.Math.Nat.{pow-le-pow_right, pow-suc, pow-succ', mul-le-mul_right}
use Rattle.std.proofs.lemmas.Int.{ints}
use Rattle.oer_units.specs.declared.fault.Why.{Why}
use Rattle.oer_units.specs.declared.fault.Why.TheVariants.{Device}
use Rattle.oer_units.specs.declared.fault.ReadFault.{ReadFault}
use Rattle.oer_units.specs.declared.twos.Twos.{Twos}
use Rattle.oer_units.specs.Reader.{Place, at, Outcome, got, refused, Reader, bind, give, refuse, guard, group, group_by, then_read}
use Rattle.oer_units.specs.Reading.{octet, number, is_int128, is_int64}
use Rattle.oer_units.specs.Numbers.{unsigned, unsigned_after, signed}
use Rattle.oer_units.specs.Fixed.{group_as}
use Rattle.oer_units.specs.ReadingSteps.{digit, size_after, twos_of, twos_of_octets, int_by, int_of}
use Rattle.oer_units.specs.Reads.{Took, Span, place, named, renamed, seen, count_after, Exactly, State, Reads, Leads}
use Rattle.oer_units.proofs.ReadSteps.{Reads-then, Reads-stop, Reads-map, Reads-same, got_named}
use Rattle.oer_units.proofs.ReadGroups.{group_over, group_short, group_there, group_step, first_and, one_more_read}

pub assoc : {A B C : Type 0} (r : Reader A) (f : A → Reader B) (g : B → Reader C) (p : Place) → bind (bind r f) g p ≡ bind r (λ x. bind (f x) g) p
unfolding bind
assoc r f g p = cases (r p) where
  cases : (o : Outcome _) → then_read g (then_read f o) ≡ then_read (λ x q. then_read g (f x q)) o
  cases (got x q) = refl
  cases (refused w rest) = refl

pub agree : {A B : Type 0} (r : Reader A) (f g : A → Reader B) (p : Place) → ((x : A) (q : Place) → f x q ≡ g x q) → bind r f p ≡ bind r g p
unfolding bind
agree r f g p same = cases (r p) where
  cases : (o : Outcome _) → then_read f o ≡ then_read g o
  cases (got x q) = same x q
  cases (refused w rest) = refl

-- what a group gives, and then r or r' of it, which agree
pub group_agree : {A : Type 0} (n : ℕ) (f g : List ℕ → Reader A) (p : Place) → ((w : List ℕ) (q : Place) → q.left ≤ p.left → f w q ≡ g w q) → bind (group n) f p ≡ bind (group n) g p
unfolding bind group
group_agree {A} n f g p same = cases (leb n p.left) (leb n (length p.input)) where
  cases : (c d : Bool) → then_read f (group_by c d n p) ≡ then_read g (group_by c d n p)
  cases false d = refl
  cases true false = refl
  cases true true = same _ _ (omega arith)

pub give_then : {A B : Type 0} (x : A) (f : A → Reader B) (q : Place) → bind (give x) f q ≡ f x q
unfolding bind give
give_then x f q = refl

pub group_as_map : {A B : Type 0} (n : ℕ) (f : List ℕ → A) (g : A → B) (p : Place) → bind (group_as n f) (λ x. give (g x)) p ≡ group_as n (λ w. g (f w)) p
group_as_map n f g p = assoc (group n) (λ w. give (f w)) (λ x. give (g x)) p ∙ agree (group n) _ _ p (λ w q. give_then (f w) (λ x. give (g x)) q)

then_is : {A : Type 0} (k : ℕ) (f : List ℕ → A) (p : Place) → first_and k p ≡ group (suc k) p → bind (first_and k) (λ w. give (f w)) p ≡ bind (group (suc k)) (λ w. give (f w)) p
unfolding bind
then_is k f p e = ap (λ (o : Outcome (List ℕ)). then_read (λ w. give (f w)) o) e

-- the first octet, and then the others
group_as_step : {A : Type 0} (k : ℕ) (f : List ℕ → A) (xs : List ℕ) (left : ℕ) → suc k ≤ left → bind octet (λ x. group_as k (λ w. f (x ∷ w))) (at xs left) ≡ group_as (suc k) f (at xs left)
group_as_step k f xs left le =
    agree octet _ _ (at xs left) (λ x q. sym (group_as_map k (λ w. x ∷ w) f q))
    ∙ sym (assoc octet (λ x. group_as k (λ w. x ∷ w)) (λ w. give (f w)) (at xs left))
    ∙ then_is k f (at xs left) (group_step k xs left le)

-- a number in two's complement: the first octet, and then the others
pub twos_then : (n : ℕ) (s s' s'' : State) (x : ℕ) (below : Bool) (start : ℕ) (result : Result ℕ ReadFault) → 1 ≤ n → n ≤ s.bound.end - s.bound.taken → leb 128 x ≡ below → digit below x ≡ start → Reads octet s (Ok x) s' → Reads (group_as (n - 1) (size_after below start)) s' result s'' → Reads (group_as n twos_of_octets) s (seen (λ size. twos_of below size) result) s''
twos_then zero s s' s'' x below start result some room is digit_is p q = absurd (omega arith)
twos_then (suc k) s s' s'' x below start result some room is digit_is p q =
    let less : suc k - 1 ≡ k = omega arith in
    let here : Reads (group_as k (size_after below start)) s' result s'' = subst (λ (j : ℕ). Reads (group_as j (size_after below start)) s' result s'') less q in
    let mapped : Reads (group_as k (λ w. twos_of below (size_after below start w))) s' (seen (λ size. twos_of below size) result) s'' = Reads-same (bind (group_as k (size_after below start)) (λ y. give (twos_of below y))) _ s' s'' _ (λ xs. group_as_map k (size_after below start) (λ size. twos_of below size) (place xs s'.bound)) (Reads-map _ (λ size. twos_of below size) s' s'' result here) in
    let named_so : Reads (group_as k (λ w. twos_of_octets (x ∷ w))) s' (seen (λ size. twos_of below size) result) s'' = rw (is, digit_is) mapped in
    Reads-same (bind octet (λ x. group_as k (λ w. twos_of_octets (x ∷ w)))) _ s s'' _ (λ xs. group_as_step k twos_of_octets xs (s.bound.end - s.bound.taken) room) (Reads-then octet (λ x. group_as k (λ w. twos_of_octets (x ∷ w))) s s' s'' x _ p named_so)

pub group_as_same : {A : Type 0} (n : ℕ) (f : List ℕ → A) (s s' : State) (e : ReadFault) → Reads octet s (Err e) s' → 1 ≤ n → n ≤ s.bound.end - s.bound.taken → Reads (group_as n f) s (Err e) s'
group_as_same zero f s s' e p some room = absurd (omega arith)
group_as_same (suc k) f s s' e p some room = Reads-same (bind octet (λ x. group_as k (λ w. f (x ∷ w)))) _ s s' _ (λ xs. group_as_step k f xs (s.bound.end - s.bound.taken) room) (Reads-stop octet _ s s' e p)

-- ---- what else is made of the same octets

exact_refused : {A B : Type 0} (n : ℕ) (f : List ℕ → A) (g : List ℕ → B) (known known' : Option (List ℕ)) (b b' : Span) (e : ReadFault) → Exactly (group_as n f) known b (Err e) known' b' → Exactly (group_as n g) known b (Err e) known' b'
unfolding bind give
exact_refused n f g None known' b b' e h = tt
exact_refused n f g (Some xs) None b b' e h = absurd h
exact_refused {A} {B} n f g (Some xs) (Some ys) b b' e h = λ d m. cases b.inside (group n (place xs b)) (h d m) where
  cases : (i : Bool) (o : Outcome (List ℕ)) → renamed i (then_read (λ w. give (f w)) o) ≡ refused e.why ys → renamed i (then_read (λ w. give (g w)) o) ≡ refused e.why ys
  cases i (got w q) k = cc
  cases i (refused w rest) k = let p : named i w ≡ e.why = cc in let q : rest ≡ ys = cc in ap (λ (v : Why). refused v rest) p ∙ ap (λ (l : List ℕ). refused e.why l) q

pub refused_as : {A B : Type 0} (n : ℕ) (f : List ℕ → A) (g : List ℕ → B) (s s' : State) (e : ReadFault) → Reads (group_as n f) s (Err e) s' → Reads (group_as n g) s (Err e) s'
refused_as n f g s s' e p = record { reader = p.reader; loan = p.loan; kept = tt; limit = p.limit; within = p.within; count = p.count; fault = p.fault; made = tt; took = p.took; exact = exact_refused n f g s.known s'.known s.bound s'.bound e p.exact }

-- the octets of a group that was taken
front_is : (n : ℕ) (xs t ys : List ℕ) → n ≤ length xs → xs ≡ t ++ ys → drop n xs ≡ ys → take n xs ≡ t
front_is n xs t ys le e d =
    let total : length xs ≡ length t + length ys = ap length e ∙ length-append t ys in
    let rest : length xs - n ≡ length ys = sym (length-drop n xs) ∙ ap length d in
    let count : n ≡ length t = omega arith in
    rw (count, e) (take-append_seam t ys)

got_group : {A : Type 0} (n : ℕ) (f : List ℕ → A) (g : List ℕ → A) (xs : List ℕ) (left : ℕ) (v : A) (q : Place) → group_as n f (at xs left) ≡ got v q → (n ≤ left) × (n ≤ length xs) × (f (take n xs) ≡ v) × (drop n xs ≡ q.input) × (at (drop n xs) (left - n) ≡ q)
unfolding bind give
got_group n f g xs left v q e = elim (cases_lt left n) [
  | inl less ↦ let h = rw (group_over n xs left less) at e in cc
  | inr le ↦ elim (cases_lt (length xs) n) [
    | inl short ↦ let h = rw (group_short n xs left le short) at e in cc
    | inr there ↦
        let h : got (f (take n xs)) (at (drop n xs) (left - n)) ≡ got v q = rw (group_there n xs left le there) at e in
        let same : at (drop n xs) (left - n) ≡ q = cc in
        let value : f (take n xs) ≡ v = cc in
        (le, there, value, ap (λ (p : Place). p.input) same, same)
  ]
]

exact_as : {A B : Type 0} (n : ℕ) (f : List ℕ → A) (g : List ℕ → B) (v : A) (u : B) (known known' : Option (List ℕ)) (b b' : Span) (P : List ℕ → Type 0) → ((w : List ℕ) → length w ≡ n → AllByRecursion (λ x. x < 256) w → f w ≡ v → g w ≡ u) → Took known known' P → Exactly (group_as n f) known b (Ok v) known' b' → Exactly (group_as n g) known b (Ok u) known' b'
unfolding bind give
exact_as n f g v u None known' b b' P same t h = tt
exact_as n f g v u (Some xs) None b b' P same t h = absurd h
exact_as n f g v u (Some xs) (Some ys) b b' P same t h =
    let e : group_as n f (place xs b) ≡ got v (place ys b') = got_named b.inside (group_as n f (place xs b)) v (place ys b') h in
    let all = got_group n f f xs (b.end - b.taken) v (place ys b') e in
    let front : take n xs ≡ t.0 = front_is n xs t.0 ys all.1 t.1 all.3 in
    let count : length (take n xs) ≡ n = length-take-le n xs all.1 in
    let fits : AllByRecursion (λ x. x < 256) (take n xs) = subst (λ (l : List ℕ). AllByRecursion (λ x. x < 256) l) (sym front) t.2 in
    let value : g (take n xs) ≡ u = same (take n xs) count fits all.2 in
    rw (group_there n xs (b.end - b.taken) all.0 all.1, value, all.4) refl

pub got_as : {A B : Type 0} (n : ℕ) (f : List ℕ → A) (g : List ℕ → B) (v : A) (u : B) (s s' : State) → ((w : List ℕ) → length w ≡ n → AllByRecursion (λ x. x < 256) w → f w ≡ v → g w ≡ u) → Reads (group_as n f) s (Ok v) s' → Reads (group_as n g) s (Ok u) s'
got_as n f g v u s s' same p = record { reader = p.reader; loan = p.loan; kept = p.kept; limit = p.limit; within = p.within; count = p.count; fault = tt; made = (p.made.0, p.made.1, p.made.2, λ rest. exact_as n f g v u (Some (p.made.0 ++ rest)) (Some rest) s.bound s'.bound (λ t. Unit {0}) same (p.made.0, refl, p.made.1, tt) (p.made.3 rest)); took = p.took; exact = exact_as n f g v u s.known s'.known s.bound s'.bound _ same p.took p.exact }

-- ---- the size of a number, held up to a bound

pub size_is : (v u : ℕ) (w : List ℕ) → v ≡ min u (2 ^ 128 - 1) → size_after false v w ≡ min (unsigned_after u w) (2 ^ 128 - 1)
size_is v u [] e = e
size_is v u (x ∷ w) e = size_is (min (min (v * 256) (2 ^ 128 - 1) + x) (2 ^ 128 - 1)) (256 * u + x) w (omega arith)

pub size_whole : (w : List ℕ) → size_after false 0 w ≡ min (unsigned w) (2 ^ 128 - 1)
unfolding unsigned
size_whole w = size_is 0 0 w (omega arith)

-- the number, where its size is below the bound
pub unsigned_is : (w : List ℕ) (v : ℕ) → size_after false 0 w ≡ v → v < 2 ^ 127 → unsigned w ≡ v
unsigned_is w v e less = let h = size_whole w in omega arith

-- the size of a number below 0, without the bound
abbrev below_after : ℕ → List ℕ → ℕ
below_after v [] = v
below_after v (x ∷ xs) = below_after (v * 256 + (255 - x)) xs

below_is : (v u : ℕ) (w : List ℕ) → v ≡ min u (2 ^ 128 - 1) → size_after true v w ≡ min (below_after u w) (2 ^ 128 - 1)
below_is v u [] e = e
below_is v u (x ∷ w) e = below_is (min (min (v * 256) (2 ^ 128 - 1) + (255 - x)) (2 ^ 128 - 1)) (u * 256 + (255 - x)) w (omega arith)

-- a number and its complement are together all ones
complement : (u h : ℕ) (w : List ℕ) → AllByRecursion (λ x. x < 256) w → below_after u w + unsigned_after h w + 1 ≡ (u + h + 1) * 256 ^ length w
complement u h [] fits = omega arith
complement u h (x ∷ w) fits =
    let less : x < 256 = fits.0 in
    let e = complement (u * 256 + (255 - x)) (256 * h + x) w fits.1 in
    let f : u * 256 + (255 - x) + (256 * h + x) + 1 ≡ (u + h + 1) * 256 = omega arith in
    e ∙ ap (λ (k : ℕ). k * 256 ^ length w) f ∙ mul_assoc (u + h + 1) 256 (256 ^ length w) ∙ ap (λ (k : ℕ). (u + h + 1) * k) (sym (pow-succ' 256 (length w)))

minus : (a b c : ℕ) → c + a + 1 ≡ b → pos a -ℤ pos b ≡ negsuc c
minus a b c e = omega (arith, ints)

-- ---- ranges

pub in_int128 : (below : Bool) (n : ℕ) → n < 2 ^ 127 → is_int128 (int_by below n) ≡ true
unfolding is_int128
in_int128 false n less = rw (le-leb n (2 ^ 127 - 1) (omega arith)) refl
in_int128 true n less = rw (le-leb n (2 ^ 127 - 1) (omega arith)) refl

pub out_int128 : (below : Bool) (n : ℕ) → 2 ^ 127 ≤ n → is_int128 (int_by below n) ≡ false
unfolding is_int128
out_int128 false n le = rw (lt-leb n (2 ^ 127 - 1) (omega arith)) refl
out_int128 true n le = rw (lt-leb n (2 ^ 127 - 1) (omega arith)) refl

pub in_int64 : (below : Bool) (n : ℕ) → n < 2 ^ 63 → is_int64 (int_by below n) ≡ true
unfolding is_int64
in_int64 false n less = rw (le-leb n (2 ^ 63 - 1) (omega arith)) refl
in_int64 true n less = rw (le-leb n (2 ^ 63 - 1) (omega arith)) refl

pub out_int64 : (below : Bool) (n : ℕ) → 2 ^ 63 ≤ n → is_int64 (int_by below n) ≡ false
unfolding is_int64
out_int64 false n le = rw (lt-leb n (2 ^ 63 - 1) (omega arith)) refl
out_int64 true n le = rw (lt-leb n (2 ^ 63 - 1) (omega arith)) refl

-- the number for which octets stand, by its whole size
signed_at : (below : Bool) (x : ℕ) (xs : List ℕ) → leb 128 x ≡ below → x < 256 → AllByRecursion (λ x. x < 256) xs → (n : ℕ) × (signed (x ∷ xs) ≡ int_by below n) × (size_after below (digit below x) xs ≡ min n (2 ^ 128 - 1))
unfolding signed unsigned
signed_at false x xs is less fits = (unsigned_after (256 * 0 + x) xs, rw is refl, size_is x (256 * 0 + x) xs (omega arith))
signed_at true x xs is less fits =
    let whole : below_after (255 - x) xs + unsigned_after (256 * 0 + x) xs + 1 ≡ (255 - x + (256 * 0 + x) + 1) * 256 ^ length xs = complement (255 - x) (256 * 0 + x) xs fits in
    let ones : 255 - x + (256 * 0 + x) + 1 ≡ 256 = omega arith in
    let power : 256 * 256 ^ length xs ≡ 256 ^ length (x ∷ xs) = sym (pow-succ' 256 (length xs)) in
    let all : (255 - x + (256 * 0 + x) + 1) * 256 ^ length xs ≡ 256 ^ length (x ∷ xs) = ap (λ (k : ℕ). k * 256 ^ length xs) ones ∙ power in
    let number : pos (unsigned_after (256 * 0 + x) xs) -ℤ pos (256 ^ length (x ∷ xs)) ≡ negsuc (below_after (255 - x) xs) = minus (unsigned_after (256 * 0 + x) xs) (256 ^ length (x ∷ xs)) (below_after (255 - x) xs) (whole ∙ all) in
    (below_after (255 - x) xs, rw is number, below_is (255 - x) (255 - x) xs (omega arith))

signed_whole : (w : List ℕ) (t : Twos) → 1 ≤ length w → AllByRecursion (λ x. x < 256) w → twos_of_octets w ≡ t → (n : ℕ) × (signed w ≡ int_by t.is_below n) × (t.size ≡ min n (2 ^ 128 - 1))
signed_whole [] t some fits e = absurd (omega arith)
signed_whole (x ∷ xs) t some fits e = subst (λ (u : Twos). (n : ℕ) × (signed (x ∷ xs) ≡ int_by u.is_below n) × (u.size ≡ min n (2 ^ 128 - 1))) e (signed_at (leb 128 x) x xs refl fits.0 fits.1)

-- the number, where its size is below the bound
pub signed_is : (w : List ℕ) (t : Twos) → 1 ≤ length w → AllByRecursion (λ x. x < 256) w → twos_of_octets w ≡ t → t.size < 2 ^ 127 → signed w ≡ int_of t
signed_is w t some fits e less =
    let whole = signed_whole w t some fits e in
    let size : t.size ≡ min whole.0 (2 ^ 128 - 1) = whole.2 in
    let same : whole.0 ≡ t.size = omega arith in
    whole.1 ∙ ap (λ (n : ℕ). int_by t.is_below n) same

pub signed_out128 : (w : List ℕ) (t : Twos) → 1 ≤ length w → AllByRecursion (λ x. x < 256) w → twos_of_octets w ≡ t → 2 ^ 127 ≤ t.size → is_int128 (signed w) ≡ false
signed_out128 w t some fits e le =
    let whole = signed_whole w t some fits e in
    let size : t.size ≡ min whole.0 (2 ^ 128 - 1) = whole.2 in
    ap is_int128 whole.1 ∙ out_int128 t.is_below whole.0 (omega arith)

pub signed_out64 : (w : List ℕ) (t : Twos) → 1 ≤ length w → AllByRecursion (λ x. x < 256) w → twos_of_octets w ≡ t → 2 ^ 63 ≤ t.size → is_int64 (signed w) ≡ false
signed_out64 w t some fits e le =
    let whole = signed_whole w t some fits e in
    let size : t.size ≡ min whole.0 (2 ^ 128 - 1) = whole.2 in
    ap is_int64 whole.1 ∙ out_int64 t.is_below whole.0 (omega arith)

-- one octet more keeps the size within so many octets
pub size_room : (v size d size' i : ℕ) → size + 1 ≤ v * 256 ^ i → d ≤ 255 → size' ≤ size * 256 + d → size' + 1 ≤ v * 256 ^ (i + 1)
size_room v size d size' i le small more =
    let e : v * 256 ^ (i + 1) ≡ v * 256 ^ i * 256 = rw (add-one, pow-suc) (sym (mul_assoc v (256 ^ i) 256)) in
    omega arith

-- one octet more of a number
pub size_more : (below : Bool) (k n : ℕ) (s s' old : State) (x v v' : ℕ) (whole : Reader ℕ) → k ≡ suc n → k ≤ s.bound.end - s.bound.taken → min (min (v * 256) (2 ^ 128 - 1) + digit below x) (2 ^ 128 - 1) ≡ v' → Leads (group k) s (size_after below v) whole old → Reads octet s (Ok x) s' → Leads (group n) s' (size_after below v') whole old
size_more below k n s s' old x v v' whole is le same p r = one_more_read k n s s' old x (size_after below v) (size_after below v') whole is le (λ w. ap (λ (y : ℕ). size_after below y w) same) p r

pub digit_small : (x : ℕ) → x < 256 → digit (leb 128 x) x ≤ 127
digit_small x less = elim (cases_lt x 128) [
  | inl low ↦ rw (lt-leb 128 x low) (omega arith)
  | inr high ↦ rw (le-leb 128 x high) (omega arith)
]

pub start_room : (start size p : ℕ) → size + 1 ≤ (start + 1) * p → start ≤ 127 → size + 1 ≤ 128 * p
start_room start size p le small = let less : start + 1 ≤ 128 = omega arith in let more = mul-le-mul_right p less in omega arith

-- ---- numbers that are tested

number_is : {A : Type 0} (why : Why) (f : List ℕ → A) (test : A → Bool) (n : ℕ) (p : Place) → bind (group n) (λ w. guard (test (f w)) why (give (f w))) p ≡ number why f test n p
unfolding number
number_is why f test n p = refl

exact_in : {A : Type 0} (why : Why) (f : List ℕ → A) (test : A → Bool) (n : ℕ) (v : A) (known known' : Option (List ℕ)) (b b' : Span) → test v ≡ true → Exactly (group_as n f) known b (Ok v) known' b' → Exactly (number why f test n) known b (Ok v) known' b'
unfolding bind give number
exact_in why f test n v None known' b b' passes h = tt
exact_in why f test n v (Some xs) None b b' passes h = absurd h
exact_in why f test n v (Some xs) (Some ys) b b' passes h =
    let all = got_group n f f xs (b.end - b.taken) v (place ys b') (got_named b.inside (group_as n f (place xs b)) v (place ys b') h) in
    rw (group_there n xs (b.end - b.taken) all.0 all.1, all.2, passes, all.4) refl

-- the number passes the test
pub number_in : {A : Type 0} (why : Why) (f : List ℕ → A) (test : A → Bool) (n : ℕ) (v : A) (s s' : State) → test v ≡ true → Reads (group_as n f) s (Ok v) s' → Reads (number why f test n) s (Ok v) s'
number_in why f test n v s s' passes p = record { reader = p.reader; loan = p.loan; kept = p.kept; limit = p.limit; within = p.within; count = p.count; fault = tt; made = (p.made.0, p.made.1, p.made.2, λ rest. exact_in why f test n v (Some (p.made.0 ++ rest)) (Some rest) s.bound s'.bound passes (p.made.3 rest)); took = p.took; exact = exact_in why f test n v s.known s'.known s.bound s'.bound passes p.exact }

exact_out : {A : Type 0} (why : Why) (f : List ℕ → A) (test : A → Bool) (n : ℕ) (e : ReadFault) (known known' : Option (List ℕ)) (b b' : Span) → named b.inside why ≡ e.why → Exactly (group_as n (λ w. test (f w))) known b (Ok false) known' b' → Exactly (number why f test n) known b (Err e) known' b'
unfolding bind give refuse number
exact_out why f test n e None known' b b' is h = tt
exact_out why f test n e (Some xs) None b b' is h = absurd h
exact_out why f test n e (Some xs) (Some ys) b b' is h =
    let all = got_group n (λ w. test (f w)) (λ w. test (f w)) xs (b.end - b.taken) false (place ys b') (got_named b.inside (group_as n (λ w. test (f w)) (place xs b)) false (place ys b') h) in
    λ d m. rw (group_there n xs (b.end - b.taken) all.0 all.1, all.2, all.3) (ap (λ (v : Why). refused v ys) is)

count_same : (n : ℕ) (why : Why) → why ≢ Device → n ≡ count_after n why
count_same n Device other = absurd (other refl)
count_same n _ other = refl

-- the number does not
pub number_out : {A : Type 0} (why : Why) (f : List ℕ → A) (test : A → Bool) (n : ℕ) (s s' : State) (e : ReadFault) → e.why ≢ Device → named s.bound.inside why ≡ e.why → e.taken ≡ s'.bound.taken → Reads (group_as n (λ w. test (f w))) s (Ok false) s' → Reads (number why f test n) s (Err e) s'
number_out why f test n s s' e other is taken p = record { reader = p.reader; loan = p.loan; kept = tt; limit = p.limit; within = p.within; count = p.count ∙ count_same s.failed e.why other; fault = taken; made = tt; took = p.took; exact = exact_out why f test n e s.known s'.known s.bound s'.bound is p.exact }

exact_stop : {A B : Type 0} (why : Why) (h : List ℕ → B) (f : List ℕ → A) (test : A → Bool) (n : ℕ) (s s' : State) (e : ReadFault) → Reads (group_as n (λ w. w)) s (Err e) s' → Reads (number why f test n) s (Err e) s'
exact_stop why h f test n s s' e p =
    Reads-same (bind (group_as n (λ w. w)) (λ w. guard (test (f w)) why (give (f w)))) _ s s' (Err e) (λ xs. same why f test n (place xs s.bound)) (Reads-stop (group_as n (λ w. w)) _ s s' e p) where
      same : {A : Type 0} (why : Why) (f : List ℕ → A) (test : A → Bool) (n : ℕ) (p : Place) → bind (group_as n (λ w. w)) (λ w. guard (test (f w)) why (give (f w))) p ≡ number why f test n p
      same why f test n p = assoc (group n) (λ w. give w) _ p ∙ agree (group n) _ _ p (λ w q. give_then w _ q) ∙ number_is why f test n p

-- the octets do not come
pub number_stop : {A B : Type 0} (why : Why) (h : List ℕ → B) (f : List ℕ → A) (test : A → Bool) (n : ℕ) (s s' : State) (e : ReadFault) → Reads (group_as n h) s (Err e) s' → Reads (number why f test n) s (Err e) s'
number_stop why h f test n s s' e p = exact_stop why h f test n s s' e (refused_as n h (λ w. w) s s' e p)

-- ---- octets that were read at once

-- one octet more
pub size_at : (below : Bool) (v v' : ℕ) (xs : List ℕ) (i x : ℕ) → i < length xs → x ≡ get_or xs i 0 → min (min (v * 256) (2 ^ 128 - 1) + digit below x) (2 ^ 128 - 1) ≡ v' → size_after below v' (drop (i + 1) xs) ≡ size_after below v (drop i xs)
size_at below v v' xs i x less is same =
    let e : drop i xs ≡ get_or xs i 0 ∷ drop (i + 1) xs = drop-cons xs i 0 less ∙ ap (λ (k : ℕ). get_or xs i 0 ∷ drop k xs) (sym (add-one i)) in
    sym (ap (λ (l : List ℕ). size_after below v l) e
    ∙ ap (λ (y : ℕ). size_after below (min (min (v * 256) (2 ^ 128 - 1) + digit below y) (2 ^ 128 - 1)) (drop (i + 1) xs)) (sym is)
    ∙ ap (λ (y : ℕ). size_after below y (drop (i + 1) xs)) same)

-- what f makes of a group that was read into a list
pub read_as : {A B : Type 0} (n m : ℕ) (f : List ℕ → A) (s s' : State) (xs : List ℕ) (result : Result B ReadFault) → m ≡ n → Reads (group m) s (seen (λ _. xs) result) s' → Reads (group_as n f) s (seen (λ _. f xs) result) s'
read_as n m f s s' xs (Ok x) is h = subst (λ (k : ℕ). Reads (group_as k f) s (Ok (f xs)) s') is (Reads-map (group m) f s s' (Ok xs) h)
read_as n m f s s' xs (Err e) is h = subst (λ (k : ℕ). Reads (group_as k f) s (Err e) s') is (Reads-map (group m) f s s' (Err e) h)

pub size_end : (below : Bool) (v start : ℕ) (xs : List ℕ) (i : ℕ) → length xs ≤ i → size_after below v (drop i xs) ≡ size_after below start xs → v ≡ size_after below start xs
size_end below v start xs i le same = sym (at_drop_all (λ (l : List ℕ). size_after below v l) xs i le) ∙ same

-- a number of fewer than eight octets
pub few_small : (v size i : ℕ) → v < 256 → i < 7 → size + 1 ≤ (v + 1) * 256 ^ i → size < 2 ^ 56
few_small v size i low less room =
    let a : (v + 1) * 256 ^ i ≤ 256 * 256 ^ i = mul-le-mul_right (256 ^ i) (omega arith) in
    let some : 0 < 256 = omega arith in
    let six : i ≤ 6 = omega arith in
    let b : 256 ^ i ≤ 256 ^ 6 = pow-le-pow_right some six in
    omega arith

-- ---- a number from 0 on, of at most eight octets

pub unsigned_at : (v v' : ℕ) (xs : List ℕ) (i x : ℕ) → i < length xs → x ≡ get_or xs i 0 → 256 * v + x ≡ v' → unsigned_after v' (drop (i + 1) xs) ≡ unsigned_after v (drop i xs)
unsigned_at v v' xs i x less is same =
    let e : drop i xs ≡ get_or xs i 0 ∷ drop (i + 1) xs = drop-cons xs i 0 less ∙ ap (λ (k : ℕ). get_or xs i 0 ∷ drop k xs) (sym (add-one i)) in
    sym (ap (λ (l : List ℕ). unsigned_after v l) e
    ∙ ap (λ (y : ℕ). unsigned_after (256 * v + y) (drop (i + 1) xs)) (sym is)
    ∙ ap (λ (y : ℕ). unsigned_after y (drop (i + 1) xs)) same)

pub unsigned_end : (v : ℕ) (xs : List ℕ) (i : ℕ) → length xs ≤ i → unsigned_after v (drop i xs) ≡ unsigned_after 0 xs → v ≡ unsigned xs
unfolding unsigned
unsigned_end v xs i le same = sym (at_drop_all (λ (l : List ℕ). unsigned_after v l) xs i le) ∙ same

pub eight_small : (size i : ℕ) → i < 8 → size + 1 ≤ 256 ^ i → size < 2 ^ 56
eight_small size i less room =
    let some : 0 < 256 = omega arith in
    let seven : i ≤ 7 = omega arith in
    let b : 256 ^ i ≤ 256 ^ 7 = pow-le-pow_right some seven in
    omega arith

pub unsigned_room : (size d size' i : ℕ) → size + 1 ≤ 256 ^ i → d ≤ 255 → size' ≤ size * 256 + d → size' + 1 ≤ 256 ^ (i + 1)
unsigned_room size d size' i le small more =
    let e : 256 ^ (i + 1) ≡ 256 ^ i * 256 = rw (add-one, pow-suc) refl in
    omega arith
