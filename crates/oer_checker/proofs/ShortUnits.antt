-- Units whose first octet tells all, and numbers of few octets.
use Rattle.std.proofs.Common.{◌≡◌, ◌≢◌, ℕ, ◌/◌, ◌%◌, ◌^◌, ◌<◌, ◌≤◌, false, leb, List, get_or, arith, refl, ap, ap₂, ◌∙◌, pos, ℤ}
use Rattle.std.proofs.lemmas.Bool.{le-leb, lt-leb, lt-ltb}
use Rattle.oer_units.specs.declared.fault.Why.{Why}
use Rattle.oer_units.specs.declared.fault.Why.TheVariants.{EmptyNumber, IntegerRange, Limit}
use Rattle.oer_units.specs.declared.tagging.Class.{Class}
use Rattle.oer_units.specs.declared.tagging.Tag.{Tag}
use Rattle.oer_units.specs.Numbers.{natural, unsigned}
use Rattle.oer_units.specs.Reader.{Place, Reader, bind, give, got, group, guard, refused, within}
use Rattle.oer_units.specs.Reading.{class_of, counted_length, counted_number, determinant, enumerated, enumerated_after, is_int128, length_after, number, octet, tag, tag_after, with_length}
use Rattle.oer_units.proofs.ReadNumbers.{in_int128}
use Rattle.oer_checker.proofs.Joins.{bind_got, bind_stop, give_got, guard_yes}
use Rattle.oer_checker.proofs.StringSteps.{with_got, with_stop}

pub octet_got : (p q : Place) (w : List ℕ) (x : ℕ) → got w q ≡ group 1 p → x ≡ get_or w 0 0 → got x q ≡ octet p
unfolding octet
octet_got p q w x e is = bind_got (group 1) (λ w. give (get_or w 0 0)) p q w (got x q) e (ap (λ (y : ℕ). got y q) is ∙ give_got (get_or w 0 0) q)

pub octet_stop : (p : Place) (why : Why) (rest : List ℕ) → refused why rest ≡ group 1 p → refused why rest ≡ octet p
unfolding octet
octet_stop p why rest e = bind_stop (group 1) (λ w. give (get_or w 0 0)) p why rest e

-- ---- a length below 128

after_first : (x : ℕ) (q : Place) → x < 128 → got x q ≡ length_after x q
after_first x q less = rw (lt-ltb x 128 less) (give_got x q)

determined : (p q : Place) (x : ℕ) → got x q ≡ octet p → x < 128 → got x q ≡ determinant p
unfolding determinant
determined p q x e less = bind_got octet length_after p q x (got x q) e (after_first x q less)

allowed : (x : ℕ) (q : Place) → x ≤ q.left → got x q ≡ within x (give x) q
unfolding within give
allowed x q room = rw (le-leb x q.left room) refl

too_long : (x : ℕ) (q : Place) → q.left < x → refused Limit q.input ≡ within x (give x) q
unfolding within
too_long x q less = rw (lt-leb x q.left less) refl

pub length_short : (p q : Place) (x : ℕ) → got x q ≡ octet p → x < 128 → x ≤ q.left → got x q ≡ counted_length p
unfolding counted_length with_length
length_short p q x e less room = bind_got determinant (λ n. within n (give n)) p q x (got x q) (determined p q x e less) (allowed x q room)

pub length_past : (p q : Place) (x : ℕ) → got x q ≡ octet p → x < 128 → q.left < x → refused Limit q.input ≡ counted_length p
unfolding counted_length with_length
length_past p q x e less past = bind_got determinant (λ n. within n (give n)) p q x (refused Limit q.input) (determined p q x e less) (too_long x q past)

pub length_cut : (p : Place) (why : Why) (rest : List ℕ) → refused why rest ≡ octet p → refused why rest ≡ counted_length p
unfolding counted_length with_length determinant
length_cut p why rest e = bind_stop (bind octet length_after) (λ n. within n (give n)) p why rest (bind_stop octet length_after p why rest e)

-- ---- a tag of one octet

tag_here : (x : ℕ) (t : Tag) (q : Place) → x ≤ 255 → x % 64 < 63 → t.class ≡ class_of (x / 64) → t.number ≡ x % 64 → got t q ≡ tag_after x q
tag_here x t q fits less class number =
    let same : t ≡ record { class = class_of (x / 64); number = x % 64 } = ap₂ (λ (c : Class) (n : ℕ). record { class = c; number = n }) class number in
    rw (le-leb x 255 fits, lt-ltb (x % 64) 63 less) (ap (λ (u : Tag). got u q) same ∙ give_got _ q)

pub got_tag : (p q : Place) (x : ℕ) (t : Tag) → got x q ≡ octet p → x ≤ 255 → x % 64 < 63 → t.class ≡ class_of (x / 64) → t.number ≡ x % 64 → got t q ≡ tag p
unfolding tag
got_tag p q x t e fits less class number = bind_got octet tag_after p q x (got t q) e (tag_here x t q fits less class number)

pub tag_cut : (p : Place) (why : Why) (rest : List ℕ) → refused why rest ≡ octet p → refused why rest ≡ tag p
unfolding tag
tag_cut p why rest e = bind_stop octet tag_after p why rest e

-- ---- an enumeration of one octet

enumerated_here : (x : ℕ) (q : Place) → x < 128 → got (pos x) q ≡ enumerated_after x q
enumerated_here x q less = rw (lt-ltb x 128 less) (give_got (pos x) q)

pub enumerated_short : (p q : Place) (x : ℕ) → got x q ≡ octet p → x < 128 → got (pos x) q ≡ enumerated p
unfolding enumerated
enumerated_short p q x e less = bind_got octet enumerated_after p q x _ e (enumerated_here x q less)

pub enumerated_cut : (p : Place) (why : Why) (rest : List ℕ) → refused why rest ≡ octet p → refused why rest ≡ enumerated p
unfolding enumerated
enumerated_cut p why rest e = bind_stop octet enumerated_after p why rest e

-- ---- a counted number from 0 on, of few octets

abbrev naturals : ℕ → Reader ℤ
naturals n = guard (leb 1 n) EmptyNumber (number IntegerRange natural is_int128 n)

number_got : (n : ℕ) (q end : Place) (w : List ℕ) (v : ℕ) → v ≡ unsigned w → v < 2 ^ 64 → got w end ≡ group n q → got (pos v) end ≡ number IntegerRange natural is_int128 n q
unfolding number
number_got n q end w v is less h =
    bind_got (group n) (λ w. guard (is_int128 (natural w)) IntegerRange (give (natural w))) q end w (got (pos v) end) h
    (guard_yes (is_int128 (natural w)) IntegerRange (give (natural w)) end (got (pos v) end) (in_int128 false (unsigned w) (omega arith)) (ap (λ (u : ℕ). got (pos u) end) is ∙ give_got (natural w) end))

number_cut : (n : ℕ) (q : Place) (why : Why) (rest : List ℕ) → refused why rest ≡ group n q → refused why rest ≡ number IntegerRange natural is_int128 n q
unfolding number
number_cut n q why rest h = bind_stop (group n) (λ w. guard (is_int128 (natural w)) IntegerRange (give (natural w))) q why rest h

pub natural_got : (p q end : Place) (n : ℕ) (w : List ℕ) (v : ℕ) → got n q ≡ counted_length p → n ≢ 0 → v ≡ unsigned w → v < 2 ^ 64 → got w end ≡ group n q → got (pos v) end ≡ counted_number natural is_int128 p
unfolding counted_number
natural_got p q end n w v e some is less h =
    with_got naturals p q n (got (pos v) end) e (guard_yes (leb 1 n) EmptyNumber (number IntegerRange natural is_int128 n) q (got (pos v) end) (le-leb 1 n (omega arith)) (number_got n q end w v is less h))

pub natural_cut : (p q : Place) (n : ℕ) (why : Why) (rest : List ℕ) → got n q ≡ counted_length p → n ≢ 0 → refused why rest ≡ group n q → refused why rest ≡ counted_number natural is_int128 p
unfolding counted_number
natural_cut p q n why rest e some h =
    with_got naturals p q n (refused why rest) e (guard_yes (leb 1 n) EmptyNumber (number IntegerRange natural is_int128 n) q (refused why rest) (le-leb 1 n (omega arith)) (number_cut n q why rest h))

pub natural_stop : (p : Place) (why : Why) (rest : List ℕ) → refused why rest ≡ counted_length p → refused why rest ≡ counted_number natural is_int128 p
unfolding counted_number
natural_stop p why rest e = with_stop naturals p why rest e
