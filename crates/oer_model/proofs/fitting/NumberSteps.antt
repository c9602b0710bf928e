-- Numbers that are read in their form, and then compared with bounds.
use Rattle.std.proofs.Common.{◌≡◌, ℕ, ℤ, pos, ◌^◌, ◌-ℤ◌, neg_ℤ, Bool, true, false, ◌&&◌, leb, int_le, List, Option, refl, ap}
use Rattle.oer_units.specs.declared.fault.Why.TheVariants.{EmptyNumber, IntegerRange}
use Rattle.oer_units.specs.Fixed.{group_as}
use Rattle.oer_units.specs.Numbers.{natural, signed, unsigned}
use Rattle.oer_units.specs.Reader.{bind, bounded, got, give, group, guard, Outcome, Place, Reader, refuse, refused, then_read, within}
use Rattle.oer_units.specs.Reading.{counted_number, determinant, is_int128, number, with_length}
use Rattle.oer_model.specs.Constraints.{above, below, Form, in_range, signed_counted, signed_fixed, unsigned_counted, unsigned_fixed}
use Rattle.oer_model.specs.Reading.{read_integer}
use Rattle.oer_model.specs.SharedSteps.{number_in}

and_left : (a b : Bool) → (a && b) ≡ true → a ≡ true
and_left true b e = refl
and_left false b e = cc

-- a number within the bounds has 128 bits
pub wide : (low high : Option ℤ) (z : ℤ) → in_range low high z ≡ true → is_int128 z ≡ true
unfolding in_range is_int128
wide low high z e =
    let both = int_le (neg_ℤ (pos (2 ^ 127))) z && int_le z (pos (2 ^ 127) -ℤ pos 1) in
    and_left both (above low z) (and_left (both && above low z) (below high z) e)

-- the number, if it passes the test
abbrev pub tested : (ℤ → Bool) → ℤ → Reader ℤ
tested test z = guard (test z) IntegerRange (give z)

fixed_is : (f : List ℕ → ℤ) (test : ℤ → Bool) (n : ℕ) (p : Place) → bind (group_as n f) (tested test) p ≡ number IntegerRange f test n p
unfolding bind give number
fixed_is f test n p = cases (group n p) where
  cases : (o : Outcome (List ℕ)) → then_read (tested test) (then_read (λ w q. got (f w) q) o) ≡ then_read (λ w. guard (test (f w)) IntegerRange (λ q. got (f w) q)) o
  cases (got w q) = refl
  cases (refused why rest) = refl

counted_is : (f : List ℕ → ℤ) (test : ℤ → Bool) (p : Place) → ((z : ℤ) → test z ≡ true → is_int128 z ≡ true) → bind (counted_number f is_int128) (tested test) p ≡ counted_number f test p
unfolding counted_number with_length within bind number give refuse
counted_is f test p sub = cases (determinant p) where
  last : (z : ℤ) (q : Place) (a b : Bool) → is_int128 z ≡ a → test z ≡ b → then_read (tested test) (guard a IntegerRange (give z) q) ≡ guard b IntegerRange (give z) q
  last z q true b ea eb = ap (λ (c : Bool). guard c IntegerRange (give z) q) eb
  last z q false true ea eb = let t = sub z eb in absurd (cc)
  last z q false false ea eb = refl

  inner : (o : Outcome (List ℕ)) → then_read (tested test) (then_read (λ w. guard (is_int128 (f w)) IntegerRange (give (f w))) o) ≡ then_read (λ w. guard (test (f w)) IntegerRange (give (f w))) o
  inner (got w q) = last (f w) q (is_int128 (f w)) (test (f w)) refl refl
  inner (refused why rest) = refl

  some : (c : Bool) (n : ℕ) (q : Place) → then_read (tested test) (guard c EmptyNumber (number IntegerRange f is_int128 n) q) ≡ guard c EmptyNumber (number IntegerRange f test n) q
  some true n q = inner (group n q)
  some false n q = refl

  room : (c : Bool) (n : ℕ) (q : Place) → then_read (tested test) (bounded c (guard (leb 1 n) EmptyNumber (number IntegerRange f is_int128 n)) q) ≡ bounded c (guard (leb 1 n) EmptyNumber (number IntegerRange f test n)) q
  room true n q = some (leb 1 n) n q
  room false n q = refl

  cases : (o : Outcome ℕ) → then_read (tested test) (then_read (λ n q. bounded (leb n q.left) (guard (leb 1 n) EmptyNumber (number IntegerRange f is_int128 n)) q) o) ≡ then_read (λ n q. bounded (leb n q.left) (guard (leb 1 n) EmptyNumber (number IntegerRange f test n)) q) o
  cases (got n q) = room (leb n q.left) n q
  cases (refused why rest) = refl

pub integer_is : (form : Form) (test : ℤ → Bool) (p : Place) → ((z : ℤ) → test z ≡ true → is_int128 z ≡ true) → bind (number_in form) (tested test) p ≡ read_integer form test p
integer_is (unsigned_fixed n) test p sub = fixed_is natural test n p
integer_is (signed_fixed n) test p sub = fixed_is signed test n p
integer_is unsigned_counted test p sub = counted_is natural test p sub
integer_is signed_counted test p sub = counted_is signed test p sub

-- ---- the forms

pub naturals_is : (n : ℕ) (p : Place) → bind (group_as n unsigned) (λ x. give (pos x)) p ≡ group_as n natural p
unfolding bind give
naturals_is n p = cases (group n p) where
  cases : (o : Outcome (List ℕ)) → then_read (λ x q. got (pos x) q) (then_read (λ w q. got (unsigned w) q) o) ≡ then_read (λ w q. got (natural w) q) o
  cases (got w q) = refl
  cases (refused why rest) = refl
