-- Numbers, compared with bounds and with their least forms.
use Rattle.std.proofs.Common.{◌-◌, ◌≡◌, ℕ, ℤ, pos, ◌^◌, ◌≤ℤ◌, Bool, true, false, ◌||◌, leb, ltb, eqb, List, length, Option, inl, inr, refl, sym, ap, ◌∙◌, subst, arith, unsigned_abs}
use Rattle.std.proofs.lemmas.Bool.{cases_lt, le-leb, le-ltb, lt-leb, lt-ltb}
use Rattle.oer_units.specs.declared.fault.Why.{Why}
use Rattle.oer_units.specs.declared.fault.Why.TheVariants.{EmptyNumber, IntegerRange, UnknownEnum}
use Rattle.oer_units.specs.declared.fault.Why.TheVariants as reason
use Rattle.oer_units.specs.declared.width.Width.{Width}
use Rattle.oer_units.specs.Fixed.{group_as, signed_fixed_at, unsigned_fixed_at}
use Rattle.oer_units.specs.Least.{counted, enumerated_octets, unsigned_octets}
use Rattle.oer_units.specs.Numbers.{natural, unsigned}
use Rattle.oer_units.specs.Reader.{Outcome, Place, Reader, bind, bounded, got, give, group, guard, refuse, refused, then_read, within}
use Rattle.oer_units.specs.Reading as unit
use Rattle.oer_units.specs.Reading.{counted_number, determinant, is_int128, number, with_length}
use Rattle.oer_units.specs.Width.{octets_of_width}
use Rattle.oer_units.proofs.Closure.{got_place, got_value}
use Rattle.oer_units.proofs.Ranges.{int_le-true}
use Rattle.oer_model.specs.AsnType.{NamedNumber, enumerated, integer}
use Rattle.oer_model.specs.Canonical.{integer_octets}
use Rattle.oer_model.specs.Checking.{check_enumerated, check_integer, check_value, is_least, judged, quantity_octets}
use Rattle.oer_model.specs.Constraints.{Form, form_of, has_number, in_range, signed_counted, signed_fixed, size_fits, unsigned_counted, unsigned_fixed}
use Rattle.oer_model.specs.Reading.{quantity, read_integer}
use Rattle.oer_model.specs.SharedSteps.{number_in}
use Rattle.oer_model.proofs.fitting.NumberSteps.{integer_is, naturals_is, tested, wide}
use Rattle.oer_model.specs.declared.size.Size.{Size}
use Rattle.std.specs.Prelude.{Result, Ok, Err, IfOk}
use Rattle.oer_checker.specs.declared.cursor.Cursor.{Cursor}
use Rattle.oer_checker.specs.declared.stop.Stop.{Stop}
use Rattle.oer_checker.specs.Places.{outcome, place_of, same}
use Rattle.oer_checker.specs.Numbers.{least_in}
use Rattle.oer_checker.specs.Steps.{got_both, between, sized_quantity}
use Rattle.oer_checker.proofs.Joins.{bind_got, bind_stop, give_got, judged_got, judged_stop}

-- ---- what was read, checked

checked_got : (form : Form) (test : ℤ → Bool) (p q : Place) (z : ℤ) → got z q ≡ read_integer form test p → got (least_in form z (between p q)) q ≡ check_integer form test p
checked_got (unsigned_fixed n) test p q z e = bind_got (read_integer (unsigned_fixed n) test) (λ x. give true) p q z (got true q) e (give_got true q)
checked_got (signed_fixed n) test p q z e = bind_got (read_integer (signed_fixed n) test) (λ x. give true) p q z (got true q) e (give_got true q)
checked_got unsigned_counted test p q z e =
    let least = is_least (integer_octets unsigned_counted) in
    bind_got (judged least (read_integer unsigned_counted test)) (λ y. give y.1) p q (z, least z (between p q)) (got (least z (between p q)) q) (judged_got least (read_integer unsigned_counted test) p q z e) (give_got (least z (between p q)) q)
checked_got signed_counted test p q z e =
    let least = is_least (integer_octets signed_counted) in
    bind_got (judged least (read_integer signed_counted test)) (λ y. give y.1) p q (z, least z (between p q)) (got (least z (between p q)) q) (judged_got least (read_integer signed_counted test) p q z e) (give_got (least z (between p q)) q)

checked_stop : (form : Form) (test : ℤ → Bool) (p : Place) (why : Why) (rest : List ℕ) → refused why rest ≡ read_integer form test p → refused why rest ≡ check_integer form test p
checked_stop (unsigned_fixed n) test p why rest e = bind_stop (read_integer (unsigned_fixed n) test) (λ x. give true) p why rest e
checked_stop (signed_fixed n) test p why rest e = bind_stop (read_integer (signed_fixed n) test) (λ x. give true) p why rest e
checked_stop unsigned_counted test p why rest e =
    let least = is_least (integer_octets unsigned_counted) in
    bind_stop (judged least (read_integer unsigned_counted test)) (λ y. give y.1) p why rest (judged_stop least (read_integer unsigned_counted test) p why rest e)
checked_stop signed_counted test p why rest e =
    let least = is_least (integer_octets signed_counted) in
    bind_stop (judged least (read_integer signed_counted test)) (λ y. give y.1) p why rest (judged_stop least (read_integer signed_counted test) p why rest e)

tested_then : (form : Form) (test : ℤ → Bool) (p q : Place) (z : ℤ) (b : Bool) → test z ≡ b → guard b IntegerRange (give z) q ≡ read_integer form test p → guard b IntegerRange (give (least_in form z (between p q))) q ≡ check_integer form test p
unfolding give refuse
tested_then form test p q z true is e = checked_got form test p q z e
tested_then form test p q z false is e = checked_stop form test p IntegerRange q.input e

pub integer_then : (low high : Option ℤ) (form : Form) (p q : Place) (z : ℤ) → form ≡ form_of low high → got z q ≡ number_in form p → guard (in_range low high z) IntegerRange (give (least_in form z (between p q))) q ≡ check_value (integer low high) p
integer_then low high form p q z is e =
    tested_then form (in_range low high) p q z (in_range low high z) refl (bind_got (number_in form) (tested (in_range low high)) p q z (guard (in_range low high z) IntegerRange (give z) q) e refl ∙ integer_is form (in_range low high) p (wide low high))
    ∙ ap (λ (f : Form). check_integer f (in_range low high) p) is

pub integer_stop : (low high : Option ℤ) (form : Form) (p : Place) (why : Why) (rest : List ℕ) → form ≡ form_of low high → refused why rest ≡ number_in form p → refused why rest ≡ check_value (integer low high) p
integer_stop low high form p why rest is e =
    checked_stop form (in_range low high) p why rest (bind_stop (number_in form) (tested (in_range low high)) p why rest e ∙ integer_is form (in_range low high) p (wide low high))
    ∙ ap (λ (f : Form). check_integer f (in_range low high) p) is

-- ---- the forms

pub unsigned_got : (w : Width) (p q : Place) (n : ℕ) → got n q ≡ unsigned_fixed_at w p → got (pos n) q ≡ number_in (unsigned_fixed (octets_of_width w)) p
unfolding unsigned_fixed_at
unsigned_got w p q n e = bind_got (group_as (octets_of_width w) unsigned) (λ x. give (pos x)) p q n (got (pos n) q) e (give_got (pos n) q) ∙ naturals_is (octets_of_width w) p

pub unsigned_stop : (w : Width) (p : Place) (why : Why) (rest : List ℕ) → refused why rest ≡ unsigned_fixed_at w p → refused why rest ≡ number_in (unsigned_fixed (octets_of_width w)) p
unfolding unsigned_fixed_at
unsigned_stop w p why rest e = bind_stop (group_as (octets_of_width w) unsigned) (λ x. give (pos x)) p why rest e ∙ naturals_is (octets_of_width w) p

pub signed_any : (w : Width) (p : Place) (o : Outcome ℤ) → o ≡ signed_fixed_at w p → o ≡ number_in (signed_fixed (octets_of_width w)) p
unfolding signed_fixed_at
signed_any w p o e = e

-- ---- enumerations

listed_then : (numbers : List NamedNumber) (extensible : Bool) (p q : Place) (z : ℤ) (b : Bool) → (extensible || has_number numbers z) ≡ b → got z q ≡ unit.enumerated p → guard b UnknownEnum (give (eqb (length (between p q)) (length (enumerated_octets z)))) q ≡ check_value (enumerated numbers extensible) p
unfolding check_enumerated
listed_then numbers extensible p q z b is e =
    bind_got (judged (is_least enumerated_octets) unit.enumerated) (λ y. guard (extensible || has_number numbers y.0) UnknownEnum (give y.1)) p q (z, is_least enumerated_octets z (between p q)) (guard b UnknownEnum (give (is_least enumerated_octets z (between p q))) q)
    (judged_got (is_least enumerated_octets) unit.enumerated p q z e) (ap (λ (c : Bool). guard c UnknownEnum (give (is_least enumerated_octets z (between p q))) q) (sym is))

pub enumerated_got : (numbers : List NamedNumber) (extensible : Bool) (p q : Place) (z : ℤ) → got z q ≡ unit.enumerated p → (extensible || has_number numbers z) ≡ true → got (eqb (length (between p q)) (length (enumerated_octets z))) q ≡ check_value (enumerated numbers extensible) p
enumerated_got numbers extensible p q z e is = give_got (eqb (length (between p q)) (length (enumerated_octets z))) q ∙ listed_then numbers extensible p q z true is e

pub enumerated_out : (numbers : List NamedNumber) (extensible : Bool) (p q : Place) (z : ℤ) → got z q ≡ unit.enumerated p → (extensible || has_number numbers z) ≡ false → refused UnknownEnum q.input ≡ check_value (enumerated numbers extensible) p
unfolding refuse
enumerated_out numbers extensible p q z e is = listed_then numbers extensible p q z false is e

pub enumerated_stop : (numbers : List NamedNumber) (extensible : Bool) (p : Place) (why : Why) (rest : List ℕ) → refused why rest ≡ unit.enumerated p → refused why rest ≡ check_value (enumerated numbers extensible) p
unfolding check_enumerated
enumerated_stop numbers extensible p why rest e =
    bind_stop (judged (is_least enumerated_octets) unit.enumerated) (λ y. guard (extensible || has_number numbers y.0) UnknownEnum (give y.1)) p why rest (judged_stop (is_least enumerated_octets) unit.enumerated p why rest e)

-- ---- a quantity

quantity_test : (n : ℕ) → is_int128 (pos n) ≡ ltb n (2 ^ 127)
unfolding is_int128
quantity_test n = elim (cases_lt n (2 ^ 127)) [
  | inl less ↦ le-leb n (2 ^ 127 - 1) (omega arith) ∙ sym (lt-ltb n (2 ^ 127) less)
  | inr more ↦ lt-leb n (2 ^ 127 - 1) (omega arith) ∙ sym (le-ltb n (2 ^ 127) more)
]

-- the two readers of a quantity, as a whole number and as a natural one
natural_is : (p : Place) → counted_number natural is_int128 p ≡ bind quantity (λ n. give (pos n)) p
unfolding quantity counted_number with_length within bind number give refuse
natural_is p = cases (determinant p) where
  last : (m : ℕ) (q : Place) (b : Bool) → guard b IntegerRange (give (pos m)) q ≡ then_read (λ n. give (pos n)) (guard b IntegerRange (give m) q)
  last m q true = refl
  last m q false = refl

  inner : (o : Outcome (List ℕ)) → then_read (λ w. guard (is_int128 (natural w)) IntegerRange (give (natural w))) o ≡ then_read (λ n. give (pos n)) (then_read (λ w. guard (ltb (unsigned w) (2 ^ 127)) IntegerRange (give (unsigned w))) o)
  inner (got w q) = ap (λ (b : Bool). guard b IntegerRange (give (pos (unsigned w))) q) (quantity_test (unsigned w)) ∙ last (unsigned w) q (ltb (unsigned w) (2 ^ 127))
  inner (refused why rest) = refl

  some : (c : Bool) (n : ℕ) (q : Place) → guard c EmptyNumber (number IntegerRange natural is_int128 n) q ≡ then_read (λ n. give (pos n)) (guard c EmptyNumber (number IntegerRange unsigned (λ k. ltb k (2 ^ 127)) n) q)
  some true n q = inner (group n q)
  some false n q = refl

  room : (c : Bool) (n : ℕ) (q : Place) → bounded c (guard (leb 1 n) EmptyNumber (number IntegerRange natural is_int128 n)) q ≡ then_read (λ n. give (pos n)) (bounded c (guard (leb 1 n) EmptyNumber (number IntegerRange unsigned (λ k. ltb k (2 ^ 127)) n)) q)
  room true n q = some (leb 1 n) n q
  room false n q = refl

  cases : (o : Outcome ℕ) → then_read (λ n q. bounded (leb n q.left) (guard (leb 1 n) EmptyNumber (number IntegerRange natural is_int128 n)) q) o ≡ then_read (λ n. give (pos n)) (then_read (λ n q. bounded (leb n q.left) (guard (leb 1 n) EmptyNumber (number IntegerRange unsigned (λ k. ltb k (2 ^ 127)) n)) q) o)
  cases (got n q) = room (leb n q.left) n q
  cases (refused why rest) = refl

-- a quantity that was read as a whole number
pub record Counts (p q : Place) (z : ℤ) : Type 0 where
  pub is : z ≡ pos (unsigned_abs z)
  pub read : got (unsigned_abs z) q ≡ quantity p

pub quantity_got : (p q : Place) (z : ℤ) → got z q ≡ counted_number natural is_int128 p → Counts p q z
unfolding bind give
quantity_got p q z e = cases (quantity p) refl (e ∙ natural_is p) where
  cases : (o : Outcome ℕ) → quantity p ≡ o → got z q ≡ then_read (λ n t. got (pos n) t) o → Counts p q z
  cases (got n s) r h =
      let same : z ≡ pos n = got_value z (pos n) q s h in
      let there : q ≡ s = got_place z (pos n) q s h in
      record { is = same ∙ ap (λ (y : ℤ). pos (unsigned_abs y)) (sym same); read = ap (λ (y : ℤ). got (unsigned_abs y) q) same ∙ ap (λ (t : Place). got n t) there ∙ sym r }
  cases (refused why rest) r h = absurd (cc)

pub quantity_stop : (p : Place) (why : Why) (rest : List ℕ) → refused why rest ≡ counted_number natural is_int128 p → refused why rest ≡ quantity p
unfolding bind give
quantity_stop p why rest e = cases (quantity p) (e ∙ natural_is p) where
  cases : (o : Outcome ℕ) → refused why rest ≡ then_read (λ n t. got (pos n) t) o → refused why rest ≡ o
  cases (got n s) h = absurd (cc)
  cases (refused w l) h = cc

from_zero : (n : ℕ) → pos 0 ≤ℤ pos n
from_zero n = int_le-true (pos 0) (pos n) (le-leb 0 n (omega arith))

pub natural_from : (p q : Place) (z : ℤ) → got z q ≡ counted_number natural is_int128 p → pos 0 ≤ℤ z
natural_from p q z e = subst (λ (y : ℤ). pos 0 ≤ℤ y) (sym (quantity_got p q z e).is) (from_zero (unsigned_abs z))

pub natural_result : (r : Result ℤ Stop) (after : Cursor) (p : Place) → outcome same r after ≡ counted_number natural is_int128 p → IfOk r (λ y. pos 0 ≤ℤ y)
natural_result (Ok y) after p e = natural_from p (place_of after) y e
natural_result (Err s) after p e = tt

-- a least natural number
pub least_natural : (p q : Place) (z : ℤ) → got z q ≡ counted_number natural is_int128 p → length (counted (unsigned_octets (unsigned_abs z))) ≡ length (integer_octets unsigned_counted z)
least_natural p q z e = ap (λ (y : ℤ). length (integer_octets unsigned_counted y)) (sym (quantity_got p q z e).is)

-- ---- a quantity of elements

abbrev kept : Size → ℕ × Bool → Reader (ℕ × Bool)
kept size y = within y.0 (guard (size_fits size y.0) reason.Size (give y))

sized_then : (size : Size) (p q : Place) (z : ℤ) (f : Bool) → got z q ≡ counted_number natural is_int128 p → f ≡ eqb (length (between p q)) (length (counted (unsigned_octets (unsigned_abs z)))) → kept size (unsigned_abs z, f) q ≡ sized_quantity size p
unfolding sized_quantity
sized_then size p q z f e is =
    bind_got (judged (is_least quantity_octets) quantity) (kept size) p q (unsigned_abs z, is_least quantity_octets (unsigned_abs z) (between p q)) (kept size (unsigned_abs z, f) q)
    (judged_got (is_least quantity_octets) quantity p q (unsigned_abs z) (quantity_got p q z e).read) (ap (λ (g : Bool). kept size (unsigned_abs z, g) q) is)

over_is : (size : Size) (q : Place) (n : ℕ) (f : Bool) → leb n q.left ≡ false → refused reason.Limit q.input ≡ kept size (n, f) q
unfolding within
over_is size q n f over = rw over refl

out_is : (size : Size) (q : Place) (n : ℕ) (f : Bool) → leb n q.left ≡ true → size_fits size n ≡ false → refused reason.Size q.input ≡ kept size (n, f) q
unfolding within refuse
out_is size q n f room out = rw (room, out) refl

kept_is : (size : Size) (q : Place) (n : ℕ) (f : Bool) → leb n q.left ≡ true → size_fits size n ≡ true → got_both n f q ≡ kept size (n, f) q
unfolding within give
kept_is size q n f room fits = rw (room, fits) refl

pub sized_over : (size : Size) (p q : Place) (z : ℤ) → got z q ≡ counted_number natural is_int128 p → leb (unsigned_abs z) q.left ≡ false → refused reason.Limit q.input ≡ sized_quantity size p
sized_over size p q z e over = over_is size q (unsigned_abs z) (eqb (length (between p q)) (length (counted (unsigned_octets (unsigned_abs z))))) over ∙ sized_then size p q z _ e refl

pub sized_misfit : (size : Size) (p q : Place) (z : ℤ) → got z q ≡ counted_number natural is_int128 p → leb (unsigned_abs z) q.left ≡ true → size_fits size (unsigned_abs z) ≡ false → refused reason.Size q.input ≡ sized_quantity size p
sized_misfit size p q z e room out = out_is size q (unsigned_abs z) (eqb (length (between p q)) (length (counted (unsigned_octets (unsigned_abs z))))) room out ∙ sized_then size p q z _ e refl

pub sized_got : (size : Size) (p q : Place) (z : ℤ) (f : Bool) → got z q ≡ counted_number natural is_int128 p → f ≡ eqb (length (between p q)) (length (counted (unsigned_octets (unsigned_abs z)))) → leb (unsigned_abs z) q.left ≡ true → size_fits size (unsigned_abs z) ≡ true → got_both (unsigned_abs z) f q ≡ sized_quantity size p
sized_got size p q z f e is room fits = kept_is size q (unsigned_abs z) f room fits ∙ sized_then size p q z f e is

pub sized_stop : (size : Size) (p : Place) (why : Why) (rest : List ℕ) → refused why rest ≡ counted_number natural is_int128 p → refused why rest ≡ sized_quantity size p
unfolding sized_quantity
sized_stop size p why rest e = bind_stop (judged (is_least quantity_octets) quantity) (kept size) p why rest (judged_stop (is_least quantity_octets) quantity p why rest (quantity_stop p why rest e))
