-- Lengths, and what they count.
use Rattle.std.proofs.Common.{◌≡◌, ℕ, ◌-◌, Bool, true, false, ◌&&◌, leb, eqb, List, length, refl, sym, ap, ap₂, ◌∙◌}
use Rattle.oer_units.specs.declared.fault.Why.{Why}
use Rattle.oer_units.specs.Least.{length_octets}
use Rattle.oer_units.specs.Reader.{Outcome, Place, Reader, at, bind, bounded, filled_by, give, got, group, leave, open_by, refused, then_read, within}
use Rattle.oer_units.specs.Reading.{counted_length, determinant, with_length}
use Rattle.oer_units.proofs.Closure.{got_place, got_value}
use Rattle.oer_model.specs.Checking.{and_also, check_group, check_length, check_octets, check_open, is_least, judge, judged}
use Rattle.oer_checker.specs.Steps.{got_both, and_after, between, left_open, sized_length}
use Rattle.oer_checker.proofs.Joins.{also_is, and_true, bind_got, bind_stop, give_got}

abbrev keep : {A : Type 0} → ℕ → A → Reader A
keep n y = within n (give y)

pub sized_length_got : (p q : Place) (n : ℕ) → got n q ≡ counted_length p → got_both n (eqb (length (between p q)) (length (length_octets n))) q ≡ sized_length p
unfolding counted_length sized_length with_length judged bind within give
sized_length_got p q n = cases (determinant p) where
  step : (b : Bool) (m : ℕ) (s : Place) → got n q ≡ bounded b (λ t. got m t) s → got_both n (is_least length_octets n (between p q)) q ≡ bounded b (λ t. got_both m (is_least length_octets m (between p s)) t) s
  step true m s e = ap₂ (λ (i : ℕ) (t : Place). got_both i (is_least length_octets i (between p t)) t) (got_value n m q s e) (got_place n m q s e)
  step false m s e = absurd (cc)

  cases : (o : Outcome ℕ) → got n q ≡ then_read (λ m t. bounded (leb m t.left) (λ u. got m u) t) o → got_both n (is_least length_octets n (between p q)) q ≡ then_read (λ y t. bounded (leb y.0 t.left) (λ u. got y u) t) (judge (is_least length_octets) p o)
  cases (got m s) e = step (leb m s.left) m s e
  cases (refused why rest) e = absurd (cc)

pub sized_length_stop : (p : Place) (why : Why) (rest : List ℕ) → refused why rest ≡ counted_length p → refused why rest ≡ sized_length p
unfolding counted_length sized_length with_length judged bind within give
sized_length_stop p why rest = cases (determinant p) where
  step : (b : Bool) (m : ℕ) (y : ℕ × Bool) (s : Place) → refused why rest ≡ bounded b (λ t. got m t) s → refused why rest ≡ bounded b (λ t. got y t) s
  step true m y s e = absurd (cc)
  step false m y s e = cc

  cases : (o : Outcome ℕ) → refused why rest ≡ then_read (λ m t. bounded (leb m t.left) (λ u. got m u) t) o → refused why rest ≡ then_read (λ y t. bounded (leb y.0 t.left) (λ u. got y u) t) (judge (is_least length_octets) p o)
  cases (got m s) e = step (leb m s.left) m (m, is_least length_octets m (between p s)) s e
  cases (refused w l) e = cc

-- ---- what a length counts

also_value : (f : Bool) (c : Reader Bool) (p : Place) → and_after f (c p) ≡ then_read (λ g q. got (f && g) q) (c p)
unfolding and_also bind give
also_value f c p = sym (also_is f c p)

pub length_then : (c : ℕ → Reader Bool) (p q : Place) (n : ℕ) (f : Bool) → got_both n f q ≡ sized_length p → and_after f (c n q) ≡ check_length c p
unfolding sized_length check_length bind within give and_also
length_then c p q n f = cases (judged (is_least length_octets) determinant p) where
  step : (b : Bool) (y : ℕ × Bool) (s : Place) → got_both n f q ≡ bounded b (λ t. got y t) s → and_after f (c n q) ≡ then_read (λ g t. got (y.1 && g) t) (bounded b (c y.0) s)
  step true y s e = ap₂ (λ (i : ℕ × Bool) (t : Place). and_after i.1 (c i.0 t)) (got_value (n, f) y q s e) (got_place (n, f) y q s e) ∙ also_value y.1 (c y.0) s
  step false y s e = absurd (cc)

  cases : (o : Outcome (ℕ × Bool)) → got_both n f q ≡ then_read (λ y t. bounded (leb y.0 t.left) (λ u. got y u) t) o → and_after f (c n q) ≡ then_read (λ y t. then_read (λ g u. got (y.1 && g) u) (bounded (leb y.0 t.left) (c y.0) t)) o
  cases (got y s) e = step (leb y.0 s.left) y s e
  cases (refused why rest) e = absurd (cc)

pub length_stop : (c : ℕ → Reader Bool) (p : Place) (why : Why) (rest : List ℕ) → refused why rest ≡ sized_length p → refused why rest ≡ check_length c p
unfolding sized_length check_length bind within give and_also
length_stop c p why rest = cases (judged (is_least length_octets) determinant p) where
  step : (b : Bool) (y : ℕ × Bool) (s : Place) → refused why rest ≡ bounded b (λ t. got y t) s → refused why rest ≡ then_read (λ g t. got (y.1 && g) t) (bounded b (c y.0) s)
  step true y s e = absurd (cc)
  step false y s e = cc

  cases : (o : Outcome (ℕ × Bool)) → refused why rest ≡ then_read (λ y t. bounded (leb y.0 t.left) (λ u. got y u) t) o → refused why rest ≡ then_read (λ y t. then_read (λ g u. got (y.1 && g) u) (bounded (leb y.0 t.left) (c y.0) t)) o
  cases (got y s) e = step (leb y.0 s.left) y s e
  cases (refused w l) e = cc

-- the length is not above what is left after it
pub sized_room : (p q : Place) (n : ℕ) (f : Bool) → got_both n f q ≡ sized_length p → leb n q.left ≡ true
unfolding sized_length bind within give
sized_room p q n f = cases (judged (is_least length_octets) determinant p) where
  step : (b : Bool) (y : ℕ × Bool) (s : Place) → leb y.0 s.left ≡ b → got_both n f q ≡ bounded b (λ t. got y t) s → leb n q.left ≡ true
  step true y s is e = ap₂ (λ (i : ℕ × Bool) (t : Place). leb i.0 t.left) (got_value (n, f) y q s e) (got_place (n, f) y q s e) ∙ is
  step false y s is e = absurd (cc)

  cases : (o : Outcome (ℕ × Bool)) → got_both n f q ≡ then_read (λ y t. bounded (leb y.0 t.left) (λ u. got y u) t) o → leb n q.left ≡ true
  cases (got y s) e = step (leb y.0 s.left) y s refl e
  cases (refused why rest) e = absurd (cc)

pub octets_got : (p q end : Place) (n : ℕ) (f : Bool) (w : List ℕ) → got_both n f q ≡ sized_length p → got w end ≡ group n q → got f end ≡ check_octets p
unfolding check_octets check_group
octets_got p q end n f w e h =
    ap (λ (g : Bool). got g end) (sym (and_true f))
    ∙ ap (and_after f) (bind_got (group n) (λ x. give true) q end w (got true end) h (give_got true end))
    ∙ length_then (λ i. bind (group i) (λ x. give true)) p q n f e

pub octets_cut : (p q : Place) (n : ℕ) (f : Bool) (why : Why) (rest : List ℕ) → got_both n f q ≡ sized_length p → refused why rest ≡ group n q → refused why rest ≡ check_octets p
unfolding check_octets check_group
octets_cut p q n f why rest e h = ap (and_after f) (bind_stop (group n) (λ x. give true) q why rest h) ∙ length_then (λ i. bind (group i) (λ x. give true)) p q n f e

pub octets_stop : (p : Place) (why : Why) (rest : List ℕ) → refused why rest ≡ sized_length p → refused why rest ≡ check_octets p
unfolding check_octets
octets_stop p why rest e = length_stop check_group p why rest e

-- ---- open types

filled_is : (c : Reader Bool) (q : Place) (n : ℕ) → leb n q.left ≡ true → leave (q.left - n) (c (at q.input n)) ≡ filled_by n c q
unfolding filled_by
filled_is c q n is = ap (λ (b : Bool). open_by b n q (c (at q.input n))) (sym is)

pub open_then : (c : Reader Bool) (p q : Place) (n : ℕ) (f : Bool) → got_both n f q ≡ sized_length p → left_open q n f (c (at q.input n)) ≡ check_open c p
unfolding check_open
open_then c p q n f e = ap (and_after f) (filled_is c q n (sized_room p q n f e)) ∙ length_then (λ i. filled_by i c) p q n f e

pub open_stop : (c : Reader Bool) (p : Place) (why : Why) (rest : List ℕ) → refused why rest ≡ sized_length p → refused why rest ≡ check_open c p
unfolding check_open
open_stop c p why rest e = length_stop (λ i. filled_by i c) p why rest e
