-- Where a part is checked, its octets are read.
use Rattle.std.proofs.Common.{◌≡◌, ℕ, zero, suc, ◌-◌, Bool, true, false, not, ◌&&◌, leb, List, Some, None, length, take, refl, sym, ap, ap₂, ◌∙◌}
use Rattle.oer_units.specs.declared.fault.Why.{Why}
use Rattle.oer_units.specs.Reader.{Outcome, Place, Reader, at, bind, bounded, filled_by, give, got, group, leave_at, open_by, refused, then_read, within}
use Rattle.oer_units.specs.Reading.{counted_octets, determinant, open_type, with_length}
use Rattle.oer_units.specs.Least.{length_octets}
use Rattle.oer_units.proofs.Closure.{got_place, got_value}
use Rattle.oer_model.specs.AsnType.{AsnType, Need, default, may, must}
use Rattle.oer_model.specs.Canonical.{canonical_octets, same_list}
use Rattle.oer_model.specs.Checking.{and_also, check_group, check_length, check_octets, check_open, check_value, is_least, judge, judged, unlike}
use Rattle.oer_model.specs.Parts.{octets_of, taken_from}
use Rattle.oer_checker.specs.Steps.{and_after, between, check_there, got_both, sized_length}
use Rattle.oer_parts.specs.Walk.{read_in}
use Rattle.oer_checker.proofs.Joins.{also_is}

-- ---- a value

pub value_octets : (c : Reader Bool) (p q : Place) (f : Bool) → got f q ≡ c p → got (between p q) q ≡ octets_of c p
unfolding octets_of
value_octets c p q f e = ap (taken_from p) e

pub unlike_got : (d : List ℕ) (c : Reader Bool) (p q : Place) (f : Bool) → got f q ≡ unlike d c p → (g : Bool) × (got g q ≡ c p)
unfolding unlike judged bind give
unlike_got d c p q f e0 = cases (c p) e0 where
  cases : (o : Outcome Bool) → got f q ≡ then_read (λ y. give (y.0 && y.1)) (judge (λ f b. not (same_list b d)) p o) → (g : Bool) × (got g q ≡ o)
  cases (got g r) e = (g, ap (λ (s : Place). got g s) (got_place f _ q r e))
  cases (refused why rest) e = absurd (cc)

pub there_octets : (need : Need) (T : AsnType) (p q : Place) (f : Bool) → got f q ≡ check_there need T p → (c : List ℕ) × (got c q ≡ octets_of (check_value T) p)
there_octets must T p q f e = (between p q, value_octets (check_value T) p q f e)
there_octets may T p q f e = (between p q, value_octets (check_value T) p q f e)
there_octets (default d) T p q f e = let o = unlike_got (canonical_octets T d) (check_value T) p q f e in (between p q, value_octets (check_value T) p q o.0 o.1)

-- ---- what a length counts

also_got : (l f : Bool) (c : Reader Bool) (p q : Place) → got f q ≡ and_also l c p → (h : Bool) × (got h q ≡ c p)
also_got l f c p q e0 = cases (c p) (e0 ∙ also_is l c p) where
  cases : (o : Outcome Bool) → got f q ≡ and_after l o → (h : Bool) × (got h q ≡ o)
  cases (got h r) e = (h, ap (λ (s : Place). got h s) (got_place f (l && h) q r e))
  cases (refused why rest) e = absurd (cc)

module _ (c : ℕ → Reader Bool) (r : ℕ → Reader (List ℕ)) (pair : (n : ℕ) (p q : Place) (f : Bool) → got f q ≡ c n p → (w : List ℕ) × (got w q ≡ r n p)) where
  within_octets : (n : ℕ) (p q : Place) (f : Bool) → got f q ≡ within n (c n) p → (w : List ℕ) × (got w q ≡ within n (r n) p)
  unfolding within
  within_octets n p q f e0 = cases (leb n p.left) e0 where
    cases : (b : Bool) → got f q ≡ bounded b (c n) p → (w : List ℕ) × (got w q ≡ bounded b (r n) p)
    cases true e = pair n p q f e
    cases false e = absurd (cc)

  pub length_octets_got : (p q : Place) (f : Bool) → got f q ≡ check_length c p → (w : List ℕ) × (got w q ≡ with_length r p)
  unfolding check_length with_length bind judged
  length_octets_got p q f e0 = cases (determinant p) e0 where
    cases : (o : Outcome ℕ) → got f q ≡ then_read (λ y. and_also y.1 (within y.0 (c y.0))) (judge (is_least length_octets) p o) → (w : List ℕ) × (got w q ≡ then_read (λ n. within n (r n)) o)
    cases (got n s) e =
        let o = also_got (is_least length_octets n (take (length p.input - length s.input) p.input)) f (within n (c n)) s q e in
        within_octets n s q o.0 o.1
    cases (refused why rest) e = absurd (cc)

filled_octets : (c : Reader Bool) (n : ℕ) (p q : Place) (f : Bool) → got f q ≡ filled_by n c p → (w : List ℕ) × (got w q ≡ filled_by n (octets_of c) p)
unfolding filled_by octets_of
filled_octets c n p q f e0 = cases (leb n p.left) (c (at p.input n)) e0 where
  left_at : (k : ℕ) (g : Bool) (rest : List ℕ) (w : List ℕ) (outer : ℕ) → got f q ≡ leave_at g rest outer k → got w q ≡ leave_at w rest outer k
  left_at zero g rest w outer e = ap (λ (s : Place). got w s) (got_place f g q (at rest outer) e)
  left_at (suc k) g rest w outer e = absurd (cc)

  cases : (b : Bool) (o : Outcome Bool) → got f q ≡ open_by b n p o → (w : List ℕ) × (got w q ≡ open_by b n p (taken_from (at p.input n) o))
  cases true (got g s) e = (between (at p.input n) s, left_at s.left g s.input (between (at p.input n) s) (p.left - n) e)
  cases true (refused why rest) e = absurd (cc)
  cases false o e = absurd (cc)

pub open_octets : (c : Reader Bool) (p q : Place) (f : Bool) → got f q ≡ check_open c p → (w : List ℕ) × (got w q ≡ open_type (octets_of c) p)
unfolding check_open open_type
open_octets c p q f e = length_octets_got (λ n. filled_by n c) (λ n. filled_by n (octets_of c)) (filled_octets c) p q f e

group_octets : (n : ℕ) (p q : Place) (f : Bool) → got f q ≡ check_group n p → (w : List ℕ) × (got w q ≡ group n p)
unfolding check_group bind give
group_octets n p q f e0 = cases (group n p) e0 where
  cases : (o : Outcome (List ℕ)) → got f q ≡ then_read (λ w. give true) o → (w : List ℕ) × (got w q ≡ o)
  cases (got w r) e = (w, ap (λ (s : Place). got w s) (got_place f true q r e))
  cases (refused why rest) e = absurd (cc)

pub counted_got : (p q : Place) (f : Bool) → got f q ≡ check_octets p → (w : List ℕ) × (got w q ≡ counted_octets p)
unfolding check_octets counted_octets
counted_got p q f e = length_octets_got check_group (λ n. group n) group_octets p q f e

-- ---- as the program reads it

pub unread : (c : Reader Bool) (p : Place) (why : Why) (rest : List ℕ) → refused why rest ≡ c p → None ≡ read_in (octets_of c p)
unfolding octets_of
unread c p why rest e = ap (λ (o : Outcome Bool). read_in (taken_from p o)) e

pub value_read : (c : Reader Bool) (p q : Place) (f : Bool) (w : List ℕ) → got f q ≡ c p → w ≡ between p q → Some w ≡ read_in (octets_of c p)
value_read c p q f w e is = ap Some is ∙ ap read_in (value_octets c p q f e)

module _ (k : ℕ → Reader (List ℕ)) where
  pub length_unread : (p : Place) (why : Why) (rest : List ℕ) → refused why rest ≡ sized_length p → None ≡ read_in (with_length k p)
  unfolding sized_length with_length bind within judged give
  length_unread p why rest e0 = cases (determinant p) e0 where
    step : (b : Bool) (n : ℕ) (y : ℕ × Bool) (s : Place) → refused why rest ≡ bounded b (λ t. got y t) s → None ≡ read_in (bounded b (k n) s)
    step true n y s e = absurd (cc)
    step false n y s e = refl

    cases : (o : Outcome ℕ) → refused why rest ≡ then_read (λ y t. bounded (leb y.0 t.left) (λ u. got y u) t) (judge (is_least length_octets) p o) → None ≡ read_in (then_read (λ n t. bounded (leb n t.left) (k n) t) o)
    cases (got n s) e = step (leb n s.left) n (n, is_least length_octets n (between p s)) s e
    cases (refused w l) e = refl

  pub length_read : (p q : Place) (n : ℕ) (f : Bool) → got_both n f q ≡ sized_length p → k n q ≡ with_length k p
  unfolding sized_length with_length bind within judged give
  length_read p q n f e0 = cases (determinant p) e0 where
    step : (b : Bool) (m : ℕ) (y : ℕ × Bool) (s : Place) → m ≡ y.0 → got_both n f q ≡ bounded b (λ t. got y t) s → k n q ≡ bounded b (k m) s
    step true m y s is e = ap₂ (λ (i : ℕ × Bool) (t : Place). k i.0 t) (got_value (n, f) y q s e) (got_place (n, f) y q s e) ∙ ap (λ (i : ℕ). k i s) (sym is)
    step false m y s is e = absurd (cc)

    cases : (o : Outcome ℕ) → got_both n f q ≡ then_read (λ y t. bounded (leb y.0 t.left) (λ u. got y u) t) (judge (is_least length_octets) p o) → k n q ≡ then_read (λ n t. bounded (leb n t.left) (k n) t) o
    cases (got m s) e = step (leb m s.left) m (m, is_least length_octets m (between p s)) s refl e
    cases (refused w l) e = absurd (cc)

pub counted_unread : (p : Place) (why : Why) (rest : List ℕ) → refused why rest ≡ sized_length p → None ≡ read_in (counted_octets p)
unfolding counted_octets
counted_unread p why rest e = length_unread (λ n. group n) p why rest e

pub counted_cut : (p q : Place) (n : ℕ) (f : Bool) (why : Why) (rest : List ℕ) → got_both n f q ≡ sized_length p → refused why rest ≡ group n q → None ≡ read_in (counted_octets p)
unfolding counted_octets
counted_cut p q n f why rest e h = ap read_in (h ∙ length_read (λ n. group n) p q n f e)

pub counted_read : (p q r : Place) (n : ℕ) (f : Bool) (w : List ℕ) → got_both n f q ≡ sized_length p → got w r ≡ group n q → Some w ≡ read_in (counted_octets p)
unfolding counted_octets
counted_read p q r n f w e h = ap read_in (h ∙ length_read (λ n. group n) p q n f e)
