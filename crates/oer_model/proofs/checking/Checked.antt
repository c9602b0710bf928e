-- Checkers, and what they tell of the octets taken.
use Rattle.std.proofs.Common.{◌≡◌, ℕ, zero, suc, ◌-◌, ◌^◌, ◌<◌, List, [], ◌∷◌, ◌++◌, length, take, Bool, true, false, not, ◌&&◌, leb, refl, ap, ap₂, sym, ◌∙◌, subst, append_assoc, arith, length-append, take_at}
use Rattle.oer_units.specs.Lawful.{Lawful}
use Rattle.oer_units.specs.Octets.{IsOctets}
use Rattle.oer_units.specs.Reader.{Place, at, Outcome, got, refused, Reader, give, refuse, bind, then_read, guard, within, bounded, filled_by, open_by, leave, leave_at, named_inside}
use Rattle.oer_units.specs.declared.fault.Why.{Why}
use Rattle.oer_units.specs.declared.fault.Why.TheVariants.{Limit, Window}
use Rattle.oer_units.proofs.Closure.{same_refusal, Then, is_one, got_value, got_place}
use Rattle.oer_units.proofs.OneSpelling.{octets_split}
use Rattle.oer_units.proofs.Units.{open_lawful}
use Rattle.oer_model.specs.Canonical.{same_list}
use Rattle.oer_model.specs.Checking.{unlike, judge, judged, and_also}

-- octets, fewer than 2 ^ 64
pub record Input (b : List ℕ) : Type 0 where
  pub octs : IsOctets b
  pub few : length b < 2 ^ 64

pub input_left : (a b : List ℕ) → Input (a ++ b) → Input a
input_left a b i = record { octs = (octets_split a b i.octs).0; few = (let f = i.few in omega (arith, length-append a b)) }

pub input_right : (a b : List ℕ) → Input (a ++ b) → Input b
input_right a b i = record { octs = (octets_split a b i.octs).1; few = (let f = i.few in omega (arith, length-append a b)) }

-- f says whether S holds of x and the octets between p and q
abbrev pub Tells : {A : Type 0} → (A → List ℕ → Type 0) → A → Place → Place → Bool → Type 0
Tells S x p q f = (b : List ℕ) → Input b → p.input ≡ b ++ q.input → (f ≡ true → S x b) × (S x b → f ≡ true)

-- c answers as r does, but for what it makes of the value and of whether S holds
pub record Checked {A D : Type 0} (g : A → Bool → D) (r : Reader A) (c : Reader D) (S : A → List ℕ → Type 0) : Type 0 where
  pub refuses : (p : Place) (why : Why) (rest : List ℕ) → r p ≡ refused why rest → c p ≡ refused why rest
  pub tells : (p : Place) (x : A) (q : Place) → r p ≡ got x q → (f : Bool) × (c p ≡ got (g x f) q) × Tells S x p q f

-- whether alone
abbrev pub flag : {A : Type 0} → A → Bool → Bool
flag x f = f

abbrev pub with_value : {A : Type 0} → A → Bool → A × Bool
with_value x f = (x, f)

pub front_same : (b c rest : List ℕ) → b ++ rest ≡ c ++ rest → b ≡ c
front_same [] [] rest e = refl
front_same [] (y ∷ c) rest e = absurd (omega (arith, ap length e, length-append c rest))
front_same (x ∷ b) [] rest e = absurd (omega (arith, ap length e, length-append b rest))
front_same (x ∷ b) (y ∷ c) rest e = let f = front_same b c rest (cc) in let g : x ≡ y = cc in ap₂ (λ x b. x ∷ b) g f

-- what was read of b is spelt by b
pub read_spelt : {A : Type 0} (r : Reader A) (S : A → List ℕ → Type 0) → Lawful r S → (p : Place) (x : A) (q : Place) (b : List ℕ) → r p ≡ got x q → p.input ≡ b ++ q.input → S x b
read_spelt r S l p x q b e split = let a = l.sound p x q e in subst (S x) (front_same a.0 b q.input (sym a.2 ∙ split)) a.1

unfoldable pub between : (p q : Place) → List ℕ
between p q = take (length p.input - length q.input) p.input

pub between_is : (p q : Place) (b : List ℕ) → p.input ≡ b ++ q.input → between p q ≡ b
unfolding between
between_is p q b split = ap (take (length p.input - length q.input)) split ∙ take_at b q.input (length p.input - length q.input) (omega (arith, ap length split, length-append b q.input))

pub judged_checked : {A : Type 0} (test : A → List ℕ → Bool) (r : Reader A) (S S' : A → List ℕ → Type 0) → Lawful r S
    → ((x : A) (b : List ℕ) → Input b → S x b → (test x b ≡ true → S' x b) × (S' x b → test x b ≡ true)) → Checked with_value r (judged test r) S'
unfolding judged between
judged_checked test r S S' l f = record {
  refuses = λ p why rest e. ap (judge test p) e;
  tells = λ p x q e. (
    test x (between p q),
    ap (judge test p) e,
    λ b i split. (
        let known = f x b i (read_spelt r S l p x q b e split) in
        let same = between_is p q b split in
        (λ t. known.0 (sym (ap (test x) same) ∙ t), λ s. ap (test x) same ∙ known.1 s)),
  );
}

pub checked_as : {A D : Type 0} {g : A → Bool → D} {r : Reader A} {c : Reader D} {S S' : A → List ℕ → Type 0} → Checked g r c S → ((x : A) (b : List ℕ) → S x b → S' x b) → ((x : A) (b : List ℕ) → S' x b → S x b) → Checked g r c S'
checked_as k to from = record {
  refuses = k.refuses;
  tells = λ p x q e. (let t = k.tells p x q e in (t.0, t.1, λ b i split. (let u = t.2 b i split in (λ f. to x b (u.0 f), λ s. u.1 (from x b s)))));
}

pub give_checked : {A : Type 0} (x : A) → Checked flag (give x) (give true) (λ y b. (y ≡ x) × (b ≡ []))
unfolding give
give_checked x = record {
  refuses = λ p why rest e. absurd (cc);
  tells = λ p y q e. (true, ap (got true) (got_place x y p q e), λ b i split. (λ f. (sym (got_value x y p q e), front_same b [] q.input (sym split ∙ ap (λ (p : Place). p.input) (got_place x y p q e))), λ s. refl));
}

and_true : (f g : Bool) → (f && g) ≡ true → (f ≡ true) × (g ≡ true)
and_true true g e = (refl, e)
and_true false g e = absurd (cc)

true_and : (f g : Bool) → f ≡ true → g ≡ true → (f && g) ≡ true
true_and true g e h = h
true_and false g e h = absurd (cc)

pub and_checked : {A : Type 0} (f : Bool) (r : Reader A) (c : Reader Bool) (S : A → List ℕ → Type 0) → Checked flag r c S → Checked (λ x g. f && g) r (and_also f c) S
unfolding and_also bind give
and_checked f r c S k = record {
  refuses = λ p why rest e. ap (then_read (λ g. give (f && g))) (k.refuses p why rest e);
  tells = λ p x q e. (let t = k.tells p x q e in (t.0, ap (then_read (λ g. give (f && g))) t.1, t.2));
}

module _ {A B D E : Type 0} (g : A → Bool → D) (h : B → Bool → E) (r : Reader A) (k : A → Reader B) (c : Reader D) (m : D → Reader E) (S1 S1' : A → List ℕ → Type 0) (S2 S2' : A → B → List ℕ → Type 0)
    (l1 : Lawful r S1) (within1 : (x : A) (b : List ℕ) → S1' x b → S1 x b) (k1 : Checked g r c S1') (l2 : (x : A) → Lawful (k x) (S2 x)) (k2 : (x : A) (f : Bool) → Checked (λ y e. h y (f && e)) (k x) (m (g x f)) (S2' x)) where
  after_refuses : (p : Place) (why : Why) (rest : List ℕ) (o : Outcome A) → r p ≡ o → then_read k o ≡ refused why rest → then_read m (c p) ≡ refused why rest
  after_refuses p why rest (refused w r1) e f = ap (then_read m) (k1.refuses p w r1 e) ∙ same w r1 f
    where
      same : (w : Why) (r1 : List ℕ) → then_read k (refused w r1) ≡ refused why rest → then_read m (refused w r1) ≡ refused why rest
      same w r1 f = cc
  after_refuses p why rest (got x p1) e f =
      let t = k1.tells p x p1 e in
      ap (then_read m) t.1 ∙ (k2 x t.0).refuses p1 why rest f

  back : (x : A) (y : B) (b b1 b2 : List ℕ) (f1 f2 : Bool) → S1 x b1 → b ≡ b1 ++ b2 → (S1' x b1 → f1 ≡ true) → (S2' x y b2 → f2 ≡ true) → Then S1' S2' y b → (f1 && f2) ≡ true
  back x y b b1 b2 f1 f2 s whole t u (x', c1, c2, s1, s2, e) =
      let one = is_one l1 x' x c1 b1 c2 b2 (within1 x' c1 s1) s (sym e ∙ whole) in
      true_and f1 f2 (t (subst (S1' x) one.1 (subst (λ x. S1' x c1) one.0 s1))) (u (subst (S2' x y) one.2 (subst (λ x. S2' x y c2) one.0 s2)))

  after_tells : (p : Place) (y : B) (q : Place) (o : Outcome A) → r p ≡ o → then_read k o ≡ got y q → (f : Bool) × (then_read m (c p) ≡ got (h y f) q) × Tells (Then S1' S2') y p q f
  after_tells p y q (refused w r1) e f = absurd (cc)
  after_tells p y q (got x p1) e f =
      let a = l1.sound p x p1 e in
      let d = (l2 x).sound p1 y q f in
      let t = k1.tells p x p1 e in
      let u = (k2 x t.0).tells p1 y q f in (
        t.0 && u.0,
        ap (then_read m) t.1 ∙ u.1,
        λ b i split. (
            let whole : b ≡ a.0 ++ d.0 = front_same b (a.0 ++ d.0) q.input (sym split ∙ a.2 ∙ ap (λ w. a.0 ++ w) d.2 ∙ sym (append_assoc a.0 d.0 q.input)) in
            let t' = t.2 a.0 (input_left a.0 d.0 (subst Input whole i)) a.2 in
            let u' = u.2 d.0 (input_right a.0 d.0 (subst Input whole i)) d.2 in
            (λ s. (let two = and_true t.0 u.0 s in (x, a.0, d.0, t'.0 two.0, u'.0 two.1, whole)), λ s. back x y b a.0 d.0 t.0 u.0 a.1 whole t'.1 u'.1 s)),
      )

  pub bind_checked : Checked h (bind r k) (bind c m) (Then S1' S2')
  unfolding bind
  bind_checked = record {
    refuses = λ p why rest e. after_refuses p why rest (r p) refl e;
    tells = λ p y q e. after_tells p y q (r p) refl e;
  }

-- a reader whose value is made into another
module _ {A B D : Type 0} (f : A → B) (g : Bool → D) (r : Reader A) (c : Reader D) (S S' : A → List ℕ → Type 0) (l : Lawful r S) (inside : (x : A) (b : List ℕ) → S' x b → S x b) (k : Checked (λ x. g) r c S') where
  made_refuses : (p : Place) (why : Why) (rest : List ℕ) (o : Outcome A) → r p ≡ o → then_read (λ x. give (f x)) o ≡ refused why rest → c p ≡ refused why rest
  unfolding give
  made_refuses p why rest (refused w r1) e h = k.refuses p w r1 e ∙ same_refusal {A = D} {B = B} w why r1 rest h
  made_refuses p why rest (got x p1) e h = absurd (cc)

  made_tells : (p : Place) (y : B) (q : Place) (o : Outcome A) → r p ≡ o → then_read (λ x. give (f x)) o ≡ got y q → (t : Bool) × (c p ≡ got (g t) q) × Tells (λ y b. (x : A) × (y ≡ f x) × S' x b) y p q t
  unfolding give
  made_tells p y q (refused w r1) e h = absurd (cc)
  made_tells p y q (got x p1) e h =
      let is = got_value (f x) y p1 q h in
      let here = got_place (f x) y p1 q h in
      let t = k.tells p x p1 e in (
        t.0,
        t.1 ∙ ap (got (g t.0)) here,
        λ b i split. (
            let split' : p.input ≡ b ++ p1.input = split ∙ ap (λ (p : Place). b ++ p.input) (sym here) in
            let u = t.2 b i split' in
            (λ s. (x, sym is, u.0 s), λ (x', is', s). u.1 (subst (λ x. S' x b) (is_one l x' x b b [] [] (inside x' b s) (read_spelt r S l p x p1 b e split') refl).0 s))),
      )

  pub made_checked : Checked (λ y. g) (bind r (λ x. give (f x))) c (λ y b. (x : A) × (y ≡ f x) × S' x b)
  unfolding bind
  made_checked = record {
    refuses = λ p why rest e. made_refuses p why rest (r p) refl e;
    tells = λ p y q e. made_tells p y q (r p) refl e;
  }

pub guard_checked : {A D : Type 0} (t : Bool) (why : Why) (g : A → Bool → D) (r : Reader A) (c : Reader D) (S : A → List ℕ → Type 0) → Checked g r c S → Checked g (guard t why r) (guard t why c) (λ x b. (t ≡ true) × S x b)
unfolding refuse
guard_checked true why g r c S k = checked_as k (λ x b s. (refl, s)) (λ x b s. s.1)
guard_checked {A} {D} false why g r c S k = record {
  refuses = λ p w rest e. same_refusal {A = D} {B = A} why w p.input rest e;
  tells = λ p x q e. absurd (cc);
}

-- a value with whether, and whether alone
pub flag_checked : {A : Type 0} (r : Reader A) (c : Reader (A × Bool)) (S : A → List ℕ → Type 0) → Checked with_value r c S → Checked flag r (bind c (λ y. give y.1)) S
unfolding bind give
flag_checked r c S k = record {
  refuses = λ p why rest e. ap (then_read (λ y. give y.1)) (k.refuses p why rest e);
  tells = λ p x q e. (let t = k.tells p x q e in (t.0, ap (then_read (λ y. give y.1)) t.1, t.2));
}

-- octets all of whose spellings are canonical
module _ {A B E : Type 0} (h : B → Bool → E) (r : Reader A) (k : A → Reader B) (m : A → Reader E) (S1 S1' : A → List ℕ → Type 0) (S2 S2' : A → B → List ℕ → Type 0)
    (l1 : Lawful r S1) (always : (x : A) (b : List ℕ) → Input b → S1 x b → S1' x b) (inside : (x : A) (b : List ℕ) → S1' x b → S1 x b) (l2 : (x : A) → Lawful (k x) (S2 x)) (k2 : (x : A) → Checked h (k x) (m x) (S2' x)) where
  then_refuses : (p : Place) (why : Why) (rest : List ℕ) (o : Outcome A) → r p ≡ o → then_read k o ≡ refused why rest → then_read m o ≡ refused why rest
  then_refuses p why rest (refused w r1) e f = same_refusal {A = E} {B = B} w why r1 rest f
  then_refuses p why rest (got x p1) e f = (k2 x).refuses p1 why rest f

  then_tells : (p : Place) (y : B) (q : Place) (o : Outcome A) → r p ≡ o → then_read k o ≡ got y q → (f : Bool) × (then_read m o ≡ got (h y f) q) × Tells (Then S1' S2') y p q f
  then_tells p y q (refused w r1) e f = absurd (cc)
  then_tells p y q (got x p1) e f =
      let a = l1.sound p x p1 e in
      let d = (l2 x).sound p1 y q f in
      let u = (k2 x).tells p1 y q f in (
        u.0,
        u.1,
        λ b i split. (
            let whole : b ≡ a.0 ++ d.0 = front_same b (a.0 ++ d.0) q.input (sym split ∙ a.2 ∙ ap (λ w. a.0 ++ w) d.2 ∙ sym (append_assoc a.0 d.0 q.input)) in
            let u' = u.2 d.0 (input_right a.0 d.0 (subst Input whole i)) d.2 in (
              λ s. (x, a.0, d.0, always x a.0 (input_left a.0 d.0 (subst Input whole i)) a.1, u'.0 s, whole),
              λ (x', c1, c2, s1, s2, g). (let one = is_one l1 x' x c1 a.0 c2 d.0 (inside x' c1 s1) a.1 (sym g ∙ whole) in u'.1 (subst (S2' x y) one.2 (subst (λ x. S2' x y c2) one.0 s2))),
            )),
      )

  pub same_bind_checked : Checked h (bind r k) (bind r m) (Then S1' S2')
  unfolding bind
  same_bind_checked = record {
    refuses = λ p why rest e. then_refuses p why rest (r p) refl e;
    tells = λ p y q e. then_tells p y q (r p) refl e;
  }

-- where n octets are within the bound
module _ {A : Type 0} (n : ℕ) (r : Reader A) (c : Reader Bool) (S : A → List ℕ → Type 0) (k : Checked flag r c S) where
  bounded_refuses : (t : Bool) (p : Place) (why : Why) (rest : List ℕ) → bounded t r p ≡ refused why rest → bounded t c p ≡ refused why rest
  bounded_refuses true p why rest e = k.refuses p why rest e
  bounded_refuses false p why rest e = same_refusal {A = Bool} {B = A} Limit why p.input rest e

  bounded_tells : (t : Bool) (p : Place) (x : A) (q : Place) → bounded t r p ≡ got x q → (f : Bool) × (bounded t c p ≡ got f q) × Tells S x p q f
  bounded_tells true p x q e = k.tells p x q e
  bounded_tells false p x q e = absurd (cc)

  pub within_checked : Checked flag (within n r) (within n c) S
  unfolding within
  within_checked = record {
    refuses = λ p why rest e. bounded_refuses (leb n p.left) p why rest e;
    tells = λ p x q e. bounded_tells (leb n p.left) p x q e;
  }

-- an open type of n octets
module _ {A : Type 0} (n : ℕ) (r : Reader A) (c : Reader Bool) (S S' : A → List ℕ → Type 0) (l : Lawful r S) (k : Checked flag r c S') where
  leave_refuses : (j : ℕ) (x : A) (f : Bool) (s : List ℕ) (outer : ℕ) (why : Why) (rest : List ℕ) → leave_at x s outer j ≡ refused why rest → leave_at f s outer j ≡ refused why rest
  leave_refuses zero x f s outer why rest e = absurd (cc)
  leave_refuses (suc j) x f s outer why rest e = same_refusal {A = Bool} {B = A} Window why s rest e

  open_refuses : (t : Bool) (p : Place) (why : Why) (rest : List ℕ) (o : Outcome A) → r (at p.input n) ≡ o → open_by t n p o ≡ refused why rest → open_by t n p (c (at p.input n)) ≡ refused why rest
  open_refuses false p why rest o e f = same_refusal {A = Bool} {B = A} Limit why p.input rest f
  open_refuses true p why rest (got x s) e f =
      let t = k.tells (at p.input n) x s e in
      ap (leave (p.left - n)) t.1 ∙ leave_refuses s.left x t.0 s.input (p.left - n) why rest f
  open_refuses true p why rest (refused w r1) e f = ap (leave (p.left - n)) (k.refuses (at p.input n) w r1 e) ∙ same_refusal {A = Bool} {B = A} (named_inside w) why r1 rest f

  leave_tells : (j : ℕ) (x y : A) (f : Bool) (s : List ℕ) (outer : ℕ) (q : Place) → leave_at x s outer j ≡ got y q → (leave_at f s outer j ≡ got f q) × (x ≡ y) × (s ≡ q.input)
  leave_tells zero x y f s outer q e = (ap (got f) (got_place x y (at s outer) q e), got_value x y (at s outer) q e, ap (λ (p : Place). p.input) (got_place x y (at s outer) q e))
  leave_tells (suc j) x y f s outer q e = absurd (cc)

  open_tells : (t : Bool) (p : Place) (y : A) (q : Place) (o : Outcome A) → r (at p.input n) ≡ o → open_by t n p o ≡ got y q → ((b : List ℕ) → p.input ≡ b ++ q.input → length b ≡ n)
      → (f : Bool) × (open_by t n p (c (at p.input n)) ≡ got f q) × Tells (λ x b. S' x b × (length b ≡ n)) y p q f
  open_tells false p y q o e f all = absurd (cc)
  open_tells true p y q (refused w r1) e f all = absurd (cc)
  open_tells true p y q (got x s) e f all =
      let t = k.tells (at p.input n) x s e in
      let v = leave_tells s.left x y t.0 s.input (p.left - n) q f in (
        t.0,
        ap (leave (p.left - n)) t.1 ∙ v.0,
        λ b i split. (
            let u = t.2 b i (split ∙ ap (λ s. b ++ s) (sym v.2)) in
            (λ w. (subst (λ x. S' x b) v.1 (u.0 w), all b split), λ w. u.1 (subst (λ x. S' x b) (sym v.1) w.0))),
      )

  pub filled_checked : Checked flag (filled_by n r) (filled_by n c) (λ x b. S' x b × (length b ≡ n))
  unfolding filled_by
  filled_checked = record {
    refuses = λ p why rest e. open_refuses (leb n p.left) p why rest (r (at p.input n)) refl e;
    tells = λ p y q e. open_tells (leb n p.left) p y q (r (at p.input n)) refl e (λ b split. (read_spelt (filled_by n r) (λ x b. S x b × (length b ≡ n)) (open_lawful n r S l) p y q b e split).1);
  }

-- octets of a value that aren't those given
pub unlike_checked : {A : Type 0} (d : List ℕ) (r : Reader A) (c : Reader Bool) (S : A → List ℕ → Type 0) (N : A → Type 0) → Checked flag r c S → ((x : A) (b : List ℕ) → Input b → S x b → (N x → same_list b d ≡ false) × (same_list b d ≡ false → N x))
    → Checked flag r (unlike d c) (λ x b. S x b × N x)
unfolding unlike judged bind give between
unlike_checked d r c S N k other = record {
  refuses = λ p why rest e. ap (λ o. then_read (λ y. give (y.0 && y.1)) (judge (λ f b. not (same_list b d)) p o)) (k.refuses p why rest e);
  tells = λ p x q e. (
      let t = k.tells p x q e in (
        t.0 && not (same_list (between p q) d),
        ap (λ o. then_read (λ y. give (y.0 && y.1)) (judge (λ f b. not (same_list b d)) p o)) t.1,
        λ b i split. (
            let same : not (same_list (between p q) d) ≡ not (same_list b d) = ap (λ b. not (same_list b d)) (between_is p q b split) in
            let u = t.2 b i split in (
              λ w. (let two = and_true t.0 (not (same_list (between p q) d)) w in let s = u.0 two.0 in (s, (other x b i s).1 (false_not (same_list b d) (sym same ∙ two.1)))),
              λ w. true_and t.0 (not (same_list (between p q) d)) (u.1 w.0) (same ∙ ap not ((other x b i w.0).0 w.1)),
            )),
      ));
}
  where
    false_not : (f : Bool) → not f ≡ true → f ≡ false
    false_not true e = absurd (cc)
    false_not false e = refl
