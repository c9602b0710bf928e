-- Lawful readers are closed under the ways in which readers are made.
use Rattle.std.proofs.Common.{◌≡◌, ℕ, ◌+◌, ◌<◌, ◌≤◌, List, [], ◌++◌, length, Bool, true, false, leb, refl, ap, ap₂, sym, ◌∙◌, subst, append_assoc, arith, length-append, le-leb, leb-false}
use Rattle.std.proofs.lemmas.List.{append_cancel_right}
use Rattle.oer_units.specs.Lawful.{SpokenOf, Excludes, Lawful}
use Rattle.oer_units.specs.Reader.{Place, at, Outcome, got, refused, Reader, give, refuse, bind, then_read, bounded, within}
use Rattle.oer_units.specs.declared.fault.Why.{Why}
use Rattle.oer_units.specs.declared.fault.Why.TheVariants.{End, Limit}

-- two values, of which the first is read by r1 and the second by what the first asks for
abbrev pub Then : {A B : Type 0} → (A → List ℕ → Type 0) → (A → B → List ℕ → Type 0) → B → List ℕ → Type 0
Then {A} S1 S2 y b = (x : A) × (b1 : List ℕ) × (b2 : List ℕ) × S1 x b1 × S2 x y b2 × (b ≡ b1 ++ b2)

pub is_one : {A : Type 0} {r : Reader A} {S : A → List ℕ → Type 0} → Lawful r S
    → (x y : A) (b c u v : List ℕ) → S x b → S y c → b ++ u ≡ c ++ v → (x ≡ y) × (b ≡ c) × (u ≡ v)
is_one {r = r} l x y b c u v s s' e =
    let left = l.complete x b u (length c) s in
    let right = l.complete y c v (length b) s' in
    let places : at (b ++ u) (length b + length c) ≡ at (c ++ v) (length c + length b) = ap₂ at e (omega arith) in
    let same : got x (at u (length c)) ≡ got y (at v (length b)) = sym left ∙ ap r places ∙ right in
    let rests : at u (length c) ≡ at v (length b) = cc in
    let ends : u ≡ v = ap (λ (p : Place). p.input) rests in
    (cc, append_cancel_right b c v (subst (λ w. b ++ w ≡ c ++ v) ends e), ends)

abbrev pub declined : (A : Type 0) → Why → List ℕ → Outcome A
declined A why rest = refused why rest

pub same_rests : (A : Type 0) (a b : List ℕ) (w v : Why) → declined A w a ≡ declined A v b → a ≡ b
same_rests A a b w v e = cc

pub same_whys : (A : Type 0) (a b : List ℕ) (w v : Why) → declined A w a ≡ declined A v b → w ≡ v
same_whys A a b w v e = cc

pub limit_not_ended : (v : Why) → Limit ≡ v → v ≡ End → ⊥
limit_not_ended v e f = cc

pub got_place : {A : Type 0} (x y : A) (p q : Place) → got x p ≡ got y q → p ≡ q
got_place x y p q e = cc

pub got_value : {A : Type 0} (x y : A) (p q : Place) → got x p ≡ got y q → x ≡ y
got_value x y p q e = cc

pub same_input : (p q : Place) → p ≡ q → p.input ≡ q.input
same_input p q e = ap (λ (p : Place). p.input) e

pub same_left : (p q : Place) → p ≡ q → p.left ≡ q.left
same_left p q e = ap (λ (p : Place). p.left) e

-- a refusal of which nothing is asked: there are no spellings
pub none_spelt : {A : Type 0} (S : A → List ℕ → Type 0) (why : Why) (n : ℕ) (t : List ℕ) → ((x : A) (b : List ℕ) → S x b → ⊥) → Excludes S why n t
none_spelt S why n t nothing x b u v s e w = nothing x b s

pub give_lawful : {A : Type 0} (x : A) → Lawful (give x) (λ y b. (y ≡ x) × (b ≡ []))
unfolding give
give_lawful {A} x = record {
  sound = λ p y q e. ([], (sym (got_value x y p q e), refl), same_input p q (got_place x y p q e), same_left p q (got_place x y p q e) ∙ omega arith);
  complete = λ y b rest m s. rw (s.0, s.1) (ap (λ n. got x (at rest n)) (omega arith));
  refusal = λ p why rest e. absurd (cc);
}

pub refuse_lawful : {A : Type 0} (why : Why) (S : A → List ℕ → Type 0) → (why ≡ End → ⊥) → ((x : A) (b : List ℕ) → S x b → ⊥) → Lawful (refuse why) S
unfolding refuse
refuse_lawful {A} why S not_end nothing = record {
  sound = λ p y q e. absurd (cc);
  complete = λ y b rest m s. absurd (nothing y b s);
  refusal = λ p w rest e. (let f : declined A why p.input ≡ declined A w rest = e in ([], ap tail f, omega arith, none_spelt S w p.left [] nothing, λ end. absurd (not_end (whys p w rest f ∙ end))));
}
  where
    tail : Outcome A → List ℕ
    tail (got x q) = []
    tail (refused w rest) = rest

    whys : (p : Place) (w : Why) (rest : List ℕ) → declined A why p.input ≡ declined A w rest → why ≡ w
    whys p w rest e = cc

first_spoken : (why : Why) (n : ℕ) (b b1 b2 v : List ℕ) → b ≡ b1 ++ b2 → SpokenOf why n b v → SpokenOf why n b1 v
first_spoken End n b b1 b2 v e w = w
first_spoken Limit n b b1 b2 v e w = omega (arith, ap length e, length-append b1 b2)
first_spoken _ n b b1 b2 v e w = tt

second_spoken : (why : Why) (n m : ℕ) (b b1 b2 v : List ℕ) → b ≡ b1 ++ b2 → n ≡ length b1 + m → SpokenOf why n b v → SpokenOf why m b2 v
second_spoken End n m b b1 b2 v e f w = w
second_spoken Limit n m b b1 b2 v e f w = omega (arith, ap length e, length-append b1 b2)
second_spoken _ n m b b1 b2 v e f w = tt

pub same_refusal : {A B : Type 0} (w why : Why) (r1 rest : List ℕ) → declined B w r1 ≡ declined B why rest → declined A w r1 ≡ declined A why rest
same_refusal w why r1 rest e = cc

module _ {A B : Type 0} (r : Reader A) (k : A → Reader B) (S1 : A → List ℕ → Type 0) (S2 : A → B → List ℕ → Type 0) (l1 : Lawful r S1) (l2 : (x : A) (b : List ℕ) → S1 x b → Lawful (k x) (S2 x)) where
  bind_sound : (p : Place) (y : B) (q : Place) (o : Outcome A) → r p ≡ o → then_read k o ≡ got y q → (b : List ℕ) × Then S1 S2 y b × (p.input ≡ b ++ q.input) × (p.left ≡ length b + q.left)
  bind_sound p y q (refused why rest) e1 e2 = absurd (cc)
  bind_sound p y q (got x p1) e1 e2 =
      let a = l1.sound p x p1 e1 in
      let c = (l2 x a.0 a.1).sound p1 y q e2 in
      (a.0 ++ c.0, (x, a.0, c.0, a.1, c.1, refl), a.2 ∙ ap (λ w. a.0 ++ w) c.2 ∙ sym (append_assoc a.0 c.0 q.input), omega (arith, length-append a.0 c.0))

  bind_complete : (y : B) (b rest : List ℕ) (m : ℕ) → Then S1 S2 y b → then_read k (r (at (b ++ rest) (length b + m))) ≡ got y (at rest m)
  bind_complete y b rest m (x, b1, b2, s1, s2, e) =
      let places : at (b ++ rest) (length b + m) ≡ at (b1 ++ (b2 ++ rest)) (length b1 + (length b2 + m))
      = ap₂ at (ap (λ w. w ++ rest) e ∙ append_assoc b1 b2 rest) (omega (arith, ap length e, length-append b1 b2)) in
      ap (λ p. then_read k (r p)) places ∙ ap (then_read k) (l1.complete x b1 (b2 ++ rest) (length b2 + m) s1) ∙ (l2 x b1 s1).complete y b2 rest m s2

  first_excluded : (p : Place) (why : Why) (t : List ℕ) → Excludes S1 why p.left t → Excludes (Then S1 S2) why p.left t
  first_excluded p why t ex y b u v (x, b1, b2, s1, s2, e) f spoken =
      ex x b1 (b2 ++ u) v s1 (sym (append_assoc b1 b2 u) ∙ ap (λ w. w ++ u) (sym e) ∙ f) (first_spoken why p.left b b1 b2 v e spoken)

  second_excluded : (p : Place) (why : Why) (x : A) (c : List ℕ) (m : ℕ) (t : List ℕ) → S1 x c → p.left ≡ length c + m → Excludes (S2 x) why m t → Excludes (Then S1 S2) why p.left (c ++ t)
  second_excluded p why x c m t s le ex y b u v (z, b1, b2, s1, s2, e) f spoken =
      let g : b1 ++ (b2 ++ u) ≡ c ++ (t ++ v) = sym (append_assoc b1 b2 u) ∙ ap (λ w. w ++ u) (sym e) ∙ f ∙ append_assoc c t v in
      let one = is_one l1 z x b1 c (b2 ++ u) (t ++ v) s1 s g in
      ex y b2 u v (subst (λ a. S2 a y b2) one.0 s2) one.2 (second_spoken why p.left m b b1 b2 v e (le ∙ ap (λ w. length w + m) (sym one.1)) spoken)

  bind_refusal : (p : Place) (why : Why) (rest : List ℕ) (o : Outcome A) → r p ≡ o → then_read k o ≡ refused why rest
      → (t : List ℕ) × (p.input ≡ t ++ rest) × (length t ≤ p.left) × Excludes (Then S1 S2) why p.left t × (why ≡ End → rest ≡ [])
  bind_refusal p why rest (refused w r1) e1 e2 =
      let d = l1.refusal p why rest (e1 ∙ same_refusal w why r1 rest e2) in
      (d.0, d.1, d.2, λ y b u v s e spoken. first_excluded p why d.0 d.3 y b u v s e spoken, d.4)
  bind_refusal p why rest (got x p1) e1 e2 =
      let a = l1.sound p x p1 e1 in
      let d = (l2 x a.0 a.1).refusal p1 why rest e2 in
      (a.0 ++ d.0, a.2 ∙ ap (λ w. a.0 ++ w) d.1 ∙ sym (append_assoc a.0 d.0 rest), omega (arith, length-append a.0 d.0), λ y b u v s e spoken. second_excluded p why x a.0 p1.left d.0 a.1 a.3 d.3 y b u v s e spoken, d.4)

  pub bind_lawful_where : Lawful (bind r k) (Then S1 S2)
  unfolding bind
  bind_lawful_where = record {
    sound = λ p y q e. bind_sound p y q (r p) refl e;
    complete = bind_complete;
    refusal = λ p why rest e. bind_refusal p why rest (r p) refl e;
  }

pub bind_lawful : {A B : Type 0} (r : Reader A) (k : A → Reader B) (S1 : A → List ℕ → Type 0) (S2 : A → B → List ℕ → Type 0) → Lawful r S1 → ((x : A) → Lawful (k x) (S2 x)) → Lawful (bind r k) (Then S1 S2)
bind_lawful r k S1 S2 l1 l2 = bind_lawful_where r k S1 S2 l1 (λ x b s. l2 x)

pub same_spellings : {A : Type 0} {r : Reader A} {S S' : A → List ℕ → Type 0} → Lawful r S
    → ((x : A) (b : List ℕ) → S x b → S' x b) → ((x : A) (b : List ℕ) → S' x b → S x b) → Lawful r S'
same_spellings {r = r} l to from = record {
  sound = λ p x q e. (let a = l.sound p x q e in (a.0, to x a.0 a.1, a.2, a.3));
  complete = λ x b rest m s. l.complete x b rest m (from x b s);
  refusal = λ p why rest e. (let a = l.refusal p why rest e in (a.0, a.1, a.2, λ x b u v s f spoken. a.3 x b u v (from x b s) f spoken, a.4));
}

-- a refusal that takes nothing, of a kind that has to be shown to exclude all
module _ {A : Type 0} (n : ℕ) (r : Reader A) (S : A → List ℕ → Type 0) (l : Lawful r S) (long : (x : A) (b : List ℕ) → S x b → n ≤ length b) where
  within_sound : (c : Bool) (p : Place) (x : A) (q : Place) → leb n p.left ≡ c → bounded c r p ≡ got x q → (b : List ℕ) × S x b × (p.input ≡ b ++ q.input) × (p.left ≡ length b + q.left)
  within_sound true p x q f e = l.sound p x q e
  within_sound false p x q f e = absurd (cc)

  within_complete : (x : A) (b rest : List ℕ) (m : ℕ) → S x b → bounded (leb n (length b + m)) r (at (b ++ rest) (length b + m)) ≡ got x (at rest m)
  within_complete x b rest m s =
      let short : n ≤ length b = long x b s in
      rw (le-leb n (length b + m) (omega arith)) (l.complete x b rest m s)

  within_refusal : (c : Bool) (p : Place) (why : Why) (rest : List ℕ) → leb n p.left ≡ c → bounded c r p ≡ refused why rest
      → (t : List ℕ) × (p.input ≡ t ++ rest) × (length t ≤ p.left) × Excludes S why p.left t × (why ≡ End → rest ≡ [])
  within_refusal true p why rest f e = l.refusal p why rest e
  within_refusal false p why rest f e = ([], same_rests A p.input rest Limit why e, omega arith, subst (λ w. Excludes S w p.left []) (same_whys A p.input rest Limit why e) too_long, λ end. absurd (limit_not_ended why (same_whys A p.input rest Limit why e) end))
    where
      too_long : Excludes S Limit p.left []
      too_long x b u v s g spoken = let here : n ≤ length b = long x b s in let no_room : p.left < n = leb-false n p.left f in omega arith

  pub within_lawful : Lawful (within n r) S
  unfolding within
  within_lawful = record {
    sound = λ p x q e. within_sound (leb n p.left) p x q refl e;
    complete = within_complete;
    refusal = λ p why rest e. within_refusal (leb n p.left) p why rest refl e;
  }
