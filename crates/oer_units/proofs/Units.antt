-- Groups, open types, repetition.
use Rattle.std.proofs.Common.{◌≡◌, ℕ, zero, suc, ◌+◌, ◌-◌, ◌<◌, ◌≤◌, List, [], ◌∷◌, ◌++◌, length, take, drop, Bool, true, false, leb, refl, ap, sym, ◌∙◌, subst, append-nil, arith, length-append, le-leb, leb-true, leb-false, take-append-drop, length-take-le, take_at, drop_at}
use Rattle.oer_units.specs.Lawful.{Excludes, Lawful}
use Rattle.oer_units.specs.Reader.{Place, at, Outcome, got, refused, Reader, give, bind, guard, choose, group, group_by, named_inside, leave, leave_at, open_by, filled_by, times}
use Rattle.oer_units.specs.declared.fault.Why.{Why}
use Rattle.oer_units.specs.declared.fault.Why.TheVariants.{End, Limit, Window}
use Rattle.oer_units.proofs.Closure.{Then, is_one, give_lawful, refuse_lawful, bind_lawful, same_spellings, same_rests, same_whys, limit_not_ended, got_place, got_value, same_input, same_left}

module _ (n : ℕ) where
  abbrev Octets : List ℕ → List ℕ → Type 0
  Octets x b = (x ≡ b) × (length b ≡ n)

  group_sound : (c d : Bool) (p : Place) (x : List ℕ) (q : Place) → leb n p.left ≡ c → leb n (length p.input) ≡ d → group_by c d n p ≡ got x q
      → (b : List ℕ) × Octets x b × (p.input ≡ b ++ q.input) × (p.left ≡ length b + q.left)
  group_sound true true p x q f g e =
      let one : take n p.input ≡ x = got_value _ _ _ _ e in
      let next : at (drop n p.input) (p.left - n) ≡ q = got_place _ _ _ _ e in
      let fits : n ≤ p.left = leb-true n p.left f in
      let here : length (take n p.input) ≡ n = length-take-le n p.input (leb-true n (length p.input) g) in
      (take n p.input, (sym one, here), sym (take-append-drop n p.input) ∙ ap (λ w. take n p.input ++ w) (same_input _ _ next), omega (arith, same_left _ _ next))
  group_sound true false p x q f g e = absurd (cc)
  group_sound false d p x q f g e = absurd (cc)

  group_complete : (x b rest : List ℕ) (m : ℕ) → Octets x b → group_by (leb n (length b + m)) (leb n (length (b ++ rest))) n (at (b ++ rest) (length b + m)) ≡ got x (at rest m)
  group_complete x b rest m (e, f) =
      rw (le-leb n (length b + m) (omega arith), le-leb n (length (b ++ rest)) (omega (arith, length-append b rest)))
      (got_at (take_at b rest n f ∙ sym e) (drop_at b rest n f) (omega arith))
    where
      got_at : {x y r s : List ℕ} {k l : ℕ} → x ≡ y → r ≡ s → k ≡ l → got x (at r k) ≡ got y (at s l)
      got_at e f g = cc

  group_refusal : (c d : Bool) (p : Place) (why : Why) (rest : List ℕ) → leb n p.left ≡ c → leb n (length p.input) ≡ d → group_by c d n p ≡ refused why rest
      → (t : List ℕ) × (p.input ≡ t ++ rest) × (length t ≤ p.left) × Excludes Octets why p.left t × (why ≡ End → rest ≡ [])
  group_refusal false d p why rest f g e = (
    [],
    same_rests (List ℕ) p.input rest Limit why e,
    omega arith,
    subst (λ w. Excludes Octets w p.left []) (same_whys (List ℕ) p.input rest Limit why e) too_long,
    λ end. absurd (limit_not_ended why (same_whys (List ℕ) p.input rest Limit why e) end),
  )
    where
      too_long : Excludes Octets Limit p.left []
      too_long x b u v s h spoken = let no_room : p.left < n = leb-false n p.left f in let l = s.1 in omega arith
  group_refusal true false p why rest f g e = (p.input, sym (append-nil p.input) ∙ ap (λ w. p.input ++ w) (same_rests (List ℕ) [] rest End why e), (let fits : n ≤ p.left = leb-true n p.left f in let short : length p.input < n = leb-false n (length p.input) g in omega arith), subst (λ w. Excludes Octets w p.left p.input) (same_whys (List ℕ) [] rest End why e) too_short, λ end. sym (same_rests (List ℕ) [] rest End why e))
    where
      too_short : Excludes Octets End p.left p.input
      too_short x b u v s h spoken = let short : length p.input < n = leb-false n (length p.input) g in let l = s.1 in
          omega (arith, length-append b u, ap length h, length-append p.input v, ap length spoken)
  group_refusal true true p why rest f g e = absurd (cc)

  pub group_lawful : Lawful (group n) (λ x b. (x ≡ b) × (length b ≡ n))
  unfolding group
  group_lawful = record {
    sound = λ p x q e. group_sound (leb n p.left) (leb n (length p.input)) p x q refl refl e;
    complete = group_complete;
    refusal = λ p why rest e. group_refusal (leb n p.left) (leb n (length p.input)) p why rest refl refl e;
  }

-- The content of an open type has n octets, neither fewer nor more; so what excludes spellings of at most n octets excludes all.
module _ {A : Type 0} (n : ℕ) (r : Reader A) (S : A → List ℕ → Type 0) (l : Lawful r S) where
  abbrev Filling : A → List ℕ → Type 0
  Filling x b = S x b × (length b ≡ n)

  left_sound : (k : ℕ) (p : Place) (x y : A) (q s : Place) → n ≤ p.left → r (at p.input n) ≡ got y s → s.left ≡ k → leave_at y s.input (p.left - n) k ≡ got x q
      → (b : List ℕ) × Filling x b × (p.input ≡ b ++ q.input) × (p.left ≡ length b + q.left)
  left_sound zero p x y q s fits e none f =
      let a = l.sound (at p.input n) y s e in
      let one : y ≡ x = got_value _ _ _ _ f in
      let next : at s.input (p.left - n) ≡ q = got_place _ _ _ _ f in
      let all : n ≡ length a.0 + s.left = a.3 in
      (a.0, (subst (λ z. S z a.0) one a.1, omega arith), a.2 ∙ ap (λ w. a.0 ++ w) (same_input _ _ next), omega (arith, same_left _ _ next))
  left_sound (suc k) p x y q s fits e some f = absurd (cc)

  open_sound : (c : Bool) (p : Place) (x : A) (q : Place) (o : Outcome A) → leb n p.left ≡ c → r (at p.input n) ≡ o → open_by c n p o ≡ got x q
      → (b : List ℕ) × Filling x b × (p.input ≡ b ++ q.input) × (p.left ≡ length b + q.left)
  open_sound false p x q o f e g = absurd (cc)
  open_sound true p x q (got y s) f e g = left_sound s.left p x y q s (leb-true n p.left f) e refl g
  open_sound true p x q (refused why rest) f e g = absurd (cc)

  open_complete : (x : A) (b rest : List ℕ) (m : ℕ) → Filling x b → open_by (leb n (length b + m)) n (at (b ++ rest) (length b + m)) (r (at (b ++ rest) n)) ≡ got x (at rest m)
  open_complete x b rest m (s, e) =
      let inner : r (at (b ++ rest) n) ≡ got x (at rest 0) = ap (λ k. r (at (b ++ rest) k)) (omega arith) ∙ l.complete x b rest 0 s in
      rw (le-leb n (length b + m) (omega arith)) (ap (leave (length b + m - n)) inner ∙ ap (λ k. got x (at rest k)) (omega arith))

  inside_excluded : (why : Why) (m : ℕ) (t : List ℕ) → Excludes S why n t → Excludes Filling (named_inside why) m t
  inside_excluded End m t ex x b u v s e spoken = ex x b u v s.0 e spoken
  inside_excluded Limit m t ex x b u v s e spoken = let all = s.1 in ex x b u v s.0 e (omega arith)
  inside_excluded _ m t ex x b u v s e spoken = ex x b u v s.0 e tt

  inside_ended : (why : Why) → named_inside why ≡ End → why ≡ End
  inside_ended Limit e = absurd (cc)
  inside_ended End e = refl
  inside_ended _ e = e

  left_refusal : (k : ℕ) (p : Place) (y : A) (s : Place) (why : Why) (rest : List ℕ) → n ≤ p.left → r (at p.input n) ≡ got y s → s.left ≡ k → leave_at y s.input (p.left - n) k ≡ refused why rest
      → (t : List ℕ) × (p.input ≡ t ++ rest) × (length t ≤ p.left) × Excludes Filling why p.left t × (why ≡ End → rest ≡ [])
  left_refusal zero p y s why rest fits e none f = absurd (cc)
  left_refusal (suc k) p y s why rest fits e some f =
      let a = l.sound (at p.input n) y s e in
      let all : n ≡ length a.0 + s.left = a.3 in (
        a.0,
        a.2 ∙ ap (λ w. a.0 ++ w) (same_rests A s.input rest Window why f),
        omega arith,
        subst (λ w. Excludes Filling w p.left a.0) (same_whys A s.input rest Window why f) (not_filled a.0 a.1 all),
        λ end. absurd (window_not_ended why (same_whys A s.input rest Window why f) end),
      )
    where
      not_filled : (c : List ℕ) → S y c → n ≡ length c + s.left → Excludes Filling Window p.left c
      not_filled c sc all x b u v (sb, whole) h spoken =
          let one = is_one l x y b c u v sb sc h in
          omega (arith, ap length one.1)

      window_not_ended : (v : Why) → Window ≡ v → v ≡ End → ⊥
      window_not_ended v e f = cc

  open_refusal : (c : Bool) (p : Place) (why : Why) (rest : List ℕ) (o : Outcome A) → leb n p.left ≡ c → r (at p.input n) ≡ o → open_by c n p o ≡ refused why rest
      → (t : List ℕ) × (p.input ≡ t ++ rest) × (length t ≤ p.left) × Excludes Filling why p.left t × (why ≡ End → rest ≡ [])
  open_refusal false p why rest o f e g = (
    [],
    same_rests A p.input rest Limit why g,
    omega arith,
    subst (λ w. Excludes Filling w p.left []) (same_whys A p.input rest Limit why g) too_long,
    λ end. absurd (limit_not_ended why (same_whys A p.input rest Limit why g) end),
  )
    where
      too_long : Excludes Filling Limit p.left []
      too_long x b u v s h spoken = let no_room : p.left < n = leb-false n p.left f in let l = s.1 in omega arith
  open_refusal true p why rest (got y s) f e g = left_refusal s.left p y s why rest (leb-true n p.left f) e refl g
  open_refusal true p why rest (refused w r1) f e g =
      let d = l.refusal (at p.input n) w r1 e in
      let within_bound : length d.0 ≤ n = d.2 in
      let fits : n ≤ p.left = leb-true n p.left f in
      let ends = d.4 in
      let same : named_inside w ≡ why = same_whys A r1 rest (named_inside w) why g in
      let rests : r1 ≡ rest = same_rests A r1 rest (named_inside w) why g in (
        d.0,
        d.1 ∙ ap (λ w. d.0 ++ w) rests,
        omega arith,
        subst (λ w. Excludes Filling w p.left d.0) same (inside_excluded w p.left d.0 d.3),
        λ end. sym rests ∙ ends (inside_ended w (same ∙ end)),
      )

  pub open_lawful : Lawful (filled_by n r) (λ x b. S x b × (length b ≡ n))
  unfolding filled_by
  open_lawful = record {
    sound = λ p x q e. open_sound (leb n p.left) p x q (r (at p.input n)) refl refl e;
    complete = open_complete;
    refusal = λ p why rest e. open_refusal (leb n p.left) p why rest (r (at p.input n)) refl refl e;
  }

-- the spellings of a list of n values
abbrev pub Each : {A : Type 0} → (A → List ℕ → Type 0) → ℕ → List A → List ℕ → Type 0
Each S zero xs b = (xs ≡ []) × (b ≡ [])
Each {A} S (suc n) xs b = (x : A) × (rest : List A) × (b1 : List ℕ) × (b2 : List ℕ) × (xs ≡ x ∷ rest) × (b ≡ b1 ++ b2) × S x b1 × Each S n rest b2

pub times_lawful : {A : Type 0} (r : Reader A) (S : A → List ℕ → Type 0) → Lawful r S → (n : ℕ) → Lawful (times n r) (Each S n)
times_lawful r S l zero = give_lawful []
times_lawful {A} r S l (suc n) =
    let rest : (x : A) → Lawful (bind (times n r) (λ xs. give (x ∷ xs))) (Then (Each S n) (λ xs ys b. (ys ≡ x ∷ xs) × (b ≡ [])))
    = λ x. bind_lawful (times n r) (λ xs. give (x ∷ xs)) (Each S n) (λ xs ys b. (ys ≡ x ∷ xs) × (b ≡ [])) (times_lawful r S l n) (λ xs. give_lawful (x ∷ xs)) in
    same_spellings (bind_lawful r (λ x. bind (times n r) (λ xs. give (x ∷ xs))) S (λ x. Then (Each S n) (λ xs ys b. (ys ≡ x ∷ xs) × (b ≡ []))) l rest)
    (λ xs b (x, b1, b2, s1, (ys, c1, c2, s2, s3, e), f). (x, ys, b1, c1, s3.0, f ∙ ap (λ w. b1 ++ w) (e ∙ ap (λ w. c1 ++ w) s3.1 ∙ append-nil c1), s1, s2))
    (λ xs b (x, ys, b1, b2, e, f, s1, s2). (x, b1, b2, s1, (ys, b2, [], s2, (e, refl), sym (append-nil b2)), f))

pub choose_lawful : {A : Type 0} (c : Bool) (r s : Reader A) (S : A → List ℕ → Type 0) → (c ≡ true → Lawful r S) → (c ≡ false → Lawful s S) → Lawful (choose c r s) S
choose_lawful true r s S f g = f refl
choose_lawful false r s S f g = g refl

-- any spelling says that the test holds
pub guard_lawful : {A : Type 0} (c : Bool) (why : Why) (r : Reader A) (S : A → List ℕ → Type 0) → (why ≡ End → ⊥) → (c ≡ true → Lawful r S) → ((x : A) (b : List ℕ) → S x b → c ≡ true) → Lawful (guard c why r) S
guard_lawful true why r S not_end f g = f refl
guard_lawful false why r S not_end f g = refuse_lawful why S not_end (λ x b s. absurd (false_true (g x b s)))
  where
    false_true : false ≡ true → ⊥
    false_true e = cc

-- a reader whose value is made into another
pub mapped_lawful : {A B : Type 0} (f : A → B) (r : Reader A) (S : A → List ℕ → Type 0) → Lawful r S → Lawful (bind r (λ x. give (f x))) (λ y b. (x : A) × (y ≡ f x) × S x b)
mapped_lawful {A} {B} f r S l =
    same_spellings (bind_lawful r (λ x. give (f x)) S (λ x y b. (y ≡ f x) × (b ≡ [])) l (λ x. give_lawful (f x)))
    (λ y b (x, b1, b2, s1, s2, e). (x, s2.0, subst (λ w. S x w) (sym (e ∙ ap (λ w. b1 ++ w) s2.1 ∙ append-nil b1)) s1))
    (λ y b (x, e, s). (x, b, [], s, (e, refl), sym (append-nil b)))

pub tested_lawful : {A : Type 0} (c : Bool) (why : Why) (r : Reader A) (S : A → List ℕ → Type 0) → (why ≡ End → ⊥) → Lawful r S → Lawful (guard c why r) (λ x b. (c ≡ true) × S x b)
tested_lawful c why r S not_end l = guard_lawful c why r (λ x b. (c ≡ true) × S x b) not_end
    (λ t. same_spellings l (λ x b s. (t, s)) (λ x b s. s.1))
    (λ x b s. s.0)
