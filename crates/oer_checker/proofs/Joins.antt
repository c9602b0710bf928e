-- Steps one after another: what each answers, the whole answers.
use Rattle.std.proofs.Common.{◌≡◌, ℕ, zero, suc, Bool, true, false, ◌&&◌, List, [], ◌∷◌, drop, refl, sym, subst, ap, ◌∙◌}
use Rattle.oer_units.specs.declared.fault.Why.{Why}
use Rattle.oer_units.specs.Reader.{Outcome, Place, Reader, bind, give, got, guard, refuse, refused, then_read}
use Rattle.oer_model.specs.Checking.{and_also, both, judge, judged}
use Rattle.oer_checker.specs.Steps.{got_both, and_after, between}

pub bind_got : {A B : Type 0} (r : Reader A) (k : A → Reader B) (p q : Place) (x : A) (o : Outcome B) → got x q ≡ r p → o ≡ k x q → o ≡ bind r k p
unfolding bind
bind_got r k p q x o e h = h ∙ ap (then_read k) e

pub bind_stop : {A B : Type 0} (r : Reader A) (k : A → Reader B) (p : Place) (why : Why) (rest : List ℕ) → refused why rest ≡ r p → refused why rest ≡ bind r k p
unfolding bind
bind_stop r k p why rest e = ap (then_read k) e

pub judged_got : {A : Type 0} (test : A → List ℕ → Bool) (r : Reader A) (p q : Place) (x : A) → got x q ≡ r p → got_both x (test x (between p q)) q ≡ judged test r p
unfolding judged
judged_got test r p q x e = ap (judge test p) e

pub judged_stop : {A : Type 0} (test : A → List ℕ → Bool) (r : Reader A) (p : Place) (why : Why) (rest : List ℕ) → refused why rest ≡ r p → refused why rest ≡ judged test r p
unfolding judged
judged_stop test r p why rest e = ap (judge test p) e

pub guard_no : {A : Type 0} (c : Bool) (why : Why) (r : Reader A) (p : Place) → c ≡ false → refused why p.input ≡ guard c why r p
unfolding refuse
guard_no c why r p is = rw is refl

pub guard_yes : {A : Type 0} (c : Bool) (why : Why) (r : Reader A) (p : Place) (o : Outcome A) → c ≡ true → o ≡ r p → o ≡ guard c why r p
guard_yes c why r p o is e = rw is e

pub give_got : {A : Type 0} (x : A) (p : Place) → got x p ≡ give x p
unfolding give
give_got x p = refl

pub and_true : (f : Bool) → (f && true) ≡ f
and_true true = refl
and_true false = refl

pub and_false : (f : Bool) → (f && false) ≡ false
and_false true = refl
and_false false = refl

and_assoc : (a b c : Bool) → (a && (b && c)) ≡ (a && b && c)
and_assoc true b c = refl
and_assoc false b c = refl

pub and_all : (o : Outcome Bool) → and_after true o ≡ o
and_all (got f q) = refl
and_all (refused why rest) = refl

pub and_twice : (a f : Bool) (o : Outcome Bool) → and_after a (and_after f o) ≡ and_after (a && f) o
and_twice a f (got g q) = ap (λ (x : Bool). got x q) (and_assoc a f g)
and_twice a f (refused why rest) = refl

pub also_is : (f : Bool) (c : Reader Bool) (p : Place) → and_also f c p ≡ and_after f (c p)
unfolding and_also bind give
also_is f c p = cases (c p) where
  cases : (o : Outcome Bool) → then_read (λ g q. got (f && g) q) o ≡ and_after f o
  cases (got g q) = refl
  cases (refused why rest) = refl

pub both_got : (c d : Reader Bool) (p q : Place) (f : Bool) → got f q ≡ c p → and_after f (d q) ≡ both c d p
unfolding both
both_got c d p q f e = bind_got c (λ g. and_also g d) p q f (and_after f (d q)) e (sym (also_is f d q))

pub both_stop : (c d : Reader Bool) (p : Place) (why : Why) (rest : List ℕ) → refused why rest ≡ c p → refused why rest ≡ both c d p
unfolding both
both_stop c d p why rest e = bind_stop c (λ g. and_also g d) p why rest e

-- ---- in a loop: acc is what was found so far

pub more_got : (c d : Reader Bool) (p q : Place) (acc f : Bool) (whole : Outcome Bool) → and_after acc (both c d p) ≡ whole → got f q ≡ c p → and_after (acc && f) (d q) ≡ whole
more_got c d p q acc f whole inv e = sym (and_twice acc f (d q)) ∙ ap (and_after acc) (both_got c d p q f e) ∙ inv

pub more_stop : (c d : Reader Bool) (p : Place) (acc : Bool) (why : Why) (rest : List ℕ) (whole : Outcome Bool) → and_after acc (both c d p) ≡ whole → refused why rest ≡ c p → refused why rest ≡ whole
more_stop c d p acc why rest whole inv e = ap (and_after acc) (both_stop c d p why rest e) ∙ inv

pub no_more : (p : Place) (acc : Bool) (whole : Outcome Bool) → and_after acc (give true p) ≡ whole → got acc p ≡ whole
unfolding give
no_more p acc whole inv = ap (λ (f : Bool). got f p) (sym (and_true acc)) ∙ inv

-- ---- what is kept from a place of a list on

pub kept_at : {A : Type 0} (K : List A → Type 0) → ((x : A) (xs : List A) → K (x ∷ xs) → K xs) → (xs : List A) (i : ℕ) {ys : List A} → drop i xs ≡ ys → K xs → K ys
kept_at {A} K step xs i is k = subst K is (from xs i k) where
  from : (xs : List A) (i : ℕ) → K xs → K (drop i xs)
  from xs zero k = k
  from [] (suc i) k = k
  from (x ∷ xs) (suc i) k = from xs i (step x xs k)

-- ---- whether two hold, by the branches of a test of the first

pub then_and : {f g x : Bool} → f ≡ true → x ≡ g → x ≡ (f && g)
then_and is e = rw is e

pub else_and : {f x : Bool} (g : Bool) → f ≡ false → x ≡ f → x ≡ (f && g)
else_and g is e = e ∙ rw is refl

pub then_got : {f g : Bool} {p : Place} {o : Outcome Bool} → f ≡ true → got (f && g) p ≡ o → got g p ≡ o
then_got {f} {g} {p} {o} is h = subst (λ (x : Bool). got (x && g) p ≡ o) is h

pub else_got : {f : Bool} (g : Bool) {p : Place} {o : Outcome Bool} → f ≡ false → got (f && g) p ≡ o → got f p ≡ o
else_got {f} g {p} is h = ap (λ (x : Bool). got x p) (else_and g is refl) ∙ h
