-- Two readings are alike by a relation if it holds of what they give, where both give something.
use Rattle.std.proofs.Common.{◌≡◌, Bool, true, false, Ok, Err, if◌then◌else◌, subst, refl}
use Rattle.oer_module_text.specs.Errors.{Error, Read, ◌>>=◌}
use Rattle.oer_module_text.specs.Room.{Room}

abbrev pub Related : {A : Type 0} → (A → A → Type 0) → Read A → Read A → Type 0
Related R (Ok x) (Ok y) = R x y
Related R (Ok x) (Err e) = Unit {0}
Related R (Err e) q = Unit {0}

pub record Alike {A : Type 0} (R : A → A → Type 0) (p q : Read A) : Type 0 where
  pub related : Related R p q

-- the same, each with a room
abbrev pub Same : {A : Type 0} → A × Room → A × Room → Type 0
Same x y = x.0 ≡ y.0

right_fails : {A : Type 0} (R : A → A → Type 0) (p : Read A) (e : Error) → Alike R p (Err e)
right_fails R (Ok x) e = record { related = tt }
right_fails R (Err d) e = record { related = tt }

pub bind : {A B : Type 0} (R : A → A → Type 0) (S : B → B → Type 0) (p q : Read A) (f g : A → Read B) → Alike R p q
    → ((x y : A) → R x y → Alike S (f x) (g y)) → Alike S (p >>= f) (q >>= g)
bind R S (Ok x) (Ok y) f g a k = k x y a.related
bind R S (Ok x) (Err e) f g a k = right_fails S (f x) e
bind R S (Err e) q f g a k = record { related = tt }

-- both begin with the same
pub once : {A B : Type 0} (S : B → B → Type 0) (p : Read A) (f g : A → Read B) → ((x : A) → p ≡ Ok x → Alike S (f x) (g x))
    → Alike S (p >>= f) (p >>= g)
once S (Ok x) f g k = k x refl
once S (Err e) f g k = record { related = tt }

-- what comes first matters to neither
pub behind : {A B : Type 0} (S : B → B → Type 0) (p q : Read A) (f g : A → Read B) → ((x y : A) → Alike S (f x) (g y))
    → Alike S (p >>= f) (q >>= g)
behind S (Ok x) (Ok y) f g k = k x y
behind S (Ok x) (Err e) f g k = right_fails S (f x) e
behind S (Err e) q f g k = record { related = tt }

-- what is read first on the left
pub ahead : {A B : Type 0} (S : B → B → Type 0) (p : Read A) (f : A → Read B) (q : Read B) → ((x : A) → Alike S (f x) q) → Alike S (p >>= f) q
ahead S (Ok x) f q k = k x
ahead S (Err e) f q k = record { related = tt }

pub choose : {A : Type 0} (R : A → A → Type 0) (b : Bool) (p p' q q' : Read A) → Alike R p p' → Alike R q q'
    → Alike R (if b then p else q) (if b then p' else q')
choose R true p p' q q' a c = a
choose R false p p' q q' a c = c

pub weaken : {A : Type 0} (R S : A → A → Type 0) (p q : Read A) → Alike R p q → ((x y : A) → R x y → S x y) → Alike S p q
weaken R S (Ok x) (Ok y) a k = record { related = k x y a.related }
weaken R S (Ok x) (Err e) a k = record { related = tt }
weaken R S (Err e) q a k = record { related = tt }

pub given : {A : Type 0} (R : A → A → Type 0) (p q : Read A) (x y : A) → Alike R p q → p ≡ Ok x → q ≡ Ok y → R x y
given R p q x y a e f = subst (λ d. Related R (Ok x) d) f (subst (λ c. Related R c q) e a.related)

-- the right is the same at an equal argument
pub along : {A B : Type 0} (R : B → B → Type 0) (p : Read B) (f : A → Read B) (a b : A) → a ≡ b → Alike R p (f a) → Alike R p (f b)
along R p f a b e h = subst (λ c. Alike R p (f c)) e h
