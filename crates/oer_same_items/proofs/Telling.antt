-- What is told of what is read in steps.
use Rattle.std.proofs.Common.{◌≡◌, Bool, true, false, Ok, Err, if◌then◌else◌, subst, sym, refl}
use Rattle.oer_module_text.specs.Errors.{Read, ◌>>=◌}
use Rattle.oer_same_items.specs.Told.{Tells}

pub record Gives {A : Type 0} (o : Bool) (P : A → Type 0) (p : Read A) : Type 0 where
  pub given : Tells o P p

pub bind : {o : Bool} {A B : Type 0} (P : A → Type 0) (Q : B → Type 0) (p : Read A) (f : A → Read B) → Gives o P p → ((x : A) → P x → Gives o Q (f x))
    → Gives o Q (p >>= f)
bind P Q (Ok x) f h k = k x h.given
bind P Q (Err e) f h k = record { given = h.given }

pub choose : {o : Bool} {A : Type 0} (P : A → Type 0) (b : Bool) (p q : Read A) → (b ≡ true → Gives o P p) → (b ≡ false → Gives o P q)
    → Gives o P (if b then p else q)
choose P true p q h k = h refl
choose P false p q h k = k refl

-- less is told
pub weaken : {o : Bool} {A : Type 0} (P Q : A → Type 0) (p : Read A) → Gives o P p → ((x : A) → P x → Q x) → Gives o Q p
weaken P Q (Ok x) h k = record { given = k x h.given }
weaken P Q (Err e) h k = record { given = h.given }

-- what is told of something that is the same
pub same_told : {o : Bool} {A : Type 0} (P : A → Type 0) (p q : Read A) → p ≡ q → Gives o P q → Gives o P p
same_told {o} P p q e h = subst (Gives o P) (sym e) h

-- it is rejected for a limit, if it is rejected
abbrev pub Passes : {A : Type 0} → Bool → Read A → Type 0
Passes {A} o p = Gives o (λ (x : A). Unit {0}) p

-- and what it is, if it is something
pub told : {o : Bool} {A : Type 0} (P : A → Type 0) (p : Read A) → Passes o p → ((x : A) → p ≡ Ok x → P x) → Gives o P p
told P (Ok x) h k = record { given = k x refl }
told P (Err e) h k = record { given = h.given }

-- it isn't ordinary, since something is there that ordinary ones don't have
pub unless : (o : Bool) → ¬ (o ≡ true) → o ≡ false
unless true h = absurd (h refl)
unless false h = refl
