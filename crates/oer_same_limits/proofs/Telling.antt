-- What is told of what is read in steps: what it is, or why it is rejected.
use Rattle.std.proofs.Common.{◌≡◌, Bool, true, false, Ok, Err, if◌then◌else◌, refl}
use Rattle.oer_module_text.specs.Errors.{Read, Why, ◌>>=◌}

-- such a thing, or rejected for such a reason
abbrev pub Holds : {A : Type 0} → (Why → Type 0) → (A → Type 0) → Read A → Type 0
Holds R P (Ok x) = P x
Holds R P (Err e) = R e.why

pub record Gives {A : Type 0} (R : Why → Type 0) (P : A → Type 0) (p : Read A) : Type 0 where
  pub given : Holds R P p

pub bind : {A B : Type 0} {R : Why → Type 0} (P : A → Type 0) (Q : B → Type 0) (p : Read A) (f : A → Read B) → Gives R P p
    → ((x : A) → P x → Gives R Q (f x)) → Gives R Q (p >>= f)
bind P Q (Ok x) f h k = k x h.given
bind P Q (Err e) f h k = record { given = h.given }

pub choose : {A : Type 0} {R : Why → Type 0} (P : A → Type 0) (b : Bool) (p q : Read A) → (b ≡ true → Gives R P p)
    → (b ≡ false → Gives R P q) → Gives R P (if b then p else q)
choose P true p q h k = h refl
choose P false p q h k = k refl

-- less is told
pub weaken : {A : Type 0} {R : Why → Type 0} (P Q : A → Type 0) (p : Read A) → Gives R P p → ((x : A) → P x → Q x) → Gives R Q p
weaken P Q (Ok x) h f = record { given = f x h.given }
weaken P Q (Err e) h f = record { given = h.given }
