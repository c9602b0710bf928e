-- A property holds of a reading if it holds of what is read.
use Rattle.std.proofs.Common.{◌≡◌, Bool, true, false, Ok, Err, if◌then◌else◌, ◌∙◌, refl, subst, sym}
use Rattle.oer_module_text.specs.Errors.{Read, ◌>>=◌}

pub not_both : (b : Bool) → b ≡ true → b ≡ false → ⊥
not_both b e f = let c : true ≡ false = sym e ∙ f in cc

abbrev pub Told : {A : Type 0} → (A → Type 0) → Read A → Type 0
Told P (Ok x) = P x
Told P (Err e) = Unit {0}

pub record Holds {A : Type 0} (P : A → Type 0) (p : Read A) : Type 0 where
  pub told : Told P p

pub bind : {A B : Type 0} (P : A → Type 0) (Q : B → Type 0) (p : Read A) (f : A → Read B) → Holds P p → ((x : A) → P x → Holds Q (f x))
    → Holds Q (p >>= f)
bind P Q (Ok x) f h k = k x h.told
bind P Q (Err e) f h k = record { told = tt }

-- what comes first is known by an equation alone
pub once : {A B : Type 0} (Q : B → Type 0) (p : Read A) (f : A → Read B) → ((x : A) → p ≡ Ok x → Holds Q (f x)) → Holds Q (p >>= f)
once Q (Ok x) f k = k x refl
once Q (Err e) f k = record { told = tt }

pub choose : {A : Type 0} (P : A → Type 0) (b : Bool) (p q : Read A) → (b ≡ true → Holds P p) → (b ≡ false → Holds P q)
    → Holds P (if b then p else q)
choose P true p q h k = h refl
choose P false p q h k = k refl

pub given : {A : Type 0} (P : A → Type 0) (p : Read A) (x : A) → Holds P p → p ≡ Ok x → P x
given P p x h e = subst (Told P) e h.told

pub weaken : {A : Type 0} (P Q : A → Type 0) (p : Read A) → Holds P p → ((x : A) → P x → Q x) → Holds Q p
weaken P Q (Ok x) h k = record { told = k x h.told }
weaken P Q (Err e) h k = record { told = tt }

-- nothing is said
pub unknown : {A : Type 0} (p : Read A) → Holds (λ x. Unit {0}) p
unknown (Ok x) = record { told = tt }
unknown (Err e) = record { told = tt }
