-- What is said of octets that may be UTF-8.
use Rattle.std.proofs.Common.{◌≡◌, ◌∙◌, ℕ, List, Bool, true, false, Result, Ok, Err, IfOk, IsUtf8, refl, sym, ap}
use Rattle.std.specs.Prelude.{if◌then◌else◌}
use Rattle.std.specs.Str.{is_utf8}
use Rattle.std.proofs.lemmas.Str.{IsUtf8-from_is_utf8, is_utf8-from_IsUtf8}

-- they are
pub of_text : {A X E : Type 0} (view : X → A) (octets text : List ℕ) (f : List ℕ → A) (other : A) (r : Result X E) → text ≡ octets → IsUtf8 octets
    → IfOk r (λ x. view x ≡ f text) → IfOk r (λ x. view x ≡ (if is_utf8 octets then f octets else other))
of_text view octets text f other (Ok x) same utf8 h = h ∙ ap f same ∙ sym (ap (λ (b : Bool). if b then f octets else other) (is_utf8-from_IsUtf8 octets utf8))
of_text view octets text f other (Err e) same utf8 h = tt

broken : (octets : List ℕ) → (IsUtf8 octets → ⊥) → is_utf8 octets ≡ false
broken octets none = by (is_utf8 octets) refl where
  by : (t : Bool) → is_utf8 octets ≡ t → t ≡ false
  by true e = absurd (none (IsUtf8-from_is_utf8 octets e))
  by false e = refl

-- they aren't
pub of_none : {A : Type 0} (octets : List ℕ) (one other : A) → (IsUtf8 octets → ⊥) → other ≡ (if is_utf8 octets then one else other)
of_none octets one other none = sym (ap (λ (b : Bool). if b then one else other) (broken octets none))

pub of_octets : {A X E : Type 0} (view : X → A) (octets : List ℕ) (one other : A) (r : Result X E) → (IsUtf8 octets → ⊥)
    → IfOk r (λ x. view x ≡ other) → IfOk r (λ x. view x ≡ (if is_utf8 octets then one else other))
of_octets view octets one other (Ok x) none h = h ∙ of_none octets one other none
of_octets view octets one other (Err e) none h = tt
