-- A line as it is printed, whether it is UTF-8 or not.
use Rattle.std.proofs.Common.{◌≡◌, ◌∙◌, ℕ, List, Bool, true, false, Result, Ok, Err, String, Global, IfOk, IsUtf8, string_bytes, refl, sym, ap, subst}
use Rattle.std.specs.Prelude.{codes, if◌then◌else◌}
use Rattle.std.specs.Str.{is_utf8}
use Rattle.std.proofs.lemmas.Str.{IsUtf8-from_is_utf8, is_utf8-from_IsUtf8}
use Rattle.oer_places.specs.Quoting.{if_text}

broken_utf8 : (b : List ℕ) → (IsUtf8 b → ⊥) → is_utf8 b ≡ false
broken_utf8 b broken = by (is_utf8 b) refl where
  by : (t : Bool) → is_utf8 b ≡ t → t ≡ false
  by true e = absurd (broken (IsUtf8-from_is_utf8 b e))
  by false e = refl

pub text_shown : {E : Type 0} (f : List ℕ → List ℕ) (octets line text : List ℕ) (r : Result (String Global) E) → line ≡ octets → text ≡ line → IsUtf8 line
    → IfOk r (λ s. string_bytes s ≡ f text) → IfOk r (λ s. string_bytes s ≡ if_text octets f)
text_shown f octets line text (Ok s) same is utf8 h =
    h ∙ ap f (is ∙ same) ∙ sym (ap (λ (b : Bool). if b then f octets else codes "..") (is_utf8-from_IsUtf8 octets (subst IsUtf8 same utf8)))
text_shown f octets line text (Err e) same is utf8 h = tt

pub no_text_shown : {E : Type 0} (f : List ℕ → List ℕ) (octets line : List ℕ) (r : Result (String Global) E) → line ≡ octets → (IsUtf8 line → ⊥)
    → IfOk r (λ s. string_bytes s ≡ codes "..") → IfOk r (λ s. string_bytes s ≡ if_text octets f)
no_text_shown f octets line (Ok s) same broken h =
    h ∙ sym (ap (λ (b : Bool). if b then f octets else codes "..") (broken_utf8 octets (λ u. broken (subst IsUtf8 (sym same) u))))
no_text_shown f octets line (Err e) same broken h = tt
