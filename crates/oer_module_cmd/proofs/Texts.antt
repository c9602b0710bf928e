-- The text that octets are.
use Rattle.std.proofs.Common.{◌≡◌, ℕ, List, true, false, Bool, Ok, Err, String, Vec, Global, refl, subst, string_bytes}
use Rattle.std.proofs.lemmas.Str.{IsUtf8-string_bytes, is_utf8-from_IsUtf8, IsUtf8-from_is_utf8}
use Rattle.std.specs.Str.{IsUtf8, is_utf8}
use Rattle.oer_module_cmd.specs.Errors.{not_text}
use Rattle.oer_module_cmd.specs.Input.{text_in}

-- It is UTF-8.
pub text_made : (octets : Vec ℕ Global) (text : String Global) → string_bytes text ≡ octets.items → text_in octets.items ≡ Ok (string_bytes text)
text_made octets text same = subst (λ (l : List ℕ). text_in l ≡ Ok (string_bytes text)) same
    (rw (is_utf8-from_IsUtf8 (string_bytes text) (IsUtf8-string_bytes text)) refl)

no_text : (b : Bool) → (b ≡ true → ⊥) → b ≡ false
no_text true none = absurd (none refl)
no_text false none = refl

-- It isn't.
pub text_refused : (xs : List ℕ) → (IsUtf8 xs → ⊥) → text_in xs ≡ Err not_text
text_refused xs none = rw (no_text (is_utf8 xs) (λ e. none (IsUtf8-from_is_utf8 xs e))) refl
