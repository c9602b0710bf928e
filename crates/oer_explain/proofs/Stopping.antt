-- What is said of a text that is no JSON.
use Rattle.std.proofs.Common.{◌≡◌, ◌∙◌, ℕ, ◌≤◌, List, [], length, min, None, Result, Ok, Err, IfOk, String, Global, sym, ap, arith, string_bytes}
use Rattle.std.specs.Prelude.{codes}
use Rattle.serde_json.specs.Read.{read}
use Rattle.oer_model.specs.AsnType.{AsnType}
use Rattle.oer_explain.specs.Json.{text_notes, read_notes}
use Rattle.oer_explain.specs.Place.{notes_at}

pub no_json : {E : Type 0} (r : Result (String Global) E) (T : AsnType) (text octets : List ℕ) (at : ℕ) → read text ≡ None → octets
    ≡ text → at ≤ length octets
    → IfOk r (λ s. string_bytes s ≡ notes_at octets at (codes "the JSON reader stopped here") []) → IfOk r (λ s. (x : ℕ) ×
    (string_bytes s ≡ text_notes x T text))
no_json (Ok s) T text octets at none same within h =
    let e : min at (length text) ≡ at = least at (length octets) (length text) within (ap length same) in (
      at,
      h ∙ ap (λ o. notes_at o at (codes "the JSON reader stopped here") []) same ∙ ap (λ n. notes_at text n
          (codes "the JSON reader stopped here") []) (sym e)
          ∙ ap (read_notes at T text) (sym none),
    ) where
      least : (a b c : ℕ) → a ≤ b → b ≡ c → min a c ≡ a
      least a b c h e = omega arith
no_json (Err e) T text octets at none same within h = tt

pub at_none : {E : Type 0} (r : Result (String Global) E) (f : ℕ → List ℕ) → IfOk r (λ s. string_bytes s ≡ f 0) → IfOk r (λ s. (x : ℕ) × (string_bytes s ≡ f x))
at_none (Ok s) f h = (0, h)
at_none (Err e) f h = tt
