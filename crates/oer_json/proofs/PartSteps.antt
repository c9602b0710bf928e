-- An object with one member.
use Rattle.std.proofs.Common.{◌≡◌, ℕ, List, [], ◌∷◌, length, Some, Ok, Err, String, Global, refl, ap, arith, string_bytes}
use Rattle.std.specs.List.{slice_get}
use Rattle.serde_json.specs.View.{members_view, view}
use Rattle.serde_json.specs.declared.value.Value as json
use Rattle.oer_json.specs.Take.{only_member}
use Rattle.oer_json.specs.declared.fault.JsonFault.TheVariants.{Kind}

abbrev Entry : Type 0
Entry = String Global × json.Value

pub not_only : (es : List Entry) (n : ℕ) → n ≡ length es → (n ≡ 1 → ⊥) → only_member (members_view es) ≡ Err Kind
not_only [] n e h = refl
not_only (x ∷ []) n e h = absurd (h e)
not_only (x ∷ y ∷ es) n e h = refl

pub only_one : (es : List Entry) (n : ℕ) (x : Entry) → n ≡ length es → n ≡ 1 → slice_get es 0 ≡ Some x → only_member (members_view es) ≡ Ok (string_bytes x.0, view x.1)
only_one [] n x e h k = absurd (omega arith)
only_one (y ∷ []) n x e h k = let s : y ≡ x = cc in ap (λ z. Ok (string_bytes z.0, view z.1)) s
only_one (y ∷ z ∷ es) n x e h k = absurd (omega arith)
