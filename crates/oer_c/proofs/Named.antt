-- What holds of the type that was found holds by its Name.
use Rattle.std.proofs.Common.{◌≡◌, ℕ, List, Option, None, Some, subst}
use Rattle.std.specs.Str.{IsUtf8}
use Rattle.oer_model.specs.AsnType.{AsnType}
use Rattle.oer_notation.specs.Reading.{find}
use Rattle.oer_notation.specs.Views.{knowns}
use Rattle.oer_notation.specs.declared.types.Types.{Types}
use Rattle.oer_c.specs.Naming.{ByName, IfFound}

pub by_name : {A : Type 0} (s : A) (t : Types) (name : List ℕ) (T : AsnType) (P : AsnType → Type 0) (Q : ℕ → Type 0) → (IsUtf8 name → Some T ≡ find (knowns t) name) → ((IsUtf8 name → ⊥) → Some s ≡ None) → P T
    → ByName (Some t) name P Q
by_name s t name T P Q is bad holds = (λ text. subst (λ (o : Option AsnType). IfFound o P (Q 3)) (is text) holds, λ no. absurd (cc (bad no)))

if_found : (o : Option AsnType) (P P' : AsnType → Type 0) (Q Q' : Type 0) → ((T : AsnType) → P T → P' T) → (Q → Q') → IfFound o P Q
    → IfFound o P' Q'
if_found None P P' Q Q' p q h = q h
if_found (Some T) P P' Q Q' p q h = p T h

-- What follows of each type, and of each status, follows by the Name.
pub by_name_then : (o : Option Types) (name : List ℕ) (P P' : AsnType → Type 0) (Q Q' : ℕ → Type 0)
    → ((T : AsnType) → P T → P' T) → ((status : ℕ) → Q status → Q' status) → ByName o name P Q → ByName o name P' Q'
by_name_then None name P P' Q Q' p q h = q 2 h
by_name_then (Some t) name P P' Q Q' p q h =
    (λ text. if_found (find (knowns t) name) P P' (Q 3) (Q' 3) p (q 3) (h.0 text), λ no. q 3 (h.1 no))
