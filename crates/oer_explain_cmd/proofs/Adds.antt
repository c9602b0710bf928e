-- What is said of octets, and how it is added.
use Rattle.std.proofs.Common.{◌≡◌, ◌∙◌, ℕ, List, [], Option, Some, None, IfSome, Vec, Global, ap, inl, inr, subst, sym}
use Rattle.oer_places.specs.Input.{IsFront}
use Rattle.oer_cmd.proofs.Endings.{keeps_same}
use Rattle.oer_explain_cmd.specs.Saying.{AddsIf, AddsNotes, AddsSaid, SaysIf, items_in}

-- of octets, if there are some
pub of_some : (says : List ℕ → List ℕ → Type 0) (given : Option (Vec ℕ Global)) (octets : Option (List ℕ)) (v : Vec ℕ Global) (b text : List ℕ)
    → items_in given ≡ octets → given ≡ Some v → b ≡ v.items → says b text → SaysIf says octets text
of_some says given octets v b text is some same h =
    subst (λ x. SaysIf says x text) (ap Some same ∙ sym (ap items_in some) ∙ is) h

pub of_nothing : (says : List ℕ → List ℕ → Type 0) (given : Option (Vec ℕ Global)) (octets : Option (List ℕ)) (text : List ℕ)
    → items_in given ≡ octets → given ≡ None → text ≡ [] → SaysIf says octets text
of_nothing says given octets text is none h = subst (λ x. SaysIf says x text) (sym (ap items_in none) ∙ is) h

-- what was said is added
pub notes_added : (says : List ℕ → Type 0) (status : ℕ) (old new : Option (List ℕ)) (notes given : List ℕ) → given ≡ notes → says notes
    → AddsNotes given status old new → AddsSaid says status old new
notes_added says status old new notes given same h adds = inr (notes, h, subst (λ (l : List ℕ). AddsNotes l status old new) same adds)

-- memory was refused
pub none_added : (says : List ℕ → Type 0) (status : ℕ) (old : Option (List ℕ)) → AddsSaid says status old old
none_added says status old = inl (keeps_same old)

-- what is added of octets that were copied
pub front_added : (says : List ℕ → List ℕ → Type 0) (status : ℕ) (old new : Option (List ℕ)) (v : Vec ℕ Global) (b : List ℕ) → b ≡ v.items
    → AddsSaid (says b) status old new → AddsIf says (items_in (Some v)) status old new
front_added says status old new v b same h = subst (λ (l : List ℕ). AddsSaid (says l) status old new) same h

pub front_seen : (told : Option (List ℕ)) (front : Option (Vec ℕ Global)) → IfSome front (λ v. IsFront told v.items) → IfSome (items_in front) (IsFront told)
front_seen told None h = h
front_seen told (Some v) h = h
