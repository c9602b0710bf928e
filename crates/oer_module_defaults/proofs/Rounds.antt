-- An error in a round of a loop is that of the loop.
use Rattle.std.proofs.Common.{◌≡◌, ℕ, suc, ◌<◌, List, length, drop, get_or, drop-cons, map, Err, ap, sym, ◌∙◌}
use Rattle.oer_model.specs.AsnValue.{AsnValue}
use Rattle.oer_module_names.specs.declared.error.Place.{Place}
use Rattle.oer_module_syntax.specs.Tree.{Tree, element_of, elements_from}
use Rattle.oer_module_syntax.specs.declared.tree.Element.{Element as RawElement}
use Rattle.oer_module_terms.specs.Trees.{Value}
use Rattle.oer_module_text.specs.Errors.{Error, Read, ◌>>=◌}
use Rattle.oer_module_text.specs.Room.{Room}
use Rattle.oer_module_values.specs.Types.{TypeIn}
use Rattle.oer_module_defaults.specs.Components.{Component, behind, element_at, elements_at}
use Rattle.oer_module_defaults.specs.Defaults.{filled_at, slot_by}
use Rattle.oer_module_defaults.specs.Filled.{Filled}
use Rattle.oer_module_defaults.specs.Views.{slot_of}
use Rattle.oer_module_defaults.specs.declared.component.Listing.{Listing}
use Rattle.oer_module_defaults.specs.declared.slot.Slot.{Slot as RawSlot}

-- over elements, where so are those of COMPONENTS OF
pub elements_err : (included : Place → Tree → List Component → Room → Read (List Component × Room)) (l : Listing) (xs : List RawElement) (i : ℕ)
    (found : List Component) (r : Room) (whole : Read (List Component × Room))
    → whole ≡ elements_at included l (elements_from (map element_of (drop i xs))) found r
    → (x : RawElement) {e : Error} → i < length xs → x ≡ get_or xs i x → element_at included l (element_of x) found r ≡ Err e → whole ≡ Err e
elements_err included l xs i found r whole h x less is fails =
    h ∙ ap (λ ys. elements_at included l (elements_from (map element_of ys)) found r) (drop-cons xs i x less)
    ∙ ap (λ y. element_at included l (element_of y) found r
    >>= λ q. elements_at included (behind l (element_of y)) (elements_from (map element_of (drop (suc i) xs))) q.0 q.1) (sym is)
    ∙ ap (λ o. o >>= λ q. elements_at included (behind l (element_of x)) (elements_from (map element_of (drop (suc i) xs))) q.0 q.1) fails

-- over components, where so are values in others
pub filled_err : (value : TypeIn → ℕ → Value → Room → Read (AsnValue × Room)) (m : ℕ) (xs : List RawSlot) (i : ℕ) (f : Filled) (r : Room) (whole : Read (Filled × Room))
    → whole ≡ filled_at value m (map slot_of (drop i xs)) f r
    → (x : RawSlot) {e : Error} → i < length xs → x ≡ get_or xs i x → slot_by value m (slot_of x).component (slot_of x).value f r ≡ Err e
    → whole ≡ Err e
filled_err value m xs i f r whole h x less is fails =
    h ∙ ap (λ ys. filled_at value m (map slot_of ys) f r) (drop-cons xs i x less)
    ∙ ap (λ y. slot_by value m (slot_of y).component (slot_of y).value f r >>= λ q. filled_at value m (map slot_of (drop (suc i) xs)) q.0 q.1) (sym is)
    ∙ ap (λ o. o >>= λ q. filled_at value m (map slot_of (drop (suc i) xs)) q.0 q.1) fails
