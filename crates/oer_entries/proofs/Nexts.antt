-- What comes next, step by step through components and bits.
use Rattle.std.proofs.Common.{◌≡◌, ◌<◌, ◌≤◌, ◌+◌, ℕ, zero, suc, Bool, true, false, not, ◌&&◌, ◌||◌, leb, if◌then◌else◌, List, [], ◌∷◌, length, drop, take, get_or, min, ⊎_elim, Some, None, refl, sym, ap, ap₂, ◌∙◌, arith, add-one, drop-cons}
use Rattle.std.proofs.lemmas.Bool.{le-leb}
use Rattle.std.proofs.lemmas.Bool.Decides.{leb_tells}
use Rattle.oer_model.specs.AsnType.{Need, default, may, must}
use Rattle.oer_model.specs.Bits.{first_bit, later_bits}
use Rattle.oer_model.specs.SharedSteps.{bits_left, is_there}
use Rattle.oer_values.specs.ShapeView.{fields_of, need_of}
use Rattle.oer_values.specs.declared.shape.Field.{Field}
use Rattle.oer_parts.specs.declared.step.Step.TheVariants.{Addition, Component}
use Rattle.oer_checker.proofs.BitLists.{drop_past}
use Rattle.oer_entries.specs.Next.{addition_from, component_from, has_bit}

pub there : (need : Need) (s : List Bool) → (not (has_bit need) || first_bit s) ≡ is_there need s
there must s = refl
there may s = refl
there (default v) s = refl

later_drop : (p : ℕ) (s : List Bool) → later_bits (drop p s) ≡ drop (suc p) s
later_drop zero [] = refl
later_drop zero (x ∷ s) = refl
later_drop (suc p) [] = refl
later_drop (suc p) (x ∷ s) = later_drop p s

-- the bits that are left after a component
left_after : (need : Need) (p : ℕ) (s : List Bool) → bits_left need (drop p s) ≡ drop (if has_bit need then suc p else p) s
left_after must p s = refl
left_after may p s = later_drop p s
left_after (default v) p s = later_drop p s

-- the fields from the one with the number i on
from_here : (root : List Field) (i : ℕ) (f : Field) → i < length root → f ≡ get_or root i f → drop i root ≡ f ∷ drop (suc i) root
from_here root i f less is = drop-cons root i f less ∙ ap (λ (x : Field). x ∷ drop (suc i) root) (sym is)

pub component_here : (root : List Field) (i from : ℕ) (f : Field) (s : List Bool) → i < length root → f ≡ get_or root i f → is_there (need_of f.need) s ≡ true → from ≤ i
    → component_from i from (fields_of (drop i root)) s ≡ Some (Component i)
component_here root i from f s less is here le =
    ap (λ (l : List Field). component_from i from (fields_of l) s) (from_here root i f less is)
    ∙ ap₂ (λ (a b : Bool). if a && b then Some (Component i) else component_from (suc i) from (fields_of (drop (suc i) root)) (bits_left (need_of f.need) s)) here (le-leb from i le)

-- past a component
pub component_past : (root : List Field) (i from p : ℕ) (f : Field) (s : List Bool) → i < length root → f ≡ get_or root i f → (is_there (need_of f.need) (drop p s) && leb from i) ≡ false
    → component_from (i + 1) from (fields_of (drop (i + 1) root)) (drop (if has_bit (need_of f.need) then suc p else p) s) ≡ component_from i from (fields_of (drop i root)) (drop p s)
component_past root i from p f s less is other =
    ap (λ (k : ℕ). component_from k from (fields_of (drop k root)) (drop (if has_bit (need_of f.need) then suc p else p) s)) (add-one i)
    ∙ ap (component_from (suc i) from (fields_of (drop (suc i) root))) (sym (left_after (need_of f.need) p s))
    ∙ ap (λ (a : Bool). if a then Some (Component i) else component_from (suc i) from (fields_of (drop (suc i) root)) (bits_left (need_of f.need) (drop p s))) (sym other)
    ∙ ap (λ (l : List Field). component_from i from (fields_of l) (drop p s)) (sym (from_here root i f less is))

pub no_component : (root : List Field) (i from : ℕ) (s : List Bool) → length root ≤ i → None ≡ component_from i from (fields_of (drop i root)) s
no_component root i from s le = ap (λ (l : List Field). component_from i from (fields_of l) s) (sym (drop_past i root le))

-- ---- additions

set_here : (i : ℕ) (s : List Bool) → first_bit s ≡ true → addition_from i s ≡ Some (Addition i)
set_here i [] e = absurd (cc)
set_here i (x ∷ s) e = ap (λ (b : Bool). if b then Some (Addition i) else addition_from (suc i) s) e

pub addition_here : (i : ℕ) (s : List Bool) → first_bit (drop i s) ≡ true → Some (Addition i) ≡ addition_from i (drop i s)
addition_here i s e = sym (set_here i (drop i s) e)

clear_here : (i : ℕ) (s : List Bool) → first_bit s ≡ false → addition_from i s ≡ addition_from (suc i) (later_bits s)
clear_here i [] e = refl
clear_here i (x ∷ s) e = ap (λ (b : Bool). if b then Some (Addition i) else addition_from (suc i) s) e

pub addition_past : (i : ℕ) (s : List Bool) → first_bit (drop i s) ≡ false → addition_from (i + 1) (drop (i + 1) s) ≡ addition_from i (drop i s)
addition_past i s e =
    ap (λ (k : ℕ). addition_from k (drop k s)) (add-one i) ∙ ap (addition_from (suc i)) (sym (later_drop i s)) ∙ sym (clear_here i (drop i s) e)

pub no_addition : (i : ℕ) (s : List Bool) → length s ≤ i → None ≡ addition_from i (drop i s)
no_addition i s le = ap (addition_from i) (sym (drop_past i s le))

-- ---- bits in use

pub bit_kept : (i n : ℕ) (s : List Bool) → i < n → first_bit (drop i s) ≡ first_bit (drop i (take n s))
bit_kept i zero s less = absurd (omega arith)
bit_kept zero (suc n) [] less = refl
bit_kept (suc i) (suc n) [] less = refl
bit_kept zero (suc n) (x ∷ s) less = refl
bit_kept (suc i) (suc n) (x ∷ s) less = bit_kept i n s (omega arith)

-- ---- one round of a loop over components

-- the number of the next bit, where that doesn't pass what a machine counts
capped : (i p : ℕ) (root : List Field) (from : ℕ) (s : List Bool) → p ≤ i + 1 → length root ≤ 18446744073709551615
    → component_from (suc i) from (fields_of (drop (suc i) root)) (drop (min (p + 1) 18446744073709551615) s)
    ≡ component_from (suc i) from (fields_of (drop (suc i) root)) (drop (suc p) s)
capped i p root from s near long = ⊎_elim in_range past (leb_tells (p + 1) 18446744073709551615) where
  in_range : (leb (p + 1) 18446744073709551615 ≡ true) × (p + 1 ≤ 18446744073709551615)
      → component_from (suc i) from (fields_of (drop (suc i) root)) (drop (min (p + 1) 18446744073709551615) s)
      ≡ component_from (suc i) from (fields_of (drop (suc i) root)) (drop (suc p) s)
  in_range (e, le) = let same : min (p + 1) 18446744073709551615 ≡ suc p = omega (arith, le) in
      ap (λ (k : ℕ). component_from (suc i) from (fields_of (drop (suc i) root)) (drop k s)) same

  past : (leb (p + 1) 18446744073709551615 ≡ false) × (18446744073709551615 < p + 1)
      → component_from (suc i) from (fields_of (drop (suc i) root)) (drop (min (p + 1) 18446744073709551615) s)
      ≡ component_from (suc i) from (fields_of (drop (suc i) root)) (drop (suc p) s)
  past (e, less) = let none : drop (suc i) root ≡ [] = drop_past (suc i) root (omega (arith, less, near, long)) in
      ap (λ (l : List Field). component_from (suc i) from (fields_of l) (drop (min (p + 1) 18446744073709551615) s)) none
      ∙ sym (ap (λ (l : List Field). component_from (suc i) from (fields_of l) (drop (suc p) s)) none)

next_place : (b : Bool) (i p : ℕ) (root : List Field) (from : ℕ) (s : List Bool) → p ≤ i + 1 → length root ≤ 18446744073709551615
    → component_from (suc i) from (fields_of (drop (suc i) root)) (drop (if b then min (p + 1) 18446744073709551615 else p) s)
    ≡ component_from (suc i) from (fields_of (drop (suc i) root)) (drop (if b then suc p else p) s)
next_place true i p root from s near long = capped i p root from s near long
next_place false i p root from s near long = refl

pub component_next : (root : List Field) (i from p q : ℕ) (f : Field) (s : List Bool) (present : Bool) → i < length root → length root ≤ 18446744073709551615 → f ≡ get_or root i f
    → present ≡ is_there (need_of f.need) (drop p s) → (present && leb from i) ≡ false → p ≤ i + 1 → q ≡ (if has_bit (need_of f.need) then min (p + 1) 18446744073709551615 else p)
    → component_from (i + 1) from (fields_of (drop (i + 1) root)) (drop q s) ≡ component_from i from (fields_of (drop i root)) (drop p s)
component_next root i from p q f s present less long is there_is other near q_is =
    let b = has_bit (need_of f.need) in
    ap₂ (λ (k : ℕ) (j : ℕ). component_from k from (fields_of (drop k root)) (drop j s)) (add-one i) q_is
    ∙ next_place b i p root from s near long
    ∙ ap (λ (k : ℕ). component_from k from (fields_of (drop k root)) (drop (if b then suc p else p) s)) (sym (add-one i))
    ∙ component_past root i from p f s less is (ap (λ (x : Bool). x && leb from i) (sym there_is) ∙ other)
