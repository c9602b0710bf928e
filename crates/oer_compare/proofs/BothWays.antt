-- Types that only add to each other are the same.
use Rattle.std.proofs.Common.{◌≡◌, ℕ, suc, List, [], ◌∷◌, ◌++◌, Bool, true, false, None, refl, sym, ap, ap₂, subst, ◌∙◌}
use Rattle.std.proofs.lemmas.Bool.{false≢true}
use Rattle.oer_model.proofs.filling.Same.{same_list-true}
use Rattle.oer_model.specs.LeafType.{LeafType, NamedNumber, bit_string, boolean, content, enumerated, integer, null}
use Rattle.oer_model.specs.AsnType.{Additions, Alternatives, AsnType, Fields, addition, alternative, choice, extensible_sequence, field, later, leaf, no_additions, no_alternatives, no_fields, sequence, sequence_of}
use Rattle.oer_model.specs.Canonical.{same_bool, same_list}
use Rattle.oer_compare.specs.declared.difference.Aspect.TheVariants.{Items, Marker, Name, Presence, Size}
use Rattle.oer_compare.specs.Difference.{at_addition, at_alternative, at_component, at_element, additions_differ, alternative_differs, alternatives_differ, component_differs, differ, fields_differ, here, inside, items_extend, leaf_aspect, named_differs, same_item, same_need, same_size, unless}
use Rattle.oer_compare.specs.Extends.{AdditionsExtend, AlternativesExtend, AreFurther, Extends, ExtendsLeaf, FieldsExtend}
use Rattle.oer_compare.specs.Laws.{ExtendsBothWays}
use Rattle.oer_compare.proofs.Complete.{alternative_to, from_extends, here_none, inside_none, leaf_to, or_none, sized, some_none, then_none, unless_none}
use Rattle.oer_compare.proofs.Sames.{and_parts, same_bool-true, same_item-true, same_need-true}

same_items : (xs ys : List NamedNumber) → items_extend true xs ys ≡ true → items_extend true ys xs ≡ true → xs ≡ ys
same_items [] [] e f = refl
same_items [] (y ∷ ys) e f = absurd (false≢true f)
same_items (x ∷ xs) [] e f = absurd (false≢true e)
same_items (x ∷ xs) (y ∷ ys) e f =
    let p = and_parts (same_item x y) (items_extend true xs ys) e in
    let q = and_parts (same_item y x) (items_extend true ys xs) f in
    ap₂ (λ i is. i ∷ is) (same_item-true x y p.0) (same_items xs ys p.1 q.1)

same_leaves : (k l : LeafType) → leaf_aspect k l ≡ None → leaf_aspect l k ≡ None → k ≡ l
same_leaves (enumerated xs true) (enumerated ys true) e f =
    ap (λ is. enumerated is true) (same_items xs ys (unless_none (items_extend true xs ys) Items e) (unless_none (items_extend true ys xs) Items f))
same_leaves (enumerated xs true) l e f = absurd (some_none _ e)
same_leaves (enumerated xs false) l e f = sym (leaf_to (enumerated xs false) l e)
same_leaves boolean l e f = sym (leaf_to boolean l e)
same_leaves null l e f = sym (leaf_to null l e)
same_leaves (integer low high) l e f = sym (leaf_to (integer low high) l e)
same_leaves (bit_string s) l e f = sym (leaf_to (bit_string s) l e)
same_leaves (content k) l e f = sym (leaf_to (content k) l e)

mutual
  same_types : (T U : AsnType) → differ T U ≡ None → differ U T ≡ None → T ≡ U
  same_types (leaf k) (leaf l) e f = ap leaf (same_leaves k l (here_none (leaf_aspect k l) e) (here_none (leaf_aspect l k) f))
  same_types (sequence fs) (sequence gs) e f =
      ap sequence (same_fields 0 fs gs (or_none (fields_differ 0 fs gs) None e).0 (or_none (fields_differ 0 gs fs) None f).0)
  same_types (extensible_sequence fs more) (extensible_sequence gs others) e f =
      let p = or_none (fields_differ 0 fs gs) (additions_differ 0 more others) e in
      let q = or_none (fields_differ 0 gs fs) (additions_differ 0 others more) f in
      ap₂ extensible_sequence (same_fields 0 fs gs p.0 q.0) (same_additions 0 more others p.1 q.1)
  same_types (sequence_of s T) (sequence_of t X) e f =
      let p = or_none (here (unless (same_size s t) Size)) (inside at_element (differ T X)) e in
      let q = or_none (here (unless (same_size t s) Size)) (inside at_element (differ X T)) f in
      ap₂ sequence_of (sym (sized s t (here_none (unless (same_size s t) Size) p.0))) (same_types T X (inside_none at_element (differ T X) p.1) (inside_none at_element (differ X T) q.1))
  same_types (choice marker more) (choice other others) e f =
      let p = or_none (here (unless (same_bool marker other) Marker)) (alternatives_differ more other others) e in
      let q = or_none (here (unless (same_bool other marker) Marker)) (alternatives_differ others marker more) f in
      let is = same_bool-true marker other (unless_none (same_bool marker other) Marker (here_none (unless (same_bool marker other) Marker) p.0)) in
      ap₂ choice is (same_alternatives other marker more others p.1 q.1)
  same_types T U e f = absurd (some_none _ e)

  same_fields : (i : ℕ) (fs gs : Fields) → fields_differ i fs gs ≡ None → fields_differ i gs fs ≡ None → fs ≡ gs
  same_fields i no_fields no_fields e f = refl
  same_fields i (field name need T fs) (field n m X gs) e f =
      let p = or_none (inside (at_component i name) (component_differs name n need m (differ T X))) (fields_differ (suc i) fs gs) e in
      let q = or_none (inside (at_component i n) (component_differs n name m need (differ X T))) (fields_differ (suc i) gs fs) f in
      let named = then_none (same_list name n) _ Name (inside_none (at_component i name) _ p.0) in
      let back = then_none (same_list n name) _ Name (inside_none (at_component i n) _ q.0) in
      let to = or_none (differ T X) (here (unless (same_need need m) Presence)) named.1 in
      let from = or_none (differ X T) (here (unless (same_need m need) Presence)) back.1 in
      let needs = same_need-true need m (unless_none (same_need need m) Presence (here_none _ to.1)) in
      ap₂ (λ a b. field a b T fs) (same_list-true name n named.0) needs ∙ ap₂ (λ a b. field n m a b) (same_types T X to.0 from.0) (same_fields (suc i) fs gs p.1 q.1)
  same_fields i fs gs e f = absurd (some_none _ e)

  same_additions : (i : ℕ) (more others : Additions) → additions_differ i more others ≡ None → additions_differ i others more ≡ None → more ≡ others
  same_additions i no_additions no_additions e f = refl
  same_additions i no_additions (addition n X others) e f = absurd (some_none _ f)
  same_additions i (addition name T more) no_additions e f = absurd (some_none _ e)
  same_additions i (addition name T more) (addition n X others) e f =
      let p = or_none (inside (at_addition i name) (named_differs name n (differ T X))) (additions_differ (suc i) more others) e in
      let q = or_none (inside (at_addition i n) (named_differs n name (differ X T))) (additions_differ (suc i) others more) f in
      let named = then_none (same_list name n) _ Name (inside_none (at_addition i name) _ p.0) in
      let back = then_none (same_list n name) _ Name (inside_none (at_addition i n) _ q.0) in
      ap (λ a. addition a T more) (same_list-true name n named.0) ∙ ap₂ (λ a b. addition n a b) (same_types T X named.1 back.1) (same_additions (suc i) more others p.1 q.1)

  same_alternatives : (m o : Bool) (more others : Alternatives) → alternatives_differ more m others ≡ None → alternatives_differ others o more ≡ None → more ≡ others
  same_alternatives m o no_alternatives no_alternatives e f = refl
  same_alternatives m o (alternative name t T more) (alternative n u X others) e f =
      let p = or_none (inside (at_alternative name) (alternative_differs name n t u (differ T X))) (alternatives_differ more m others) e in
      let q = or_none (inside (at_alternative n) (alternative_differs n name u t (differ X T))) (alternatives_differ others o more) f in
      let to = alternative_to name n t u (differ T X) (inside_none (at_alternative name) _ p.0) in
      let from = alternative_to n name u t (differ X T) (inside_none (at_alternative n) _ q.0) in
      ap₂ (λ a b. alternative a b T more) from.0 from.1 ∙ ap₂ (λ a b. alternative n u a b) (same_types T X to.2 from.2) (same_alternatives m o more others p.1 q.1)
  same_alternatives m o (later name t T more) (later n u X others) e f =
      let p = or_none (inside (at_alternative name) (alternative_differs name n t u (differ T X))) (alternatives_differ more m others) e in
      let q = or_none (inside (at_alternative n) (alternative_differs n name u t (differ X T))) (alternatives_differ others o more) f in
      let to = alternative_to name n t u (differ T X) (inside_none (at_alternative name) _ p.0) in
      let from = alternative_to n name u t (differ X T) (inside_none (at_alternative n) _ q.0) in
      ap₂ (λ a b. later a b T more) from.0 from.1 ∙ ap₂ (λ a b. later n u a b) (same_types T X to.2 from.2) (same_alternatives m o more others p.1 q.1)
  same_alternatives m o no_alternatives (alternative n u X others) e f = absurd (some_none _ f)
  same_alternatives m o no_alternatives (later n u X others) e f = absurd (some_none _ f)
  same_alternatives m o more others e f = absurd (some_none _ e)

-- ---- each type only adds to itself

append_none : {A : Type 0} (xs : List A) → xs ≡ xs ++ []
append_none [] = refl
append_none (x ∷ xs) = ap (λ ys. x ∷ ys) (append_none xs)

leaf_self : (k : LeafType) → ExtendsLeaf k k
leaf_self (enumerated xs true) = ([], ap (λ is. enumerated is true) (append_none xs))
leaf_self k = refl

none_further : (marker : Bool) → AreFurther marker no_alternatives
none_further true = tt
none_further false = refl

mutual
  extends_self : (T : AsnType) → Extends T T
  extends_self (leaf k) = (k, refl, leaf_self k)
  extends_self (sequence fs) = (fs, refl, fields_self fs)
  extends_self (extensible_sequence fs more) = (fs, more, refl, fields_self fs, additions_self more)
  extends_self (sequence_of s T) = (T, refl, extends_self T)
  extends_self (choice marker more) = (more, refl, alternatives_self marker more)

  fields_self : (fs : Fields) → FieldsExtend fs fs
  fields_self no_fields = refl
  fields_self (field name need T fs) = (T, fs, refl, extends_self T, fields_self fs)

  additions_self : (more : Additions) → AdditionsExtend more more
  additions_self no_additions = tt
  additions_self (addition name T more) = (T, more, refl, extends_self T, additions_self more)

  alternatives_self : (marker : Bool) (more : Alternatives) → AlternativesExtend marker more more
  alternatives_self marker no_alternatives = none_further marker
  alternatives_self marker (alternative name t T more) = (T, more, refl, extends_self T, alternatives_self marker more)
  alternatives_self marker (later name t T more) = (T, more, refl, extends_self T, alternatives_self marker more)

pub both_ways : ExtendsBothWays
both_ways T U = (
  λ (x, y). same_types T U (from_extends T U x) (from_extends U T y),
  λ e. (subst (λ X. Extends T X) e (extends_self T), subst (λ X. Extends X T) e (extends_self T)),
)
