-- Tokens are one list of items of an ENUMERATED.
use Rattle.std.proofs.Common.{◌≡◌, ℕ, ℤ, List, [], ◌∷◌, map, Option, Some, None, is_some, refl, sym, ap, ap₂, subst, ◌∙◌}
use Rattle.oer_model.specs.AsnType.{NamedNumber}
use Rattle.oer_module_parts.proofs.NumberLaws.{numbers_unique}
use Rattle.oer_module_parts.specs.Numbered.{AreNumbered}
use Rattle.oer_module_syntax.specs.Tree.{Module}
use Rattle.oer_module_terms.specs.Trees.{Amount, Item}
use Rattle.oer_module_values.proofs.Denoted.{denoted_sole}
use Rattle.oer_module_values.specs.Numbers.{Denotes, all_items, bare, more_items}
use Rattle.oer_meant_leaves.specs.Laws.{EnumerationsAreSole}
use Rattle.oer_meant_leaves.specs.Leaves.{HaveNumbers, no_items, with, without}
use Rattle.oer_meant_leaves.proofs.Results.{first_same}

-- ---- the numbers that are given

amount_same : (o : Option Amount) (a b : Amount) → o ≡ Some a → o ≡ Some b → a ≡ b
amount_same o a b e f = cc

amount_or_none : {A : Type 0} (o : Option Amount) (a : Amount) → o ≡ None → o ≡ Some a → A
amount_or_none o a e f = absurd (cc)

module _ (ms : List Module) (m : ℕ) where
  pub have_sole : (is : List Item) (xs ys : List (Option ℤ)) → HaveNumbers ms m is xs → HaveNumbers ms m is ys → xs ≡ ys
  have_sole _ _ _ no_items no_items = refl
  have_sole _ _ _ (without i is xs e h) (without _ _ ys f j) = ap (λ l. None ∷ l) (have_sole is xs ys h j)
  have_sole _ _ _ (without i is xs e h) (with _ a n _ ys f d j) = amount_or_none i.number a e f
  have_sole _ _ _ (with i a n is xs e d h) (without _ _ ys f j) = amount_or_none i.number a f e
  have_sole _ _ _ (with i a n is xs e d h) (with _ b k _ ys f g j) =
      let other = subst (λ x. Denotes ms m (bare m) x k) (sym (amount_same i.number a b e f)) g in
      ap₂ (λ z l. Some z ∷ l) (denoted_sole ms m (bare m) a n k d other) (have_sole is xs ys h j)

-- ---- items

item_same : (i j : NamedNumber) → i.name ≡ j.name → i.number ≡ j.number → i ≡ j
item_same i j e f = ap₂ {C = NamedNumber} (λ w z. record { name = w; number = z }) e f

items_same : (is js : List NamedNumber) → map (λ i. i.name) is ≡ map (λ i. i.name) js → map (λ i. i.number) is ≡ map (λ i. i.number) js → is ≡ js
items_same [] [] e f = refl
items_same [] (j ∷ js) e f = absurd (cc)
items_same (i ∷ is) [] e f = absurd (cc)
items_same (i ∷ is) (j ∷ js) e f = ap₂ (λ x l. x ∷ l) (item_same i j (cc) (cc)) (items_same is js (cc) (cc))

pub items_sole : EnumerationsAreSole
items_sole ms m at ts is js a b h k =
    let e = first_same h.read k.read h.rest k.rest (sym h.is ∙ k.is) in
    let root = have_sole ms m k.read.root h.root k.root (subst (λ x. HaveNumbers ms m x.root h.root) e h.root_have) k.root_have in
    let more = have_sole ms m (more_items k.read.more) h.more k.more (subst (λ x. HaveNumbers ms m (more_items x.more) h.more) e h.more_have) k.more_have in
    let numbered = subst (λ x. AreNumbered k.root x (map (λ i. i.number) is)) more (subst (λ x. AreNumbered x h.more (map (λ i. i.number) is)) root h.numbered) in
    let numbers = numbers_unique k.root k.more (map (λ i. i.number) is) (map (λ i. i.number) js) numbered k.numbered in
    let names = h.named ∙ ap (λ x. map (λ i. i.name) (all_items x)) e ∙ sym k.named in
    (items_same is js names numbers, sym h.marker ∙ ap (λ x. is_some x.more) e ∙ k.marker)
