-- What the name of an item stands for.
use Rattle.std.proofs.Common.{◌≡◌, ℕ, List, [], ◌∷◌, ◌++◌, map, Bool, true, false, ◌||◌, Option, Some, None, is_some, Ok, ℤ, refl, sym, ap, subst, ◌∙◌}
use Rattle.std.specs.Ordering.{int_eq}
use Rattle.std.specs.Prelude.{FitsSigned}
use Rattle.std.specs.Int.{w64}
use Rattle.std.specs.Str.{bytes_eq}
use Rattle.std.proofs.lemmas.Bool.Decides.{Decides-int_eq}
use Rattle.std.proofs.lemmas.Slice.Eq.{bytes_eq-Decides}
use Rattle.oer_lexer.specs.Token as notation
use Rattle.oer_model.specs.AsnType.{NamedNumber}
use Rattle.oer_model.specs.AsnValue.{enum}
use Rattle.oer_model.specs.Widths.{HaveItemWidths}
use Rattle.oer_module_defaults.specs.Governors.{Governor}
use Rattle.oer_module_defaults.specs.Items.{agreed, has_item, is_among, item_number, number_by, number_in_both, number_named}
use Rattle.oer_module_leaves.specs.Numbered.{NumberedItem, enumeration_by, numbered_at, numbered_items}
use Rattle.oer_module_lexer.specs.Token.{Spot}
use Rattle.oer_module_names.specs.declared.error.Place.{Place}
use Rattle.oer_module_syntax.specs.Tree.{Module, Tree, plain}
use Rattle.oer_module_syntax.specs.declared.word.Builtin.TheVariants.{Enumerated}
use Rattle.oer_module_syntax.specs.State.{place_among}
use Rattle.oer_module_terms.specs.Trees.{Item}
use Rattle.oer_module_text.specs.Errors.{in_module, place_in, ◌>>=◌}
use Rattle.oer_module_values.specs.Numbers.{item_named, more_items}
use Rattle.oer_module_values.specs.Types.{type_in}
use Rattle.oer_module_values.proofs.Items.{item_second}
use Rattle.oer_notation.specs.Grammar.{IsItemNamed, this_item, later_item}
use Rattle.oer_same_trees.specs.Says.{Keeps}
use Rattle.oer_same_items.specs.Laws.{HasItem, IsEnumeration, SameItem, as_named}
use Rattle.oer_same_items.specs.Ordinary.{AreOrdinary}
use Rattle.oer_same_items.proofs.Limited.{long_passes, numbered_passes}
use Rattle.oer_same_items.proofs.Same.{items_same, read_in}
use Rattle.oer_same_items.proofs.Telling.{Gives, bind, choose, told}
use Rattle.oer_same_items.proofs.Taken.{SayItems, say_item, say_none}

unnamed : (v w : List ℕ) → (v ≡ w → ⊥) → bytes_eq v w ≡ false
unnamed v w other = by (bytes_eq v w) refl
  where
    by : (b : Bool) → bytes_eq v w ≡ b → b ≡ false
    by true e = absurd (other ((bytes_eq-Decides v w).0 e))
    by false e = refl

-- the first item of the name
named_same : {w : List ℕ} {z : ℤ} (is : List NumberedItem) → IsItemNamed w z (map as_named is) → number_named w is ≡ Some z
named_same [] has = elim has [ ]
named_same {w} (i ∷ is) (this_item e) = rw ((bytes_eq-Decides i.name w).1 e) refl
named_same {w} (i ∷ is) (later_item other more) = rw (unnamed i.name w other) (named_same is more)

agreed_tells : (o : Bool) (p : Place) (y x z : ℤ) → y ≡ z → x ≡ z → Gives o (λ v. v ≡ z) (agreed p y x)
agreed_tells o p y x z e f =
    choose (λ v. v ≡ z) (int_eq y x) _ _ (λ same. record { given = f }) (λ other. absurd (cc (other, (Decides-int_eq y x).1 (e ∙ sym f))))

-- it is one of their numbers
named_width : {w : List ℕ} {z : ℤ} {is : List NamedNumber} → IsItemNamed w z is → HaveItemWidths is → FitsSigned w64 z
named_width (this_item e) h = h.0
named_width (later_item other more) h = named_width more h.1

module _ (o : Bool) (ms : List Module) (items : List NamedNumber) (marker : Bool) (ts : List notation.Token) (spelt : IsEnumeration items marker ts)
    (w : List ℕ) (z : ℤ) (has : IsItemNamed w z items) (p : Place) where
  -- where the type is this ENUMERATED
  numbered_tells : (m : ℕ) (t : Tree) (at : ℕ) (ss cs : List Spot) → t ≡ plain at Enumerated ss cs → Keeps ts ss
      → (o ≡ true → AreOrdinary ms (place_in m at) ss items) → Gives o (λ e. number_named w e.items ≡ Some z) (enumeration_by ms m t)
  numbered_tells m t at ss cs is keeps ordinary =
      subst (λ u. Gives o (λ e. number_named w e.items ≡ Some z) (enumeration_by ms m u)) (sym is)
      (told (λ e. number_named w e.items ≡ Some z) (numbered_at ms (place_in m at) ss) (numbered_passes o ms (place_in m at) ss spelt keeps ordinary) (λ e given.
      let same = items_same items marker ts ss spelt keeps ms (place_in m at) e given in
      named_same e.items (subst (λ is. IsItemNamed w z is) (sym same.0) has)))

  number_tells : (g : Governor) (at : ℕ) (ss cs : List Spot) → g.type ≡ plain at Enumerated ss cs → Keeps ts ss
      → (o ≡ true → AreOrdinary ms (place_in g.«module» at) ss items) → Gives o (λ y. y ≡ z) (item_number ms g p w)
  unfolding item_number
  number_tells g at ss cs is keeps ordinary =
      bind (λ is. number_named w is ≡ Some z) (λ y. y ≡ z) (numbered_items ms (type_in g.«module» g.type)) _
      (bind (λ e. number_named w e.items ≡ Some z) _ (enumeration_by ms g.«module» g.type) _ (numbered_tells g.«module» g.type at ss cs is keeps ordinary)
      (λ e h. record { given = h }))
      (λ is h. subst (λ n. Gives o (λ y. y ≡ z) (number_by p n)) (sym h) (long_passes o p z (λ on. named_width has (ordinary on).widths)))

  both_tell : (g h : Governor) (at by : ℕ) (ss us cs ds : List Spot) → g.type ≡ plain at Enumerated ss cs → Keeps ts ss → h.type ≡ plain by Enumerated us ds → Keeps ts us
      → (o ≡ true → AreOrdinary ms (place_in g.«module» at) ss items) → (o ≡ true → AreOrdinary ms (place_in h.«module» by) us items)
      → Gives o (λ v. v ≡ z) (number_in_both ms g h p w)
  unfolding number_in_both
  both_tell g h at by ss us cs ds is keeps its kept here there =
      bind (λ y. y ≡ z) (λ v. v ≡ z) (item_number ms h p w) _ (number_tells h by us ds its kept there) (λ y e.
      bind (λ y. y ≡ z) (λ v. v ≡ z) (item_number ms g p w) _ (number_tells g at ss cs is keeps here) (λ x f. agreed_tells o p y x z e f))

pub same_item : SameItem
same_item o items marker ts spelt w z has g h at by ss us cs ds is keeps its kept ms here there p steps r =
    (bind (λ v. v ≡ z) (λ x. x.0 ≡ enum z) (number_in_both ms g h p w) _
    (both_tell o ms items marker ts spelt w z has p g h at by ss us cs ds is keeps its kept here there) (λ v e. record { given = ap enum e })).given

-- ---- the names in braces

item_same : {numbered : Bool} {place : ℕ} {w : List ℕ} {z : ℤ} {items : List NamedNumber} {is : List Item} → SayItems numbered place items is → IsItemNamed w z items
    → is_some (item_named w is) ≡ true
item_same say_none has = elim has [ ]
item_same {w} (say_item {w = v} at says more) (this_item e) = rw ((bytes_eq-Decides v w).1 e) refl
item_same {w} (say_item {w = v} at says more) (later_item other has) = rw (unnamed v w other) (item_same more has)

-- what is in two lists is in one of them
among : (w : List ℕ) (is js : List Item) → is_some (item_named w (is ++ js)) ≡ true → is_some (item_named w is) || is_some (item_named w js) ≡ true
among w is js h = by (item_named w is) refl
  where
    by : (o : Option Item) → item_named w is ≡ o → is_some o || is_some (item_named w js) ≡ true
    by (Some i) e = refl
    by None e = ap is_some (sym (item_second w is js e)) ∙ h

pub item_there : HasItem
unfolding has_item
item_there items marker ts ss spelt keeps w z has m =
    let r = read_in (place_among ss 0) spelt ss keeps in
    let is = r.is in
    let same : items ≡ r.items = cc in
    ap (λ r. in_module m r >>= λ e. Ok (is_among w e.0)) r.read.is
    ∙ ap Ok (among w r.read.found.root (more_items r.read.found.more) (item_same r.read.says (subst (λ is. IsItemNamed w z is) same has)))
