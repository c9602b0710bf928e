-- What is gathered of elements that say components or alternatives, where the types in them are given as they say.
use Rattle.std.proofs.Common.{◌≡◌, ◌∙◌, ◌⊎◌, ℕ, suc, ◌-◌, ◌+◌, List, [], ◌∷◌, Bool, true, false, Option, Some, None, Ok, inl, inr, refl, sym, ap, subst, arith}
use Rattle.std.specs.Prelude.{if◌then◌else◌, slice_get}
use Rattle.oer_model.specs.AsnType.{Additions, Alternatives, AsnType, Fields, addition, alternative, field, later, no_additions, no_alternatives, no_fields}
use Rattle.oer_model.specs.AsnType as model
use Rattle.oer_model.specs.WellFormed.{InAdditions, InAlternatives, InFields}
use Rattle.oer_model.specs.Widths.{AdditionsHaveWidths, AlternativesHaveWidths, FieldsHaveWidths}
use Rattle.oer_module_names.specs.declared.error.Place.{Place}
use Rattle.oer_module_places.specs.Rising.{AllLie, Lies}
use Rattle.oer_module_syntax.specs.Tree.{Assignment, Module, Tree, Element, Elements, element}
use Rattle.oer_module_syntax.specs.Tree.{Need, component, marker, must}
use Rattle.oer_module_text.specs.Errors.{Read, ◌>>=◌}
use Rattle.oer_module_text.specs.Room.{Room}
use Rattle.oer_module_types.specs.Gathered.{Gathered, with_marker, with_part}
use Rattle.oer_module_types.specs.Types.{added_at, after, behind, component_at, elements_at, marker_at, need_at, needed_at, tag_at}
use Rattle.oer_module_types.specs.declared.element.After.{After}
use Rattle.oer_module_types.specs.declared.element.Before.{Before}
use Rattle.oer_module_values.specs.Types.{TypeIn, type_in}
use Rattle.oer_notation.specs.Reading.{Known}
use Rattle.oer_same_items.proofs.Telling.{Gives, Passes, bind, choose}
use Rattle.oer_same_names.specs.Home.{IsFront}
use Rattle.oer_same_names.specs.Meant.{tags_of}
use Rattle.oer_same_trees.specs.Says.{MayBeOptional, Says, SaysAdditions, SaysComponents, SaysNeed, plain_addition, optional_addition, says_no_components, says_component, says_components_marker, says_none_added, says_added, SaysAlternatives, says_none_left, says_alternative, says_alternatives_marker, SaysLater, says_none_later, says_later, SaysTagged}
use Rattle.oer_units.specs.declared.tagging.Tag.{Tag}
use Rattle.oer_same_types.proofs.Clear.{IsClear, clear_of}
use Rattle.oer_same_types.proofs.Ordinary.{AdditionWidths, OddAdditions, Ordinary, OrdinaryTree}
use Rattle.oer_same_types.specs.Gathering.{with_additions, with_alternatives, with_fields, with_later}
use Rattle.oer_same_types.specs.Ordinary.{AreStandard, IsOdd, IsTameNeed}
use Rattle.oer_same_types.specs.Unsized.{unsized}

abbrev pub Types : Type 0
Types = List Place → TypeIn → Room → Read (AsnType × Room)

abbrev pub Roots : Type 0
Roots = List Place → Bool → Place → Tree → Gathered → Room → Read (Bool × Gathered × Room)

-- The type is that of the notation, without the sizes of its lists.
abbrev pub IsFor : AsnType → AsnType × Room → Type 0
IsFor T x = x.0 ≡ unsized T

-- No place of the path stands in the tree, or in a definition before it.
abbrev pub IsApart : List Assignment → List Known → Tree → List Place → Type 0
IsApart found known t path = IsClear (λ low high. Lies low high t) found known path

-- the same of elements
abbrev pub AreApart : List Assignment → List Known → Elements → List Place → Type 0
AreApart found known es path = IsClear (λ low high. AllLie low high es) found known path

pub rest_apart : (found : List Assignment) (known : List Known) (e : Element) (es : Elements) (path : List Place) → AreApart found known (element e es) path
    → AreApart found known es path
rest_apart found known e es path c =
    clear_of (λ low high. AllLie low high (element e es)) (λ low high. AllLie low high es) found known path c (λ low high l. l.1)

pub first_apart : (found : List Assignment) (known : List Known) (at : ℕ) (w : List ℕ) (t : Tree) (n : Need) (es : Elements) (path : List Place)
    → AreApart found known (element (component at w t n) es) path → IsApart found known t path
first_apart found known at w t n es path c = clear_of (λ low high. AllLie low high (element (component at w t n) es))
    (λ low high. Lies low high t) found known path c (λ low high l. l.0)

-- each tree that says a type, and that has no place of the path in it, is given it
abbrev pub TypesSay : Bool → List Module → List Assignment → List Known → Types → Type 0
TypesSay o ms found ks type = (known : List Known) (T : AsnType) (t : Tree) (path : List Place) (r : Room) → IsFront known ks → Says known T t
    → IsApart found known t path → (o ≡ true → OrdinaryTree ms T t) → Gives o (IsFor T) (type path (type_in 0 t) r)

-- the same of the types of alternatives, which may have a tag before them
abbrev pub AlternativesSay : Bool → List Module → List Assignment → List Known → Types → Type 0
AlternativesSay o ms found ks type = (known : List Known) (is_tagged : Bool) (place : ℕ) (tag : Tag) (T : AsnType) (t : Tree) (path : List Place)
    (r : Room) → IsFront known ks → SaysTagged known is_tagged place tag T t → IsApart found known t path
    → (o ≡ true → OrdinaryTree ms T t) → Gives o (IsFor T) (type path (type_in 0 t) r)

-- each value after DEFAULT that says one is given it
abbrev pub DefaultsSay : Bool → List Module → List Known → Type 0
DefaultsSay o ms ks = (known : List Known) (T : AsnType) (t : Tree) (need : model.Need) (n : Need) (r : Room) → IsFront known ks → Says known T t
    → SaysNeed T need n → (o ≡ true → OrdinaryTree ms T t) → (o ≡ true → IsTameNeed n)
    → Gives o (λ (x : model.Need × Room). x.0 ≡ need) (needed_at ms 0 t n r)

-- where so is what makes components optional, by the marker
needed_root : (o : Bool) (ms : List Module) (ks : List Known) → DefaultsSay o ms ks → (known : List Known) (T : AsnType) (t : Tree) (need : model.Need) (n : Need)
    (marked : Bool) (at : ℕ) (r : Room) → IsFront known ks → Says known T t → SaysNeed T need n → marked ≡ false → (o ≡ true → OrdinaryTree ms T t) → (o ≡ true → IsTameNeed n)
    → Gives o (λ (x : model.Need × Room). x.0 ≡ need) (need_at ms marked 0 at t n r)
unfolding need_at
needed_root o ms ks defaults known T t need n marked at r front says needs root fits tame = choose _ marked _ _ (λ on. absurd (cc (on, root)))
    (λ off. defaults known T t need n r front says needs fits tame)

added_one : (o : Bool) {n : Need} → MayBeOptional n → (at : ℕ) (r : Room) → Gives o (λ (x : model.Need × Room). x.0 ≡ model.may) (added_at 0 at n r)
added_one o plain_addition at r = record { given = refl }
added_one o optional_addition at r = record { given = refl }

needed_added : (o : Bool) (ms : List Module) (t : Tree) (n : Need) (marked : Bool) (at : ℕ) (r : Room) → MayBeOptional n → marked ≡ true
    → Gives o (λ (x : model.Need × Room). x.0 ≡ model.may) (need_at ms marked 0 at t n r)
unfolding need_at
needed_added o ms t n marked at r opts behind_marker = choose _ marked _ _ (λ on. added_one o opts at r) (λ off. absurd (cc (behind_marker, off)))

-- an alternative has no need of its own: what it is makes no difference
needed_none : (o : Bool) (ms : List Module) (t : Tree) (marked : Bool) (at : ℕ) (r : Room) → Gives o (λ (x : model.Need × Room). Unit {0}) (need_at ms marked 0 at t must r)
unfolding need_at
needed_none o ms t marked at r = choose _ marked _ _ (λ on. record { given = tt }) (λ off. record { given = tt })

-- one marker may stand there
marker_passes : (o : Bool) (m at : ℕ) (b : Before) (r : Room) → b.marked ≡ false → Passes o (marker_at m at b r)
marker_passes o m at b r root = choose _ b.marked _ _ (λ on. absurd (cc (on, root))) (λ off. record { given = tt })

-- what is gathered behind the same with the same
part_same : (o : Option Tag) (w : List ℕ) (n m : model.Need) (S U : AsnType) (g h : Gathered) → g ≡ h → n ≡ m → S ≡ U → with_part o w n S g ≡ with_part o w m U h
part_same o w n m S U g h before need is =
    ap (with_part o w n S) before ∙ ap (λ k. with_part o w k S h) need ∙ ap (λ V. with_part o w m V h) is

-- ---- what is ordinary in elements that are

abbrev pub OrdinaryComponents : List Module → Fields → Option Additions → Elements → Type 0
OrdinaryComponents ms fs more es = Ordinary (InFields IsOdd fs ⊎ OddAdditions more) (FieldsHaveWidths fs × AdditionWidths more) (AreStandard ms es)

abbrev pub OrdinaryAdditions : List Module → Additions → Elements → Type 0
OrdinaryAdditions ms more es = Ordinary (InAdditions IsOdd more) (AdditionsHaveWidths more) (AreStandard ms es)

abbrev pub OrdinaryAlternatives : List Module → Alternatives → Elements → Type 0
OrdinaryAlternatives ms more es = Ordinary (InAlternatives IsOdd more) (AlternativesHaveWidths more) (AreStandard ms es)

module _ (ms : List Module) (at : ℕ) (w : List ℕ) (T : AsnType) (t : Tree) (n : Need) (es : Elements) where
  first_component : (need : model.Need) (fs : Fields) (more : Option Additions) → OrdinaryComponents ms (field w need T fs) more (element (component at w t n) es)
      → OrdinaryTree ms T t
  first_component need fs more (odd, widths, standard) = ((λ x. odd (inl (inl x))), widths.0.0, standard.0.0)

  later_components : (need : model.Need) (fs : Fields) (more : Option Additions) → OrdinaryComponents ms (field w need T fs) more (element (component at w t n) es)
      → OrdinaryComponents ms fs more es
  later_components need fs more (odd, widths, standard) = (rest, (widths.0.1, widths.1), standard.1) where
    rest : InFields IsOdd fs ⊎ OddAdditions more → ⊥
    rest (inl x) = odd (inl (inr x))
    rest (inr x) = odd (inr x)

  first_addition : (more : Additions) → OrdinaryAdditions ms (addition w T more) (element (component at w t n) es) → OrdinaryTree ms T t
  first_addition more (odd, widths, standard) = ((λ x. odd (inl x)), widths.0, standard.0.0)

  later_additions : (more : Additions) → OrdinaryAdditions ms (addition w T more) (element (component at w t n) es) → OrdinaryAdditions ms more es
  later_additions more (odd, widths, standard) = ((λ x. odd (inr x)), widths.1, standard.1)

  module _ (g : Tag) (more : Alternatives) where
    first_alternative : OrdinaryAlternatives ms (alternative w g T more) (element (component at w t n) es) → OrdinaryTree ms T t
    first_alternative (odd, widths, standard) = ((λ x. odd (inl x)), widths.1, standard.0.0)

    later_alternatives : OrdinaryAlternatives ms (alternative w g T more) (element (component at w t n) es) → OrdinaryAlternatives ms more es
    later_alternatives (odd, widths, standard) = ((λ x. odd (inr x)), widths.2, standard.1)

    -- the same behind the marker
    first_later : OrdinaryAlternatives ms (later w g T more) (element (component at w t n) es) → OrdinaryTree ms T t
    first_later (odd, widths, standard) = ((λ x. odd (inl x)), widths.1, standard.0.0)

    later_later : OrdinaryAlternatives ms (later w g T more) (element (component at w t n) es) → OrdinaryAlternatives ms more es
    later_later (odd, widths, standard) = ((λ x. odd (inr x)), widths.2, standard.1)

module _ (o : Bool) (ms : List Module) (found : List Assignment) (ks : List Known) (type : Types) (types : TypesSay o ms found ks type)
    (defaults : DefaultsSay o ms ks) (roots : Roots) where
  -- ---- components of a SEQUENCE: they have no tags

  -- what is given of an element: whether the marker is among them, and what is gathered
  abbrev Gathers : Bool → Gathered → After × Gathered × Room → Type 0
  Gathers marked h x = (x.0.marked ≡ marked) × (x.1 ≡ h)

  abbrev Gathered_as : Gathered → After × Gathered × Room → Type 0
  Gathered_as h x = x.1 ≡ h

  component_given : {known : List Known} {T : AsnType} {t : Tree} {need : model.Need} {n : Need} → Says known T t → SaysNeed T need n → IsFront known ks
      → (w : List ℕ) (at : ℕ) (path : List Place) → IsApart found known t path → (b : Before) (g h : Gathered) (r : Room) → b.marked ≡ false → g ≡ h
      → (o ≡ true → OrdinaryTree ms T t) → (o ≡ true → IsTameNeed n)
      → Gives o (Gathers false (with_part None w need (unsized T) h)) (component_at ms type 0 [] path b at w t n g r)
  component_given {known} {T} {t} {need} {n} says needs front w at path apart b g h r root same_before fits tame =
      bind (IsFor T) _ _ _ (types known T t path _ front says apart fits) (λ x is.
      bind (λ (y : model.Need × Room). y.0 ≡ need) _ _ _ (needed_root o ms ks defaults known T t need n b.marked at x.1 front says needs root
      fits tame) (λ y same.
      record { given = (root, part_same None w y.0 need x.0 (unsized T) g h same_before same is) }))

  addition_given : {known : List Known} {T : AsnType} {t : Tree} {n : Need} → Says known T t → MayBeOptional n → IsFront known ks
      → (w : List ℕ) (at : ℕ) (path : List Place) → IsApart found known t path → (b : Before) (g h : Gathered) (r : Room) → b.marked ≡ true → g ≡ h
      → (o ≡ true → OrdinaryTree ms T t)
      → Gives o (Gathers true (with_part None w model.may (unsized T) h)) (component_at ms type 0 [] path b at w t n g r)
  addition_given {known} {T} {t} {n} says opts front w at path apart b g h r behind_marker same_before fits =
      bind (IsFor T) _ _ _ (types known T t path _ front says apart fits) (λ x is.
      bind (λ (y : model.Need × Room). y.0 ≡ model.may) _ _ _ (needed_added o ms t n b.marked at x.1 opts behind_marker) (λ y same.
      record { given = (behind_marker, part_same None w y.0 model.may x.0 (unsized T) g h same_before same is) }))

  marker_given : (m at : ℕ) (b : Before) (g h : Gathered) (r : Room) → b.marked ≡ false → g ≡ h
      → Gives o (Gathers true (with_marker h)) (marker_at m at b r >>= λ s. Ok (after true true, with_marker g, s))
  marker_given m at b g h r root same = bind _ _ (marker_at m at b r) _ (marker_passes o m at b r root) (λ s u. record { given = (refl, ap with_marker same) })

  additions_given : {known : List Known} {more : Additions} {es : Elements} → SaysAdditions known more es → IsFront known ks
      → (path : List Place) → AreApart found known es path → (b : Before) (g h : Gathered) (r : Room) → b.marked ≡ true → g ≡ h
      → (o ≡ true → OrdinaryAdditions ms more es) → Gives o (Gathered_as (with_additions more h)) (elements_at ms type roots 0 [] path b es g r)
  unfolding with_additions
  additions_given says_none_added front path apart b g h r marked same fits = record { given = same }
  additions_given {known} (says_added {at} {w} {T} {more} {t} {n} {es} is says opts rest) front path apart b g h r marked same fits =
      bind (Gathers true (with_part None w model.may (unsized T) h)) _ _ _
      (addition_given says opts front w at path (first_apart found known at w t n es path apart) b g h r marked same
      (λ on. first_addition ms at w T t n es more (fits on))) (λ x now.
      additions_given rest front path (rest_apart found known (component at w t n) es path apart) (behind b x.0) x.1
      (with_part None w model.may (unsized T) h) x.2 now.0 now.1 (λ on. later_additions ms at w T t n es more (fits on)))

  pub components_given : {known : List Known} {fs : Fields} {more : Option Additions} {es : Elements} → SaysComponents known fs more es → IsFront known ks
      → (path : List Place) → AreApart found known es path → (b : Before) (g h : Gathered) (r : Room) → b.marked ≡ false → g ≡ h
      → (o ≡ true → OrdinaryComponents ms fs more es) → Gives o (Gathered_as (with_fields fs more h)) (elements_at ms type roots 0 [] path b es g r)
  unfolding with_fields
  components_given says_no_components front path apart b g h r root same fits = record { given = same }
  components_given {known} (says_component {at} {w} {T} {need} {fs} {more} {t} {n} {es} is says needs rest) front path apart b g h r root same fits =
      bind (Gathers false (with_part None w need (unsized T) h)) _ _ _
      (component_given says needs front w at path (first_apart found known at w t n es path apart) b g h r root same
      (λ on. first_component ms at w T t n es need fs more (fits on)) (λ on. (fits on).2.0.1)) (λ x now.
      components_given rest front path (rest_apart found known (component at w t n) es path apart) (behind b x.0) x.1
      (with_part None w need (unsized T) h) x.2 now.0 now.1 (λ on. later_components ms at w T t n es need fs more (fits on)))
  components_given {known} (says_components_marker {at} {more} {es} rest) front path apart b g h r root same fits =
      bind (Gathers true (with_marker h)) _ _ _ (marker_given 0 at b g h r root same) (λ x now.
      additions_given rest front path (rest_apart found known (marker at []) es path apart) (behind b x.0) x.1 (with_marker h) x.2 now.0 now.1
      (λ on. let f = fits on in ((λ x. f.0 (inr x)), f.1.1, f.2.1)))

-- ---- alternatives of a CHOICE

-- so many alternatives stand before what comes, beside the marker, if it is among them
abbrev pub Stands : Before → ℕ → Type 0
Stands b p = b.elements ≡ (if b.marked then suc p else p)

index_by : (marked : Bool) (elements p : ℕ) → elements ≡ (if marked then suc p else p) → (if marked then elements - 1 else elements) ≡ p
index_by true elements p e = omega (arith, e)
index_by false elements p e = e

next_by : (marked : Bool) (elements p : ℕ) → elements ≡ (if marked then suc p else p) → suc elements ≡ (if marked then suc (suc p) else suc p)
next_by true elements p e = ap suc e
next_by false elements p e = ap suc e

-- the tags from the place on are these
abbrev pub AreTagsFrom : List Tag → ℕ → List Tag → Type 0
AreTagsFrom gs p ts = (k : ℕ) → slice_get gs (p + k) ≡ slice_get ts k

tag_here : (gs ts : List Tag) (p : ℕ) (t : Tag) → AreTagsFrom gs p (t ∷ ts) → slice_get gs p ≡ Some t
tag_here gs ts p t are = let e : p + 0 ≡ p = omega arith in subst (λ n. slice_get gs n ≡ Some t) e (are 0)

tags_next : (gs ts : List Tag) (p : ℕ) (t : Tag) → AreTagsFrom gs p (t ∷ ts) → AreTagsFrom gs (suc p) ts
tags_next gs ts p t are k = let e : p + suc k ≡ suc p + k = omega arith in subst (λ n. slice_get gs n ≡ slice_get ts k) e (are (suc k))

needless : (t : Tag) (w : List ℕ) (n m : model.Need) (U : AsnType) (h : Gathered) → with_part (Some t) w n U h ≡ with_part (Some t) w m U h
unfolding with_part
needless t w n m U h = refl

module _ (o : Bool) (ms : List Module) (found : List Assignment) (ks : List Known) (type : Types) (types : AlternativesSay o ms found ks type) (roots : Roots)
    (gs : List Tag) where
  abbrev Found : Bool → Gathered → After × Gathered × Room → Type 0
  Found marked h x = (x.0.marked ≡ marked) × (x.1 ≡ h)

  abbrev All : Gathered → After × Gathered × Room → Type 0
  All h x = x.1 ≡ h

  alternative_given : {known : List Known} {is_tagged : Bool} {place : ℕ} {t : Tag} {T : AsnType} {tree : Tree} → SaysTagged known is_tagged place t T tree
      → IsFront known ks → (w : List ℕ) (at : ℕ) (path : List Place) → IsApart found known tree path → (b : Before) (g h : Gathered) (r : Room) (p : ℕ)
      → Stands b p → slice_get gs p ≡ Some t → g ≡ h → (o ≡ true → OrdinaryTree ms T tree)
      → Gives o (Found b.marked (with_part (Some t) w model.must (unsized T) h)) (component_at ms type 0 gs path b at w tree must g r)
  alternative_given {known} {is_tagged} {place} {t} {T} {tree} says front w at path apart b g h r p stands tag same fits =
      bind (IsFor T) _ _ _ (types known is_tagged place t T tree path _ front says apart fits) (λ x is.
      bind _ _ (need_at ms b.marked 0 at tree must x.1) _ (needed_none o ms tree b.marked at x.1) (λ y u.
      record {
        given = (
          refl,
          ap (λ o. with_part o w y.0 x.0 g) here ∙ part_same (Some t) w y.0 y.0 x.0 (unsized T) g h same refl is
              ∙ needless t w y.0 model.must (unsized T) h,
        );
      })) where
        here : tag_at gs b ≡ Some t
        here = ap (slice_get gs) (index_by b.marked b.elements p stands) ∙ tag

  later_given : {known : List Known} {is_tagged : Bool} {place : ℕ} {more : Alternatives} {es : Elements} → SaysLater known is_tagged place more es → IsFront known ks
      → (path : List Place) → AreApart found known es path → (b : Before) (g h : Gathered) (r : Room) (p : ℕ) → Stands b p
      → AreTagsFrom gs p (tags_of more) → g ≡ h → (o ≡ true → OrdinaryAlternatives ms more es) → Gives o (All (with_later more h)) (elements_at ms type roots 0 gs path b es g r)
  unfolding with_later
  later_given says_none_later front path apart b g h r p stands tags same fits = record { given = same }
  later_given {known} (says_later {at} {w} {t} {T} {more} {tree} {es} is says rest) front path apart b g h r p stands tags same fits =
      bind (Found b.marked (with_part (Some t) w model.must (unsized T) h)) _ _ _
      (alternative_given says front w at path (first_apart found known at w tree must es path apart) b g h r p stands
      (tag_here gs (tags_of more) p t tags) same (λ on. first_later ms at w T tree must es t more (fits on))) (λ x now.
      later_given rest front path (rest_apart found known (component at w tree must) es path apart) (behind b x.0) x.1
      (with_part (Some t) w model.must (unsized T) h) x.2 (suc p)
      (subst (λ m. suc b.elements ≡ (if m then suc (suc p) else suc p)) (sym now.0) (next_by b.marked b.elements p stands))
      (tags_next gs (tags_of more) p t tags) now.1 (λ on. later_later ms at w T tree must es t more (fits on)))

  -- behind the marker there are later alternatives alone
  marked_later : {known : List Known} {is_tagged : Bool} {place : ℕ} {more : Alternatives} {es : Elements} → SaysLater known is_tagged place more es → (h : Gathered)
      → with_later more (with_marker h) ≡ with_alternatives true more h
  unfolding with_alternatives with_later
  marked_later says_none_later h = refl
  marked_later (says_later is says rest) h = refl

  -- where the marker may stand, what is gathered with it
  abbrev Marks : Before → Gathered → After × Gathered × Room → Type 0
  Marks b h x = (b.marked ≡ false) × (x.0 ≡ after true true) × (x.1 ≡ with_marker h)

  marker_found : (m at : ℕ) (b : Before) (g h : Gathered) (r : Room) → b.marked ≡ false → g ≡ h
      → Gives o (Marks b h) (marker_at m at b r >>= λ s. Ok (after true true, with_marker g, s))
  marker_found m at b g h r root same = bind _ _ (marker_at m at b r) _ (marker_passes o m at b r root) (λ s u. record { given = (root, refl, ap with_marker same) })

  pub alternatives_given : {known : List Known} {is_tagged : Bool} {place : ℕ} {more : Alternatives} {marked : Bool} {es : Elements}
      → SaysAlternatives known is_tagged place more marked es → IsFront known ks
      → (path : List Place) → AreApart found known es path → (b : Before) (g h : Gathered) (r : Room) (p : ℕ) → b.marked ≡ false → Stands b p
      → AreTagsFrom gs p (tags_of more) → g ≡ h → (o ≡ true → OrdinaryAlternatives ms more es)
      → Gives o (All (with_alternatives marked more h)) (elements_at ms type roots 0 gs path b es g r)
  unfolding with_alternatives
  alternatives_given says_none_left front path apart b g h r p root stands tags same fits = record { given = same }
  alternatives_given {known} (says_alternative {at} {w} {t} {T} {more} {marker = m} {tree} {es} is says rest) front path apart b g h r p root stands tags same fits =
      bind (Found b.marked (with_part (Some t) w model.must (unsized T) h)) _ _ _
      (alternative_given says front w at path (first_apart found known at w tree must es path apart) b g h r p stands
      (tag_here gs (tags_of more) p t tags) same (λ on. first_alternative ms at w T tree must es t more (fits on))) (λ x now.
      alternatives_given rest front path (rest_apart found known (component at w tree must) es path apart) (behind b x.0) x.1
      (with_part (Some t) w model.must (unsized T) h) x.2 (suc p) (now.0 ∙ root)
      (subst (λ m. suc b.elements ≡ (if m then suc (suc p) else suc p)) (sym now.0) (next_by b.marked b.elements p stands))
      (tags_next gs (tags_of more) p t tags) now.1 (λ on. later_alternatives ms at w T tree must es t more (fits on)))
  alternatives_given {known} (says_alternatives_marker {at} {more} {es} rest) front path apart b g h r p root stands tags same fits =
      bind (Marks b h) _ _ _ (marker_found 0 at b g h r root same) (λ x now.
      subst (λ f. Gives o (All f) (elements_at ms type roots 0 gs path (behind b x.0) es x.1 x.2)) (marked_later rest h)
      (later_given rest front path (rest_apart found known (marker at []) es path apart) (behind b x.0) x.1 (with_marker h) x.2 p
      (ahead b x.0 p root stands now.1) tags now.2 (λ on. let f = fits on in (f.0, f.1, f.2.1)))) where
        ahead : (b : Before) (a : After) (p : ℕ) → b.marked ≡ false → Stands b p → a ≡ after true true → Stands (behind b a) p
        ahead b a p root stands is = rw is (ap suc (stands ∙ ap (λ m. if m then suc p else p) root))
