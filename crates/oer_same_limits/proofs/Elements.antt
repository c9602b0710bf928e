-- How many parts elements take, and how many octets they are written with, where the types in them take as many as they have.
use Rattle.std.proofs.Common.{◌≡◌, ◌∙◌, ◌≤◌, ◌<◌, ◌^◌, ℕ, ◌+◌, pos, List, [], ◌∷◌, Bool, true, false, Option, Some, None, Ok, refl, arith, if◌then◌else◌}
use Rattle.std.specs.Prelude.{codes, length, slice_get}
use Rattle.std.specs.Fmt.{signed_decimal}
use Rattle.oer_model.specs.AsnType.{Additions, Alternatives, AsnType, Fields, addition, alternative, field, later, no_additions, no_alternatives, no_fields}
use Rattle.oer_model.specs.AsnType as model
use Rattle.oer_model.specs.Nodes.{additions_nodes, alternatives_nodes, fields_nodes, type_nodes}
use Rattle.oer_model.specs.WellFormed.{additions_depth, alternatives_depth, depth, fields_depth}
use Rattle.oer_model.specs.Widths.{AdditionsHaveWidths, AlternativesHaveWidths, FieldsHaveWidths, HasWidths}
use Rattle.oer_module_names.specs.declared.error.Place.{Place}
use Rattle.oer_module_syntax.specs.Tree.{Assignment, Elements, Module, Need, Tree, component, default, marker, may, must}
use Rattle.oer_module_tags.specs.Written.{class_word, put_tag}
use Rattle.oer_module_text.specs.Errors.{◌>>=◌}
use Rattle.oer_module_text.specs.Room.{Room, put}
use Rattle.oer_module_types.specs.Gathered.{Gathered, with_marker}
use Rattle.oer_module_types.specs.Types.{added_at, after, behind, component_at, elements_at, index_of, marker_at, name_at, need_at, needed_at, put_comma, tag_at, tag_if}
use Rattle.oer_module_types.specs.declared.element.After.{After}
use Rattle.oer_module_types.specs.declared.element.Before.{Before}
use Rattle.oer_module_values.specs.Types.{type_in}
use Rattle.oer_notation.specs.Reading.{Known}
use Rattle.oer_same_names.specs.Home.{IsFront}
use Rattle.oer_same_trees.specs.Says.{MayBeOptional, Says, SaysAdditions, SaysAlternatives, SaysComponents, SaysLater, SaysTagged, optional_addition, plain_addition, says_added}
use Rattle.oer_same_trees.specs.Says.{says_alternative, says_alternatives_marker, says_component, says_components_marker, says_later, says_no_components, says_none_added, says_none_later, says_none_left}
use Rattle.oer_same_types.proofs.Elements.{AreApart, IsApart, Roots, Types, first_apart, rest_apart}
use Rattle.oer_same_types.proofs.Ordinary.{AdditionWidths}
use Rattle.oer_units.specs.declared.tagging.Class.{Class}
use Rattle.oer_units.specs.declared.tagging.Class.TheVariants.{Universal, Application, Context, Private}
use Rattle.oer_units.specs.declared.tagging.Tag.{Tag}
use Rattle.oer_same_limits.proofs.Defaults.{Behind, DefaultsKeep}
use Rattle.oer_same_limits.proofs.Digits.{tag_digits}
use Rattle.oer_same_limits.proofs.Room.{Adds, Leaves, Stays, adds_less, adds_then, held, put_adds}
use Rattle.oer_same_limits.proofs.Telling.{bind, choose, weaken}
use Rattle.oer_same_limits.specs.Short.{AreShort, IsShort}

-- Definitions are short here, and there is room for 256 octets for each part that is left, and what stands before the type.
abbrev pub IsFit : AsnType → Tree → Room → Type 0
IsFit T t r = HasWidths T × IsShort t × (held r ≤ 1048832)

-- each tree that says a type with no more levels takes as many parts as the type has
abbrev pub TypesTake : Bool → List Assignment → List Known → ℕ → Types → Type 0
TypesTake s found ks levels type = (known : List Known) (T : AsnType) (t : Tree) (path : List Place) (r : Room) (n : ℕ) → IsFront known ks → Says known T t
    → IsApart found known t path → depth T ≤ levels → r.parts ≤ 4096 → r.parts ≡ n + type_nodes T → (s ≡ true → IsFit T t r) → Leaves s n r (type path (type_in 0 t) r)

-- the same of the types of alternatives, which may have a tag before them
abbrev pub AlternativesTake : Bool → List Assignment → List Known → ℕ → Types → Type 0
AlternativesTake s found ks levels type = (known : List Known) (is_tagged : Bool) (place : ℕ) (tag : Tag) (T : AsnType) (t : Tree) (path : List Place) (r : Room) (n : ℕ)
    → IsFront known ks → SaysTagged known is_tagged place tag T t → IsApart found known t path → depth T ≤ levels → r.parts ≤ 4096 → r.parts ≡ n + type_nodes T
    → (s ≡ true → IsFit T t r) → Leaves s n r (type path (type_in 0 t) r)

-- so many parts are left behind elements, and of short definitions at most so many octets more are held
abbrev pub LeftBehind : Bool → ℕ → ℕ → Room → After × Gathered × Room → Type 0
LeftBehind s n k r x = (x.2.parts ≡ n) × (s ≡ true → held x.2 ≤ held r + k)

-- ---- one element

comma_adds : (b : Before) (r : Room) → Adds 2 r (put_comma b r)
comma_adds b r = by b.any where
  by : (any : Bool) → Adds 2 r (if any then put (codes ", ") r else r)
  by true = put_adds (codes ", ") r
  by false = (refl, omega arith)

class_len : (c : Class) → length (class_word c) ≤ 12
class_len Universal = omega arith
class_len Application = omega arith
class_len Context = omega arith
class_len Private = omega arith

tag_adds : (t : Tag) (r : Room) → t.number < 2 ^ 32 → Adds 24 r (put_tag t r)
tag_adds t r fits =
    let opened : Room = put (codes "[") r in
    let classed : Room = put (class_word t.class) opened in
    let numbered : Room = put (signed_decimal (pos t.number)) classed in
    let one = put_adds (codes "[") r in
    let two = adds_then 1 (length (class_word t.class)) r opened classed one (put_adds (class_word t.class) opened) in
    let three = adds_then (1 + length (class_word t.class)) (length (signed_decimal (pos t.number))) r classed numbered two (put_adds (signed_decimal (pos t.number)) classed) in
    let all = adds_then (1 + length (class_word t.class) + length (signed_decimal (pos t.number))) 1 r numbered (put (codes "]") numbered) three (put_adds (codes "]") numbered) in
    let few = class_len t.class in
    let digits = tag_digits t.number fits in
    adds_less (1 + length (class_word t.class) + length (signed_decimal (pos t.number)) + 1) 24 r (put (codes "]") numbered) (omega (arith, few, digits)) all

-- a name, with what stands before it and the space behind it
spaced_adds : (b : Before) (w : List ℕ) (r : Room) → Adds (length w + 3) r (put (codes " ") (put w (put_comma b r)))
spaced_adds b w r =
    let two = adds_then 2 (length w) r (put_comma b r) (put w (put_comma b r)) (comma_adds b r) (put_adds w (put_comma b r)) in
    let all = adds_then (2 + length w) 1 r (put w (put_comma b r)) (put (codes " ") (put w (put_comma b r))) two (put_adds (codes " ") (put w (put_comma b r))) in
    adds_less (2 + length w + 1) (length w + 3) r (put (codes " ") (put w (put_comma b r))) (omega arith) all

-- a name, with a tag behind it or without
name_adds : (o : Option Tag) (b : Before) (w : List ℕ) (r : Room) → ((t : Tag) → o ≡ Some t → t.number < 2 ^ 32) → Adds (length w + 28) r (name_at o b w r)
unfolding name_at
name_adds None b w r fits = adds_less (length w + 3) (length w + 28) r _ (omega arith) (spaced_adds b w r)
name_adds (Some t) b w r fits =
    let named : Room = put (codes " ") (put w (put_comma b r)) in
    let two = adds_then (length w + 3) 24 r named (put_tag t named) (spaced_adds b w r) (tag_adds t named (fits t refl)) in
    let all = adds_then (length w + 3 + 24) 1 r (put_tag t named) (put (codes " ") (put_tag t named)) two (put_adds (codes " ") (put_tag t named)) in
    adds_less (length w + 3 + 24 + 1) (length w + 28) r (put (codes " ") (put_tag t named)) (omega arith) all

-- the name of a component, which has no tag
component_adds : (b : Before) (w : List ℕ) (r : Room) → Adds (length w + 3) r (name_at None b w r)
unfolding name_at
component_adds b w r = spaced_adds b w r

name_keeps : (o : Option Tag) (b : Before) (w : List ℕ) (r : Room) → (name_at o b w r).parts ≡ r.parts
unfolding name_at
name_keeps None b w r = (spaced_adds b w r).0
name_keeps (Some t) b w r = (spaced_adds b w r).0

module _ (s : Bool) where
  added_keeps : (n : Need) (at : ℕ) (r : Room) → Stays s (Behind s 69 r) (added_at 0 at n r)
  added_keeps must at r = record { given = (refl, λ on. omega arith) }
  added_keeps may at r = record { given = (refl, λ on. omega arith) }
  added_keeps (default v) at r = record { given = tt }

  optional_keeps : (ms : List Module) (t : Tree) {n : Need} → MayBeOptional n → (r : Room) → Stays s (Behind s 69 r) (needed_at ms 0 t n r)
  optional_keeps ms t plain_addition r = record { given = (refl, λ on. omega arith) }
  optional_keeps ms t optional_addition r =
      let adds = put_adds (codes " OPTIONAL") r in
      record { given = (adds.0, λ on. let few = adds.1 in omega (arith, few)) }

  need_keeps : (ms : List Module) (marked : Bool) (at : ℕ) (t : Tree) (n : Need) (r : Room) → Stays s (Behind s 69 r) (needed_at ms 0 t n r)
      → Stays s (Behind s 69 r) (need_at ms marked 0 at t n r)
  unfolding need_at
  need_keeps ms marked at t n r h = choose _ marked _ _ (λ on. added_keeps n at r) (λ off. h)

  must_keeps : (ms : List Module) (marked : Bool) (at : ℕ) (t : Tree) (r : Room)
      → Stays s (λ (y : model.Need × Room). (y.1.parts ≡ r.parts) × (s ≡ true → length y.1.text ≤ length r.text + 0)) (need_at ms marked 0 at t must r)
  unfolding need_at
  must_keeps ms marked at t r =
      choose _ marked _ _ (λ on. record { given = (refl, λ on. omega arith) }) (λ off. record { given = (refl, λ on. omega arith) })

  module _ (ms : List Module) (type : Types) (gs : List Tag) where
    -- With j octets before the type, and i behind it, there are no more than the type leaves.
    part_takes : (path : List Place) (b : Before) (at : ℕ) (w : List ℕ) (t : Tree) (n : Need) (g : Gathered) (r : Room) (k j i : ℕ) → j + i ≤ 132
        → (s ≡ true → length (name_at (tag_at gs b) b w r).text ≤ length r.text + j)
        → ((x : Room) → x.parts ≡ r.parts → (s ≡ true → held x ≤ held r + j) → Leaves s k x (type path (type_in 0 t) x))
        → ((x : Room) → Stays s (λ (y : model.Need × Room). (y.1.parts ≡ x.parts) × (s ≡ true → length y.1.text ≤ length x.text + i)) (need_at ms b.marked 0 at t n x))
        → Stays s (LeftBehind s k 0 r) (component_at ms type 0 gs path b at w t n g r)
    part_takes path b at w t n g r k j i fits named types needs =
        let x0 : Room = name_at (tag_at gs b) b w r in
        let same : x0.parts ≡ r.parts = name_keeps (tag_at gs b) b w r in
        let more : s ≡ true → held x0 ≤ held r + j = λ on. let few = named on in omega (arith, same, few) in
        bind (λ (x : AsnType × Room). (x.1.parts ≡ k) × (s ≡ true → held x.1 + 132 ≤ held x0)) (LeftBehind s k 0 r) (type path (type_in 0 t) x0) _
        (types x0 same more) (λ x is.
        bind (λ (y : model.Need × Room). (y.1.parts ≡ x.1.parts) × (s ≡ true → length y.1.text ≤ length x.1.text + i)) (LeftBehind s k 0 r) (need_at ms b.marked 0 at t n x.1) _
        (needs x.1) (λ y now.
        record {
          given = (
            now.0 ∙ is.0,
            λ on.
                let a = more on in
                let c = is.1 on in
                let d = now.1 on in
                let e = now.0 in
                omega (arith, a, c, d, e, fits),
          );
        }))

  marker_keeps : (m at : ℕ) (b : Before) (g : Gathered) (r : Room)
      → Stays s (LeftBehind s r.parts 5 r) (marker_at m at b r >>= λ x. Ok (after true true, with_marker g, x))
  marker_keeps m at b g r =
      let first = comma_adds b r in
      let all = adds_then 2 3 r (put_comma b r) (put (codes "...") (put_comma b r)) first (put_adds (codes "...") (put_comma b r)) in
      bind (λ (x : Room). (x.parts ≡ r.parts) × (s ≡ true → held x ≤ held r + 5)) (LeftBehind s r.parts 5 r) (marker_at m at b r) _
      (choose _ b.marked _ _ (λ on. record { given = tt }) (λ off. record { given = (all.0, λ on. let few = all.1 in let same = all.0 in omega (arith, few, same)) })) (λ x is.
      record { given = is })

-- ---- components

abbrev pub rest_nodes : Option Additions → ℕ
rest_nodes None = 0
rest_nodes (Some more) = additions_nodes more

abbrev pub rest_depth : Option Additions → ℕ
rest_depth None = 0
rest_depth (Some more) = additions_depth more

-- what is held more behind one element, and behind those that follow
chained : (s : Bool) (n j k m : ℕ) (r x : Room) (y : After × Gathered × Room) → j + k ≤ m → (s ≡ true → held x ≤ held r + j) → LeftBehind s n k x y
    → LeftBehind s n m r y
chained s n j k m r x y fits first h = (h.0, λ on. let a = first on in let b = h.1 on in omega (arith, a, b, fits))

module _ (s : Bool) (ms : List Module) (found : List Assignment) (ks : List Known) (levels : ℕ) (type : Types) (types : TypesTake s found ks levels type)
    (defaults : DefaultsKeep s ms ks) (roots : Roots) where
  additions_take : {known : List Known} {more : Additions} {es : Elements} → SaysAdditions known more es → IsFront known ks
      → (path : List Place) → AreApart found known es path → (b : Before) (g : Gathered) (r : Room) (k : ℕ) → additions_depth more ≤ levels → r.parts ≤ 4096
      → r.parts ≡ k + additions_nodes more → (s ≡ true → AdditionsHaveWidths more × AreShort es × (held r ≤ 1048710))
      → Stays s (LeftBehind s k 0 r) (elements_at ms type roots 0 [] path b es g r)
  additions_take says_none_added front path apart b g r k deep few room short = record { given = (omega (arith, room), λ on. omega arith) }
  additions_take {known} (says_added {at} {w} {T} {more} {t} {n} {es} is says opts rest) front path apart b g r k deep few room short =
      let here : r.parts ≡ (k + additions_nodes more) + type_nodes T = omega (arith, room) in
      let first : depth T ≤ levels = omega (arith, deep) in
      let others : additions_depth more ≤ levels = omega (arith, deep) in
      bind (LeftBehind s (k + additions_nodes more) 0 r) (LeftBehind s k 0 r) _ _
      (part_takes s ms type [] path b at w t n g r (k + additions_nodes more) 63 69 (omega arith)
      (λ on. let name = (short on).1.0.0 in let adds = (component_adds b w r).1 in omega (arith, name, adds))
      (λ x same over. types known T t path x (k + additions_nodes more) front says (first_apart found known at w t n es path apart) first (omega (arith, same, few)) (same ∙ here)
      (λ on. let a = over on in let c = (short on).2 in ((short on).0.0, (short on).1.0.1, omega (arith, a, c))))
      (λ x. need_keeps s ms b.marked at t n x (optional_keeps s ms t opts x))) (λ x now.
      let left = now.0 in
      weaken (LeftBehind s k 0 x.2) (LeftBehind s k 0 r) (elements_at ms type roots 0 [] path (behind b x.0) es x.1 x.2)
      (additions_take rest front path (rest_apart found known (component at w t n) es path apart) (behind b x.0) x.1 x.2 k others (omega (arith, left, here, few)) left
      (λ on. let a = now.1 on in let c = (short on).2 in ((short on).0.1, (short on).1.1, omega (arith, a, c))))
      (λ y h. chained s k 0 0 0 r x.2 y (omega arith) now.1 h))

  pub components_take : {known : List Known} {fs : Fields} {more : Option Additions} {es : Elements} → SaysComponents known fs more es → IsFront known ks
      → (path : List Place) → AreApart found known es path → (b : Before) (g : Gathered) (r : Room) (k : ℕ) → fields_depth fs ≤ levels → rest_depth more ≤ levels → r.parts ≤ 4096
      → r.parts ≡ k + (fields_nodes fs + rest_nodes more) → (s ≡ true → FieldsHaveWidths fs × AdditionWidths more × AreShort es × (held r ≤ 1048700))
      → Stays s (LeftBehind s k 5 r) (elements_at ms type roots 0 [] path b es g r)
  components_take says_no_components front path apart b g r k deep more_deep few room short = record { given = (omega (arith, room), λ on. omega arith) }
  components_take {known} (says_component {at} {w} {T} {need} {fs} {more} {t} {n} {es} is says needs rest) front path apart b g r k deep more_deep few room short =
      let here : r.parts ≡ (k + (fields_nodes fs + rest_nodes more)) + type_nodes T = omega (arith, room) in
      let first : depth T ≤ levels = omega (arith, deep) in
      let others : fields_depth fs ≤ levels = omega (arith, deep) in
      bind (LeftBehind s (k + (fields_nodes fs + rest_nodes more)) 0 r) (LeftBehind s k 5 r) _ _
      (part_takes s ms type [] path b at w t n g r (k + (fields_nodes fs + rest_nodes more)) 63 69 (omega arith)
      (λ on. let name = (short on).2.0.0 in let adds = (component_adds b w r).1 in omega (arith, name, adds))
      (λ x same over. types known T t path x (k + (fields_nodes fs + rest_nodes more)) front says (first_apart found known at w t n es path apart) first (omega (arith, same, few)) (same ∙ here)
      (λ on. let a = over on in let c = (short on).3 in ((short on).0.0, (short on).2.0.1, omega (arith, a, c))))
      (λ x. need_keeps s ms b.marked at t n x (defaults known T t need n x front says needs (λ on. (short on).2.0.2)))) (λ x now.
      let left = now.0 in
      weaken (LeftBehind s k 5 x.2) (LeftBehind s k 5 r) (elements_at ms type roots 0 [] path (behind b x.0) es x.1 x.2)
      (components_take rest front path (rest_apart found known (component at w t n) es path apart) (behind b x.0) x.1 x.2 k others more_deep (omega (arith, left, here, few)) left
      (λ on. let a = now.1 on in let c = (short on).3 in ((short on).0.1, (short on).1, (short on).2.1, omega (arith, a, c))))
      (λ y h. chained s k 0 5 5 r x.2 y (omega arith) now.1 h))
  components_take {known} (says_components_marker {at} {more} {es} rest) front path apart b g r k deep more_deep few room short =
      let here : r.parts ≡ k + additions_nodes more = omega (arith, room) in
      bind (LeftBehind s r.parts 5 r) (LeftBehind s k 5 r) _ _ (marker_keeps s 0 at b g r) (λ x now.
      let left = now.0 in
      weaken (LeftBehind s k 0 x.2) (LeftBehind s k 5 r) (elements_at ms type roots 0 [] path (behind b x.0) es x.1 x.2)
      (additions_take rest front path (rest_apart found known (marker at []) es path apart) (behind b x.0) x.1 x.2 k more_deep (omega (arith, left, few)) (left ∙ here)
      (λ on. let a = now.1 on in let c = (short on).3 in ((short on).1, (short on).2.1, omega (arith, a, c))))
      (λ y h. chained s k 5 0 5 r x.2 y (omega arith) now.1 h))

-- ---- alternatives

module _ (s : Bool) (ms : List Module) (found : List Assignment) (ks : List Known) (levels : ℕ) (type : Types) (types : AlternativesTake s found ks levels type) (roots : Roots)
    (gs : List Tag) (tags : s ≡ true → (i : ℕ) (t : Tag) → slice_get gs i ≡ Some t → t.number < 2 ^ 32) where
  -- an alternative, with its tag
  alternative_takes : {known : List Known} {is_tagged : Bool} {place : ℕ} {t : Tag} {T : AsnType} {tree : Tree} → SaysTagged known is_tagged place t T tree → IsFront known ks
      → (path : List Place) (at : ℕ) (w : List ℕ) → IsApart found known tree path → (b : Before) (g : Gathered) (r : Room) (k : ℕ) → depth T ≤ levels → r.parts ≤ 4096
      → r.parts ≡ k + type_nodes T → (s ≡ true → HasWidths T × IsShort tree × (length w ≤ 60) × (held r ≤ 1048710))
      → Stays s (LeftBehind s k 0 r) (component_at ms type 0 gs path b at w tree must g r)
  alternative_takes {known} {is_tagged} {place} {t} {T} {tree} says front path at w apart b g r k deep few room short =
      part_takes s ms type gs path b at w tree must g r k 88 0 (omega arith)
      (λ on. let name = (short on).2 in let adds = (name_adds (tag_at gs b) b w r (λ t e. tags on (index_of b) t e)).1 in omega (arith, name, adds))
      (λ x same over. types known is_tagged place t T tree path x k front says apart deep (omega (arith, same, few)) (same ∙ room)
      (λ on. let a = over on in let c = (short on).3 in ((short on).0, (short on).1, omega (arith, a, c))))
      (λ x. must_keeps s ms b.marked at tree x)

  later_take : {known : List Known} {is_tagged : Bool} {place : ℕ} {more : Alternatives} {es : Elements} → SaysLater known is_tagged place more es → IsFront known ks
      → (path : List Place) → AreApart found known es path → (b : Before) (g : Gathered) (r : Room) (k : ℕ) → alternatives_depth more ≤ levels → r.parts ≤ 4096
      → r.parts ≡ k + alternatives_nodes more → (s ≡ true → AlternativesHaveWidths more × AreShort es × (held r ≤ 1048710))
      → Stays s (LeftBehind s k 0 r) (elements_at ms type roots 0 gs path b es g r)
  later_take says_none_later front path apart b g r k deep few room short = record { given = (omega (arith, room), λ on. omega arith) }
  later_take {known} {is_tagged} {place} (says_later {at} {w} {t} {T} {more} {tree} {es} is says rest) front path apart b g r k deep few room short =
      let here : r.parts ≡ (k + alternatives_nodes more) + type_nodes T = omega (arith, room) in
      let first : depth T ≤ levels = omega (arith, deep) in
      let others : alternatives_depth more ≤ levels = omega (arith, deep) in
      bind (LeftBehind s (k + alternatives_nodes more) 0 r) (LeftBehind s k 0 r) _ _
      (alternative_takes says front path at w (first_apart found known at w tree must es path apart) b g r (k + alternatives_nodes more) first few here
      (λ on. ((short on).0.1, (short on).1.0.1, (short on).1.0.0, (short on).2))) (λ x now.
      let left = now.0 in
      weaken (LeftBehind s k 0 x.2) (LeftBehind s k 0 r) (elements_at ms type roots 0 gs path (behind b x.0) es x.1 x.2)
      (later_take rest front path (rest_apart found known (component at w tree must) es path apart) (behind b x.0) x.1 x.2 k others (omega (arith, left, here, few)) left
      (λ on. let a = now.1 on in let c = (short on).2 in ((short on).0.2, (short on).1.1, omega (arith, a, c))))
      (λ y h. chained s k 0 0 0 r x.2 y (omega arith) now.1 h))

  pub alternatives_take : {known : List Known} {is_tagged : Bool} {place : ℕ} {more : Alternatives} {marked : Bool} {es : Elements}
      → SaysAlternatives known is_tagged place more marked es → IsFront known ks
      → (path : List Place) → AreApart found known es path → (b : Before) (g : Gathered) (r : Room) (k : ℕ) → alternatives_depth more ≤ levels → r.parts ≤ 4096
      → r.parts ≡ k + alternatives_nodes more → (s ≡ true → AlternativesHaveWidths more × AreShort es × (held r ≤ 1048700))
      → Stays s (LeftBehind s k 5 r) (elements_at ms type roots 0 gs path b es g r)
  alternatives_take says_none_left front path apart b g r k deep few room short = record { given = (omega (arith, room), λ on. omega arith) }
  alternatives_take {known} {is_tagged} {place} (says_alternative {at} {w} {t} {T} {more} {marker = m} {tree} {es} is says rest) front path apart b g r k deep few room short =
      let here : r.parts ≡ (k + alternatives_nodes more) + type_nodes T = omega (arith, room) in
      let first : depth T ≤ levels = omega (arith, deep) in
      let others : alternatives_depth more ≤ levels = omega (arith, deep) in
      bind (LeftBehind s (k + alternatives_nodes more) 0 r) (LeftBehind s k 5 r) _ _
      (alternative_takes says front path at w (first_apart found known at w tree must es path apart) b g r (k + alternatives_nodes more) first few here
      (λ on. let c = (short on).2 in ((short on).0.1, (short on).1.0.1, (short on).1.0.0, omega (arith, c)))) (λ x now.
      let left = now.0 in
      weaken (LeftBehind s k 5 x.2) (LeftBehind s k 5 r) (elements_at ms type roots 0 gs path (behind b x.0) es x.1 x.2)
      (alternatives_take rest front path (rest_apart found known (component at w tree must) es path apart) (behind b x.0) x.1 x.2 k others (omega (arith, left, here, few)) left
      (λ on. let a = now.1 on in let c = (short on).2 in ((short on).0.2, (short on).1.1, omega (arith, a, c))))
      (λ y h. chained s k 0 5 5 r x.2 y (omega arith) now.1 h))
  alternatives_take {known} (says_alternatives_marker {at} {more} {es} rest) front path apart b g r k deep few room short =
      bind (LeftBehind s r.parts 5 r) (LeftBehind s k 5 r) _ _ (marker_keeps s 0 at b g r) (λ x now.
      let left = now.0 in
      weaken (LeftBehind s k 0 x.2) (LeftBehind s k 5 r) (elements_at ms type roots 0 gs path (behind b x.0) es x.1 x.2)
      (later_take rest front path (rest_apart found known (marker at []) es path apart) (behind b x.0) x.1 x.2 k deep (omega (arith, left, few)) (left ∙ room)
      (λ on. let a = now.1 on in let c = (short on).2 in ((short on).0, (short on).1.1, omega (arith, a, c))))
      (λ y h. chained s k 5 0 5 r x.2 y (omega arith) now.1 h))
