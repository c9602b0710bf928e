-- A tree that says a type of the notation is given that type: by induction on the levels.
use Rattle.std.proofs.Common.{◌≡◌, ◌∙◌, ◌⊎◌, ◌<◌, ◌≤◌, ℕ, zero, suc, List, [], ◌∷◌, ◌++◌, length, Bool, true, false, inl, inr, not, ◌&&◌, slice_get, Option, None, Result, Ok, Err, ◌+◌, arith, refl, sym, ap, subst}
use Rattle.oer_model.specs.AsnType.{Additions, Alternatives, AsnType, Fields, alternative, choice, extensible_sequence, leaf, sequence, sequence_of}
use Rattle.oer_model.specs.Constraints.{any_size}
use Rattle.oer_model.specs.LeafType.{LeafType}
use Rattle.oer_model.specs.WellFormed.{InFields}
use Rattle.oer_module_leaves.specs.Leaves.{has_implied, is_implied, leaf_at}
use Rattle.oer_module_limits.specs.Written.{Written, written}
use Rattle.oer_module_names.specs.declared.error.Place.{Place}
use Rattle.oer_module_places.specs.Rising.{AllLie, Lies, Rise}
use Rattle.oer_module_syntax.specs.Tree.{Assignment, Module, Tree, Elements, list_of, plain, structure}
use Rattle.oer_module_lexer.specs.Token.{Spot}
use Rattle.oer_module_syntax.specs.declared.word.Builtin.{Builtin}
use Rattle.oer_module_syntax.specs.declared.word.Builtin.TheVariants as bi
use Rattle.oer_module_tags.specs.Alternatives.{alternative_tags}
use Rattle.oer_module_text.specs.Errors.{Read, place_in, told_by, unresolved}
use Rattle.oer_module_text.specs.Room.{Room, take_part}
use Rattle.oer_module_types.specs.Gathered.{Gathered, choice_in, empty, sequence_in}
use Rattle.oer_module_types.specs.Levels.{is_full}
use Rattle.oer_module_types.specs.Types.{braces_at, closed, first, list_at, meant_as, meant_by, nested_at, roots_at, single_at, single_by, stands_for, structure_at, type_at, type_place}
use Rattle.oer_module_values.specs.Errors.{Error as ToldError}
use Rattle.oer_module_values.specs.Types.{Meaning, TypeIn, meaning, type_in}
use Rattle.oer_notation.specs.Reading.{Known}
use Rattle.oer_same_items.proofs.Limited.{not_both, take_passes}
use Rattle.oer_same_items.proofs.Telling.{Gives, Passes, bind, choose, weaken}
use Rattle.oer_same_items.specs.Told.{IsLimit, Tells}
use Rattle.oer_same_names.specs.Home.{IsBare, IsFront, IsHome}
use Rattle.oer_same_names.specs.Meant.{AreTagsOf, IsBuilt, IsMeantBy, IsTreeBehind, LeadsToType, tags_of}
use Rattle.oer_same_names.specs.Laws.{AlternativesAreMeant, TagsAreTheirs, TypesAreMeant}
use Rattle.oer_same_trees.specs.Says.{Says, SaysAlternatives, SaysComponents, says_leaf, says_name, says_sequence, says_extensible_sequence, says_sequence_of, says_choice}
use Rattle.oer_units.specs.declared.tagging.Tag.{Tag}
use Rattle.oer_same_types.proofs.Clear.{Inside, clear_alone, clear_led, inside}
use Rattle.oer_same_types.proofs.Elements.{AlternativesSay, AreApart, AreTagsFrom, DefaultsSay, IsApart, IsFor}
use Rattle.oer_same_types.proofs.Elements.{OrdinaryAlternatives, OrdinaryComponents, Roots, Types, TypesSay, alternatives_given, components_given}
use Rattle.oer_same_types.proofs.Ordinary.{OddAdditions, OrdinaryTree, few_steps, standard_led}
use Rattle.oer_same_types.proofs.Gathering.{choice_gathered, extensible_sequence_gathered, sequence_gathered}
use Rattle.oer_same_types.specs.Gathering.{with_alternatives, with_fields}
use Rattle.oer_same_types.specs.Ordinary.{AllStandard, IsOdd}
use Rattle.oer_same_types.specs.Unsized.{unsized}

-- each tree that says a type that holds no other is given it
abbrev pub LeavesSay : Bool → List Module → List Known → Type 0
LeavesSay o ms ks = (known : List Known) (L : LeafType) (t : Tree) (p : Place) (m : Meaning) (r : Room) → IsFront known ks → Says known (leaf L) t
    → IsBuilt t → m.of ≡ type_in 0 t → IsBare m.given → (o ≡ true → OrdinaryTree ms (leaf L) t)
    → Gives o (λ (x : AsnType × Room). x.0 ≡ leaf L) (leaf_at ms p m r)

-- ---- the header, and what is found by other laws

-- it implies no markers
pub none_implied : (ms : List Module) (ks : List Known) → IsHome ms ks → is_implied ms 0 ≡ false
none_implied ms ks home = ap (λ l. has_implied (slice_get l 0)) home.alone ∙ home.plain.not_extensible

closed_passes : (o : Bool) (ms : List Module) (at : ℕ) (marked : Bool) (r : Room) → is_implied ms 0 ≡ false → Passes o (closed ms (place_in 0 at) marked r)
unfolding closed
closed_passes o ms at marked r none = choose _ (not marked && is_implied ms 0) _ _ (λ lacks. absurd (not_both (not marked) (is_implied ms 0) none lacks))
    (λ has. record { given = tt })

tags_told : (o : Bool) (own : List Tag) (r : Read (List Tag)) → AreTagsOf own r → Gives o (λ gs. gs ≡ own) r
tags_told o own (Ok gs) h = record { given = h }
tags_told o own (Err e) h = record { given = subst (IsLimit o) (sym h) tt }

meaning_told : (o : Bool) (found : List Assignment) (ks known : List Known) (T : AsnType) (t : Tree) (r : Result Meaning ToldError) → IsFront known ks
    → (o ≡ true → length ks < 254) → LeadsToType found ks known T t r → Gives o (IsMeantBy found ks known T t) (told_by r)
meaning_told o found ks known T t (Ok m) front few h = record { given = h }
meaning_told o found ks known T t (Err e) front few h =
    record { given = subst (λ w. IsLimit o (unresolved w)) (sym h.0) (few_steps o ks known front few h.1) }

-- without a marker there are no additions
no_more : (fs : Fields) → ¬ InFields IsOdd fs → InFields IsOdd fs ⊎ OddAdditions None → ⊥
no_more fs h (inl x) = h x
no_more fs h (inr x) = x

-- what stands no deeper than types may nest isn't ended
nested : (o : Bool) (T : AsnType) (nesting levels : ℕ) (within : List Place → Room → Read (AsnType × Room)) (p : Place) (path : List Place) (r : Room)
    → is_full nesting p path ≡ false → Gives o (IsFor T) (within (path ++ p ∷ []) r) → Gives o (IsFor T) (nested_at nesting levels within p path r)
unfolding nested_at
nested o T nesting levels within p path r room h = choose _ (is_full nesting p path) _ _ (λ full. absurd (cc (full, room))) (λ off. h)

module _ (o : Bool) (ms : List Module) (ks : List Known) (defaults : DefaultsSay o ms ks) (leaves : LeavesSay o ms ks) (tags : TagsAreTheirs)
    (home : IsHome ms ks) (type : Types) (types : TypesSay o ms home.home.assignments ks type) (alternatives : AlternativesSay o ms home.home.assignments ks type)
    (roots : Roots) where
  abbrev found : List Assignment
  found = home.home.assignments

  -- ---- what stands between braces

  abbrev Around : Gathered → Gathered × Room → Type 0
  Around h x = x.0 ≡ h

  fields_between : {known : List Known} {fs : Fields} {more : Option Additions} {es : Elements} → SaysComponents known fs more es → IsFront known ks
      → (at : ℕ) (path : List Place) → AreApart found known es path → (r : Room) → (o ≡ true → OrdinaryComponents ms fs more es)
      → Gives o (Around (with_fields fs more empty)) (braces_at ms type roots (place_in 0 at) [] path es r)
  unfolding braces_at
  fields_between {fs} {more} says front at path apart r fits =
      bind (λ x. x.1 ≡ with_fields fs more empty) _ _ _ (components_given o ms found ks type types defaults roots says front path apart
      (first false) empty empty r refl refl fits) (λ x now.
      bind _ _ (closed ms (place_in 0 at) x.0.marked x.2) _ (closed_passes o ms at x.0.marked x.2 (none_implied ms ks home)) (λ s u. record { given = now }))

  alternatives_between : {known : List Known} {is_tagged : Bool} {more : Alternatives} {marker : Bool} {es : Elements}
      → SaysAlternatives known is_tagged 0 more marker es → IsFront known ks → (gs : List Tag) → gs ≡ tags_of more
      → (at : ℕ) (path : List Place) → AreApart found known es path → (r : Room) → (o ≡ true → OrdinaryAlternatives ms more es)
      → Gives o (Around (with_alternatives marker more empty)) (braces_at ms type roots (place_in 0 at) gs path es r)
  unfolding braces_at
  alternatives_between {more} {marker} says front gs are at path apart r fits =
      bind (λ x. x.1 ≡ with_alternatives marker more empty) _ _ _
      (alternatives_given o ms found ks type alternatives roots gs says front path apart (first false) empty empty r 0 refl refl tags_here refl fits) (λ x now.
      bind _ _ (closed ms (place_in 0 at) x.0.marked x.2) _ (closed_passes o ms at x.0.marked x.2 (none_implied ms ks home)) (λ s u. record { given = now })) where
        tags_here : AreTagsFrom gs 0 (tags_of more)
        tags_here k = let e : 0 + k ≡ k = omega arith in rw (e, are) refl

  -- ---- with the braces

  sequence_inside : {known : List Known} {fs : Fields} {more : Option Additions} {es : Elements} → SaysComponents known fs more es → IsFront known ks
      → (T : AsnType) → sequence_in (with_fields fs more empty) ≡ unsized T → (at : ℕ) (w : Written) (path : List Place)
      → AreApart found known es path → (r : Room) → (o ≡ true → OrdinaryComponents ms fs more es)
      → Gives o (IsFor T) (structure_at ms type roots (place_in 0 at) bi.Sequence es w path r)
  unfolding structure_at
  sequence_inside {fs} {more} says front T is at w path apart r fits =
      bind (IsFor T) _ _ _ (bind (Around (with_fields fs more empty)) _ _ _ (fields_between says front at path apart _ fits) (λ x now.
      record { given = ap sequence_in now ∙ is })) (λ y now. record { given = now })

  choice_inside : {known : List Known} {is_tagged : Bool} {more : Alternatives} {marker : Bool} {es : Elements}
      → SaysAlternatives known is_tagged 0 more marker es → IsFront known ks → (at : ℕ) (w : Written) (path : List Place)
      → AreApart found known es path → (r : Room) → (o ≡ true → OrdinaryAlternatives ms more es)
      → Gives o (IsFor (choice marker more)) (structure_at ms type roots (place_in 0 at) bi.Choice es w path r)
  unfolding structure_at
  choice_inside {known} {is_tagged} {more} {marker} {es} says front at w path apart r fits =
      bind (IsFor (choice marker more)) _ _ _ (bind _ _ (alternative_tags ms 0 es) _
      (tags_told o (tags_of more) (alternative_tags ms 0 es) (tags ms ks known is_tagged more marker es home says)) (λ gs are.
      bind (Around (with_alternatives marker more empty)) _ _ _ (alternatives_between says front gs are at path apart _ fits) (λ x now.
      record { given = ap choice_in now ∙ choice_gathered says }))) (λ y now. record { given = now })

  module _ (nesting levels : ℕ) (once_at_least : 1 ≤ nesting) where
    -- what stands in a type in braces, and in a list
    in_braces : (known : List Known) (at : ℕ) (b : Builtin) (es : Elements) (constraints : List Spot) (path : List Place)
        → IsApart found known (structure at b es constraints) path → Inside (λ low high. AllLie low high es) found known nesting at path
    in_braces known at b es constraints path apart =
        inside (λ low high. Lies low high (structure at b es constraints)) (λ low high. AllLie low high es) found known nesting at path once_at_least
        (λ low high l. l) apart

    in_list : (known : List Known) (at : ℕ) (b : Builtin) (sized : Bool) (ss : List Spot) (t : Tree) (path : List Place)
        → IsApart found known (list_of at b sized ss None t) path → Inside (λ low high. Lies low high t) found known nesting at path
    in_list known at b sized ss t path apart =
        inside (λ low high. Lies low high (list_of at b sized ss None t)) (λ low high. Lies low high t) found known nesting at path once_at_least
        (λ low high l. l) apart

    -- a type that holds no other
    leaf_meant : {known : List Known} {L : LeafType} {at : ℕ} {b : Builtin} {items constraints : List Spot} → Says known (leaf L) (plain at b items constraints)
        → IsFront known ks → (p : Place) (m : Meaning) (r : Room) → m.of ≡ type_in 0 (plain at b items constraints) → IsBare m.given
        → (o ≡ true → OrdinaryTree ms (leaf L) (plain at b items constraints)) → Gives o (IsFor (leaf L)) (single_at ms p m r)
    unfolding single_at
    leaf_meant {known} {L} {at} {b} {items} {constraints} says front p m r of bare fits =
        subst (λ (u : TypeIn). Gives o (IsFor (leaf L)) (single_by ms p m u.«module» u.type r)) (sym of)
        (weaken _ (IsFor (leaf L)) (leaf_at ms p m r) (leaves known L _ p m r front says tt of bare fits) (λ x is. is))

    meant : {known : List Known} {T : AsnType} {t : Tree} → Says known T t → IsFront known ks → IsBuilt t → (path : List Place) → IsApart found known t path
        → (p : Place) (m : Meaning) (r : Room) → m.of ≡ type_in 0 t → IsBare m.given → (o ≡ true → OrdinaryTree ms T t)
        → Gives o (IsFor T) (meant_as ms nesting levels type roots path p m 0 t r)
    meant (says_leaf {at} k {L} {ts} {items} {constraints} is a c) front built path apart p m r of bare fits = leaf_meant
        (says_leaf {at = at} k {L = L} {ts = ts} {items = items} {constraints = constraints} is a c) front p m r of bare fits
    meant (says_name is defined) front built path apart p m r of bare fits = absurd built
    meant {known} (says_sequence {at} {fs} {es} says) front built path apart p m r of bare fits =
        let deep = in_braces known at bi.Sequence es [] path apart in
        nested o (sequence fs) nesting levels (structure_at ms type roots (place_in 0 at) bi.Sequence es (written 0 [] m.given)) (place_in 0 at) path r
        deep.room (sequence_inside says front (sequence fs) (sequence_gathered fs) at (written 0 [] m.given) _ deep.clear r
        (λ on. let f = fits on in (no_more fs (λ x. f.0 (inr x)), (f.1, tt), f.2)))
    meant {known} (says_extensible_sequence {at} {fs} {more} {es} says) front built path apart p m r of bare fits =
        let deep = in_braces known at bi.Sequence es [] path apart in
        nested o (extensible_sequence fs more) nesting levels (structure_at ms type roots (place_in 0 at) bi.Sequence es (written 0 [] m.given)) (place_in 0 at) path r
        deep.room (sequence_inside says front (extensible_sequence fs more) (extensible_sequence_gathered fs more) at (written 0 [] m.given) _ deep.clear r
        (λ on. let f = fits on in ((λ x. f.0 (inr x)), f.1, f.2)))
    meant {known} (says_sequence_of {at} {size} {T} {sized} {ss} {t} sizes says) front built path apart p m r of bare fits =
        let deep = in_list known at bi.Sequence sized ss t path apart in
        nested o (sequence_of size T) nesting levels (list_at ms type (place_in 0 at) bi.Sequence sized t (written 0 ss m.given)) (place_in 0 at) path r
        deep.room (bind (IsFor T) _ _ _ (types known T t _ _ front says deep.clear (λ on. let f = fits on in ((λ x. f.0 (inr x)), f.1.1, f.2)))
        (λ x is. record { given = ap (sequence_of any_size) is }))
    meant {known} (says_choice {at} {tagged} {marker} {w} {t} {T} {more} {es} says) front built path apart p m r of bare fits =
        let deep = in_braces known at bi.Choice es [] path apart in
        nested o (choice marker (alternative w t T more)) nesting levels (structure_at ms type roots (place_in 0 at) bi.Choice es (written 0 [] m.given)) (place_in 0 at) path r
        deep.room (choice_inside says front at (written 0 [] m.given) _ deep.clear r (λ on. let f = fits on in ((λ x. f.0 (inr x)), f.1.1, f.2)))

    found_meant : (known : List Known) (T : AsnType) (t : Tree) (path : List Place) (p : Place) (m : Meaning) (r : Room) → Rise 0 found
        → (o ≡ true → AllStandard ms found) → IsApart found known t path → IsMeantBy found ks known T t m → (o ≡ true → OrdinaryTree ms T t)
        → Gives o (IsFor T) (meant_by ms nesting levels type roots path p m r)
    found_meant known T t path p m r rise standard apart y fits =
        let is = y.meant in
        subst (λ (u : TypeIn). Gives o (IsFor T) (meant_as ms nesting levels type roots path p m u.«module» u.type r)) (sym is.of)
        (meant is.says.says is.says.front is.built path (clear_led found known is.says.known t is.tree path rise apart y.leads) p m r is.of is.bare
        (λ on. let f = fits on in (f.0, f.1, standard_led ms found known is.says.known t is.tree (standard on) f.2 y.leads)))

-- ---- all levels

module _ (o : Bool) (ms : List Module) (ks : List Known) (few : o ≡ true → length ks < 254) (defaults : DefaultsSay o ms ks) (leaves : LeavesSay o ms ks)
    (means : TypesAreMeant) (choices : AlternativesAreMeant) (tags : TagsAreTheirs) (home : IsHome ms ks) (rise : Rise 0 home.home.assignments) (nesting : ℕ)
    (once_at_least : 1 ≤ nesting) (standard : o ≡ true → AllStandard ms home.home.assignments) where
  record All_say (levels : ℕ) : Type 0 where
    types : TypesSay o ms home.home.assignments ks (type_at ms nesting levels)
    alternatives : AlternativesSay o ms home.home.assignments ks (type_at ms nesting levels)

  none_types : TypesSay o ms home.home.assignments ks (type_at ms nesting zero)
  unfolding type_at
  none_types known T t path r front says apart fits = record { given = tt }

  none_alternatives : AlternativesSay o ms home.home.assignments ks (type_at ms nesting zero)
  unfolding type_at
  none_alternatives known is_tagged place tag T t path r front says apart fits = record { given = tt }

  -- by what a tree stands for
  standing : (levels : ℕ) → All_say levels → (known : List Known) (T : AsnType) (t : Tree) (path : List Place) (r : Room)
      → IsFront known ks → IsApart home.home.assignments known t path
      → LeadsToType home.home.assignments ks known T t (meaning ms (type_in 0 t)) → (o ≡ true → OrdinaryTree ms T t)
      → Gives o (IsFor T) (type_at ms nesting (suc levels) path (type_in 0 t) r)
  unfolding type_at stands_for
  standing levels l known T t path r front apart is_meant fits =
      bind _ _ (told_by (meaning ms (type_in 0 t))) _ (meaning_told o home.home.assignments ks known T t (meaning ms (type_in 0 t)) front few is_meant) (λ m meant.
      bind _ _ (take_part (type_place m.of) r) _ (take_passes o (type_place m.of) r) (λ s u.
      found_meant o ms ks defaults leaves tags home (type_at ms nesting levels) l.types l.alternatives (roots_at ms nesting levels) nesting levels once_at_least
      known T t path (type_place (type_in 0 t)) m s rise standard apart meant fits))

  all_levels : (levels : ℕ) → All_say levels
  all_levels zero = record { types = none_types; alternatives = none_alternatives }
  all_levels (suc levels) = record {
    types = λ known T t path r front says apart fits. standing levels (all_levels levels) known T t path r front apart
        (means ms ks known T t home front says) fits;
    alternatives = λ known is_tagged place tag T t path r front says apart fits. standing levels (all_levels levels) known T t path r front apart
        (choices ms ks known is_tagged place tag T t home front says) fits;
  }

  pub type_same : (known : List Known) (T : AsnType) (t : Tree) (levels : ℕ) (r : Room) → IsFront known ks
      → IsTreeBehind home.home.assignments known t → Says known T t → (o ≡ true → OrdinaryTree ms T t)
      → Tells o (IsFor T) (type_at ms nesting levels [] (type_in 0 t) r)
  type_same known T t levels r front there says fits =
      ((all_levels levels).types known T t [] r front says (clear_alone home.home.assignments known t rise there) fits).given
