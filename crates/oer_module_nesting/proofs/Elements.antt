-- What a type has in it is nested where the types in it are: by any two functions for these, where the second gives the
-- type of the first with some of its ends replaced.
use Rattle.std.proofs.Common.{◌≡◌, ℕ, List, [], Bool, true, false, Option, Some, None, Ok, refl, ap}
use Rattle.oer_model.specs.AsnType.{AsnType, default}
use Rattle.oer_module_limits.specs.Written.{Written}
use Rattle.oer_module_names.specs.declared.error.Place.{Place}
use Rattle.oer_module_syntax.specs.Tree.{Module, Tree, Elements, no_elements, element, Element, marker, group, components_of, component}
use Rattle.oer_module_syntax.specs.Tree.{Need as Written_need, must as is_there, may as may_be, default as by_default}
use Rattle.oer_module_syntax.specs.declared.word.Builtin.{Builtin}
use Rattle.oer_module_syntax.specs.declared.word.Builtin.TheVariants as bi
use Rattle.oer_module_tags.specs.Alternatives.{alternative_tags}
use Rattle.oer_module_text.specs.Errors.{Read, place_in, ◌>>=◌}
use Rattle.oer_module_text.specs.Room.{Room}
use Rattle.oer_module_types.specs.Gathered.{Gathered, empty, with_marker}
use Rattle.oer_module_types.specs.Types.{added_at, after, behind, braces_at, closed, component_at, components_of_at, element_at, elements_at, first, included_at}
use Rattle.oer_module_types.specs.Types.{inside_at, list_at, marker_at, need_at, needed_at, root_at, root_element_at, structure_at, tag_at}
use Rattle.oer_module_types.specs.declared.element.Before.{Before}
use Rattle.oer_module_values.specs.Types.{TypeIn, type_in}
use Rattle.oer_nesting.specs.Deeper.{Deeper}
use Rattle.oer_units.specs.declared.tagging.Tag.{Tag}
use Rattle.oer_module_nesting.proofs.Alike.{Alike, Same, along, behind as behind_any, bind, choose, once}
use Rattle.oer_module_nesting.proofs.Defaults.{default as default_alike}
use Rattle.oer_module_nesting.proofs.Gathered.{AreNested, choice_nests, marked_now, none_yet, part_more, sequence_nests}

abbrev pub Types : Type 0
Types = List Place → TypeIn → Room → Read (AsnType × Room)

abbrev pub Roots : Type 0
Roots = List Place → Bool → Place → Tree → Gathered → Room → Read (Bool × Gathered × Room)

-- types with the text behind them
abbrev pub Nest : AsnType × Room → AsnType × Room → Type 0
Nest x y = Deeper x.0 y.0

-- what is gathered, with what stands before it
abbrev pub Further : {A : Type 0} → A × Gathered × Room → A × Gathered × Room → Type 0
Further x y = (x.0 ≡ y.0) × AreNested x.1 y.1

abbrev pub Between : Gathered × Room → Gathered × Room → Type 0
Between x y = AreNested x.0 y.0

abbrev pub TypesNest : Types → Types → Type 0
TypesNest f g = (path : List Place) (t : TypeIn) (r s : Room) → Alike Nest (f path t r) (g path t s)

abbrev pub RootsNest : Roots → Roots → Type 0
RootsNest f f' = (path : List Place) (any : Bool) (p : Place) (t : Tree) (g h : Gathered) (r s : Room) → AreNested g h
    → Alike Further (f path any p t g r) (f' path any p t h s)

-- ---- whether a component may be absent

added : (m at : ℕ) (need : Written_need) (r s : Room) → Alike Same (added_at m at need r) (added_at m at need s)
added m at is_there r s = record { related = refl }
added m at may_be r s = record { related = refl }
added m at (by_default v) r s = record { related = tt }

module _ (ms : List Module) where
  needed : (m : ℕ) (t : Tree) (need : Written_need) (r s : Room) → Alike Same (needed_at ms m t need r) (needed_at ms m t need s)
  needed m t is_there r s = record { related = refl }
  needed m t may_be r s = record { related = refl }
  needed m t (by_default v) r s =
      bind Same Same _ _ _ _ (default_alike ms (type_in m t) m v _ _) (λ x y same. record { related = ap default same })

  need_same : (is_added : Bool) (m at : ℕ) (t : Tree) (need : Written_need) (r s : Room)
      → Alike Same (need_at ms is_added m at t need r) (need_at ms is_added m at t need s)
  unfolding need_at
  need_same is_added m at t need r s = choose Same is_added _ _ _ _ (added m at need r s) (needed m t need r s)

-- ---- components and alternatives

module _ (ms : List Module) (type type' : Types) (types : TypesNest type type') where
  pub list_nests : (p : Place) (b : Builtin) (sized : Bool) (t : Tree) (w : Written) (path : List Place) (r s : Room)
      → Alike Nest (list_at ms type p b sized t w path r) (list_at ms type' p b sized t w path s)
  list_nests p bi.Sequence sized t w path r s =
      bind Nest Nest _ _ _ _ (types path (type_in p.«module» t) _ _) (λ x y n. record { related = (y.0, refl, n) })
  list_nests p b sized t w path r s = record { related = tt }

  component_nests : (m : ℕ) (tags : List Tag) (path : List Place) (b : Before) (at : ℕ) (name : List ℕ) (t : Tree) (need : Written_need)
      (g h : Gathered) (r s : Room) → AreNested g h
      → Alike Further (component_at ms type m tags path b at name t need g r) (component_at ms type' m tags path b at name t need h s)
  component_nests m tags path b at name t need g h r s n =
      bind Nest Further _ _ _ _ (types path (type_in m t) _ _) (λ x y is.
      bind Same Further _ _ _ _ (need_same ms b.marked m at t need x.1 y.1) (λ a c same.
      record { related = (refl, part_more g h n (tag_at tags b) name a.0 c.0 x.0 y.0 same is) }))

  module _ (roots roots' : Roots) (rest : RootsNest roots roots') where
    included_here : (p : Place) (path : List Place) (b : Before) (t : Tree) (g h : Gathered) (r s : Room) → AreNested g h
        → Alike Further (components_of_at roots p path b t g r) (components_of_at roots' p path b t h s)
    included_here p path b t g h r s n = choose Further b.marked _ _ _ _ (record { related = tt })
        (bind Further Further _ _ _ _ (rest path b.any p t g h r s n) (λ x y is. record { related = (rw is.0 refl, is.1) }))

    marker_nests : (m at : ℕ) (b : Before) (g h : Gathered) (r s : Room) → AreNested g h
        → Alike Further (marker_at m at b r >>= λ x. Ok (after true true, with_marker g, x)) (marker_at m at b s >>= λ x. Ok (after true true, with_marker h, x))
    marker_nests m at b g h r s n = behind_any Further (marker_at m at b r) (marker_at m at b s) _ _ (λ x y. record { related = (refl, marked_now g h n) })

    element_nests : (m : ℕ) (tags : List Tag) (path : List Place) (b : Before) (e : Element) (g h : Gathered) (r s : Room) → AreNested g h
        → Alike Further (element_at ms type roots m tags path b e g r) (element_at ms type' roots' m tags path b e h s)
    element_nests m tags path b (marker at x) g h r s n = marker_nests m at b g h r s n
    element_nests m tags path b (group at es) g h r s n = record { related = tt }
    element_nests m tags path b (components_of at t) g h r s n = included_here (place_in m at) path b t g h r s n
    element_nests m tags path b (component at name t need) g h r s n = component_nests m tags path b at name t need g h r s n

    elements_nest : (m : ℕ) (tags : List Tag) (path : List Place) (b : Before) (es : Elements) (g h : Gathered) (r s : Room) → AreNested g h
        → Alike Further (elements_at ms type roots m tags path b es g r) (elements_at ms type' roots' m tags path b es h s)
    elements_nest m tags path b no_elements g h r s n = record { related = (refl, n) }
    elements_nest m tags path b (element e es) g h r s n =
        bind Further Further _ _ _ _ (element_nests m tags path b e g h r s n) (λ x y is.
        along Further _ (λ a. elements_at ms type' roots' m tags path (behind b a) es y.1 y.2) x.0 y.0 is.0
        (elements_nest m tags path (behind b x.0) es x.1 y.1 x.2 y.2 is.1))

    -- of a SEQUENCE for the root of which COMPONENTS OF stands
    root_element_nests : (m : ℕ) (tags : List Tag) (path : List Place) (b : Before) (e : Element) (g h : Gathered) (r s : Room) → AreNested g h
        → Alike Further (root_element_at ms type roots m tags path b e g r) (root_element_at ms type' roots' m tags path b e h s)
    root_element_nests m tags path b (marker at x) g h r s n = choose Further b.marked _ _ _ _ (record { related = tt }) (record { related = (refl, n) })
    root_element_nests m tags path b e g h r s n =
        choose Further b.marked _ _ _ _ (record { related = (refl, n) }) (element_nests m tags path b e g h r s n)

    root_nests : (m : ℕ) (tags : List Tag) (path : List Place) (b : Before) (es : Elements) (g h : Gathered) (r s : Room) → AreNested g h
        → Alike Further (root_at ms type roots m tags path b es g r) (root_at ms type' roots' m tags path b es h s)
    root_nests m tags path b no_elements g h r s n = record { related = (refl, n) }
    root_nests m tags path b (element e es) g h r s n =
        bind Further Further _ _ _ _ (root_element_nests m tags path b e g h r s n) (λ x y is.
        along Further _ (λ a. root_at ms type' roots' m tags path (behind b a) es y.1 y.2) x.0 y.0 is.0
        (root_nests m tags path (behind b x.0) es x.1 y.1 x.2 y.2 is.1))

    pub included_nests : (p : Place) (path : List Place) (any : Bool) (m : ℕ) (es : Option Elements) (g h : Gathered) (r s : Room) → AreNested g h
        → Alike Further (included_at ms type roots p path any m es g r) (included_at ms type' roots' p path any m es h s)
    included_nests p path any m None g h r s n = record { related = tt }
    included_nests p path any m (Some es) g h r s n = root_nests m [] path (first any) es g h r s n

    -- ---- all of them

    braces_nest : (p : Place) (tags : List Tag) (path : List Place) (es : Elements) (r s : Room)
        → Alike Between (braces_at ms type roots p tags path es r) (braces_at ms type' roots' p tags path es s)
    unfolding braces_at
    braces_nest p tags path es r s =
        bind Further Between _ _ _ _ (elements_nest p.«module» tags path (first false) es empty empty r s none_yet) (λ x y is.
        behind_any Between (closed ms p x.0.marked x.2) (closed ms p y.0.marked y.2) _ _ (λ a c. record { related = is.1 }))

    inside_nests : (p : Place) (b : Builtin) (es : Elements) (path : List Place) (r s : Room)
        → Alike Nest (inside_at ms type roots p b es path r) (inside_at ms type' roots' p b es path s)
    inside_nests p bi.Sequence es path r s =
        bind Between Nest _ _ _ _ (braces_nest p [] path es _ _) (λ x y is. record { related = sequence_nests x.0 y.0 is })
    inside_nests p bi.Choice es path r s =
        once Nest (alternative_tags ms p.«module» es) _ _ (λ tags are.
        bind Between Nest _ _ _ _ (braces_nest p tags path es _ _) (λ x y is. record { related = choice_nests x.0 y.0 is }))
    inside_nests p b es path r s = record { related = tt }

    pub structure_nests : (p : Place) (b : Builtin) (es : Elements) (w : Written) (path : List Place) (r s : Room)
        → Alike Nest (structure_at ms type roots p b es w path r) (structure_at ms type' roots' p b es w path s)
    unfolding structure_at
    structure_nests p b es w path r s =
        bind Nest Nest _ _ _ _ (inside_nests p b es path r s) (λ x y is. record { related = is })
