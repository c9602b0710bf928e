-- The components of a type, and those that a value gives, don't depend on the room that its text has.
use Rattle.std.proofs.Common.{◌≡◌, ℕ, zero, suc, List, [], Bool, ◌&&◌, Ok, refl}
use Rattle.oer_module_defaults.specs.Alternatives.{Alternative, alternative_at, alternative_in, index_of}
use Rattle.oer_module_defaults.specs.Components.{Component, behind, components_at, element_at, elements_at, elements_of, included_at, included_by, inner_at}
use Rattle.oer_module_defaults.specs.Components.{meant_at, root_of, roots_at, sequence_of, whole}
use Rattle.oer_module_defaults.specs.Governors.{Governor}
use Rattle.oer_module_defaults.specs.declared.component.Listing.{Listing}
use Rattle.oer_module_names.specs.declared.error.Place.{Place}
use Rattle.oer_module_syntax.specs.Tree.{Module, Tree, Elements, no_elements, element, Element, marker, group, components_of, component}
use Rattle.oer_module_tags.specs.Alternatives.{alternative_tags}
use Rattle.oer_module_text.specs.Errors.{Read, place_in, told_by, ◌>>=◌}
use Rattle.oer_module_text.specs.Room.{Room, take_part}
use Rattle.oer_module_values.specs.Types.{meaning, type_in}
use Rattle.oer_module_nesting.proofs.Alike.{Alike, Same, along, behind as behind_any, bind, choose, once}

abbrev Included : Type 0
Included = Place → Tree → List Component → Room → Read (List Component × Room)

abbrev IncludesSame : Included → Type 0
IncludesSame f = (p : Place) (t : Tree) (found : List Component) (r s : Room) → Alike Same (f p t found r) (f p t found s)

module _ (included : Included) (same : IncludesSame included) where
  of_included : (l : Listing) (p : Place) (t : Tree) (found : List Component) (r s : Room)
      → Alike Same (included_at included l p t found r) (included_at included l p t found s)
  of_included l p t found r s = choose Same l.marked _ _ _ _ (record { related = tt }) (same p t found r s)

  inner : (l : Listing) (e : Element) (found : List Component) (r s : Room)
      → Alike Same (inner_at included l e found r) (inner_at included l e found s)
  inner l (marker at x) found r s = record { related = refl }
  inner l (group at es) found r s = record { related = tt }
  inner l (components_of at t) found r s = of_included l (place_in l.«module» at) t found r s
  inner l (component at w t need) found r s =
      behind_any Same (take_part (place_in l.«module» at) r) (take_part (place_in l.«module» at) s) _ _ (λ r' s'. record { related = refl })

  of_element : (l : Listing) (e : Element) (found : List Component) (r s : Room)
      → Alike Same (element_at included l e found r) (element_at included l e found s)
  of_element l (marker at x) found r s = choose Same l.marked _ _ _ _ (record { related = tt }) (record { related = refl })
  of_element l e found r s = choose Same (l.root && l.marked) _ _ _ _ (record { related = refl }) (inner l e found r s)

  of_elements : (l : Listing) (es : Elements) (found : List Component) (r s : Room)
      → Alike Same (elements_at included l es found r) (elements_at included l es found s)
  of_elements l no_elements found r s = record { related = refl }
  of_elements l (element e es) found r s =
      bind Same Same _ _ _ _ (of_element l e found r s) (λ x y is.
      along Same _ (λ cs. elements_at included (behind l e) es cs y.1) x.0 y.0 is (of_elements (behind l e) es x.0 x.1 y.1))

module _ (ms : List Module) where
  meant : (included : Included) → IncludesSame included → IncludesSame (meant_at ms included)
  meant included same p t found r s =
      once Same (told_by (meaning ms (type_in p.«module» t))) _ _ (λ u is.
      behind_any Same (take_part p r) (take_part p s) _ _ (λ r' s'.
      once Same (included_by p (sequence_of u.of.type)) _ _ (λ es have. of_elements included same (root_of u.of.«module») es found r' s')))

  none_included : IncludesSame (roots_at ms zero)
  unfolding roots_at
  none_included p t found r s = record { related = tt }

  more_included : (levels : ℕ) → IncludesSame (roots_at ms levels) → IncludesSame (roots_at ms (suc levels))
  unfolding roots_at
  more_included levels same p t found r s = meant (roots_at ms levels) same p t found r s

  all_included : (levels : ℕ) → IncludesSame (roots_at ms levels)
  all_included zero = none_included
  all_included (suc levels) = more_included levels (all_included levels)

  pub components_same : (m : ℕ) (es : Elements) (r s : Room) → Alike Same (components_at ms m es r) (components_at ms m es s)
  unfolding components_at
  components_same m es r s = of_elements (roots_at ms 32) (all_included 32) (whole m) es [] r s

  pub alternative_same : (p : Place) (g : Governor) (w : List ℕ) (r s : Room)
      → Alike Same (alternative_at ms p g w r) (alternative_at ms p g w s)
  unfolding alternative_at
  alternative_same p g w r s =
      once Same (elements_of p g.type) _ _ (λ es have. once Same (alternative_tags ms g.«module» es) _ _ (λ ts are.
      bind Same Same _ _ _ _ (components_same g.«module» es r s) (λ x y is.
      along Same _ (λ cs. alternative_in p ts cs (index_of 0 w cs) >>= λ a. Ok (a, y.1)) x.0 y.0 is
      (once Same (alternative_in p ts x.0 (index_of 0 w x.0)) _ _ (λ a found. record { related = refl })))))
