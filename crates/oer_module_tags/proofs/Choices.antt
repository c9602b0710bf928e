-- What is found for the alternatives of a CHOICE are their tags.
use Rattle.std.proofs.Common.{◌≡◌, ℕ, pos, List, [], ◌∷◌, map, Some, None, Ok, Err, refl, sym, ap₂, subst, ◌∙◌}
use Rattle.std.proofs.Common.{Bool, true, false, ◌&&◌, if◌then◌else◌}
use Rattle.oer_module_lexer.specs.Token.{Spot}
use Rattle.oer_module_names.specs.Finding.{module_place}
use Rattle.oer_module_names.specs.declared.error.Place.{Place}
use Rattle.oer_module_parts.proofs.AutomaticLaw.{automatic_in_order}
use Rattle.oer_module_parts.specs.Automatic.{are_untagged, automatic_numbers, marks_of, places_of}
use Rattle.oer_module_syntax.specs.Tree.{Module, Tree, Elements, Need, marker, group, components_of, component, no_elements, element}
use Rattle.oer_module_text.specs.Errors.{Read, ◌>>=◌}
use Rattle.oer_module_values.specs.Types.{type_in}
use Rattle.oer_units.specs.declared.tagging.Class.TheVariants.{Context}
use Rattle.oer_units.specs.declared.tagging.Tag.{Tag}
use Rattle.oer_module_tags.proofs.Tagging.{fits, sound}
use Rattle.oer_module_tags.specs.Alternatives.{HaveTags, no_tags, behind_marker, another_tag, AreTags, automatic, by_types}
use Rattle.oer_module_tags.specs.Alternatives.{checked, context_tags, automatic_tags, onto, own_tags, alternative_tags}
use Rattle.oer_module_tags.specs.Headers.{tags_automatically}
use Rattle.oer_module_tags.specs.Outermost.{tag, HasTag, fitting, outermost_tag}

-- ---- the tags of types

module _ (ms : List Module) (m : ℕ) where
  module _ (es : Elements) (gs : List Tag) (on : (hs : List Tag) → own_tags ms m es ≡ Ok hs → HaveTags ms m es hs) where
    marker_has : (at : ℕ) (x : List Spot) (r : Read (List Tag)) → own_tags ms m es ≡ r → (r >>= λ hs. Ok (onto None hs)) ≡ Ok gs
        → HaveTags ms m (element (marker at x) es) gs
    marker_has at x (Err e) is h = absurd (cc)
    marker_has at x (Ok hs) is h =
        let same : hs ≡ gs = cc in
        subst (HaveTags ms m (element (marker at x) es)) same (behind_marker at x es hs (on hs is))

    module _ (at : ℕ) (w : List ℕ) (t : Tree) (need : Need) where
      rest_have : (g : Tag) → HasTag ms m t g → (r : Read (List Tag)) → own_tags ms m es ≡ r → (r >>= λ hs. Ok (onto (Some g) hs)) ≡ Ok gs
          → HaveTags ms m (element (component at w t need) es) gs
      rest_have g has (Err e) is h = absurd (cc)
      rest_have g has (Ok hs) is h =
          let same : g ∷ hs ≡ gs = cc in
          subst (HaveTags ms m (element (component at w t need) es)) same (another_tag at w t need g es hs has (on hs is))

      first_has : (r : Read Tag) → outermost_tag ms (type_in m t) ≡ r
          → ((r >>= λ g. Ok (Some g)) >>= λ g. own_tags ms m es >>= λ hs. Ok (onto g hs)) ≡ Ok gs
          → HaveTags ms m (element (component at w t need) es) gs
      first_has (Err e) is h = absurd (cc)
      first_has (Ok g) is h = rest_have g (sound ms 255 (type_in m t) g is) (own_tags ms m es) refl h

  have_tags : (es : Elements) (gs : List Tag) → own_tags ms m es ≡ Ok gs → HaveTags ms m es gs
  have_tags no_elements gs h = let same : [] ≡ gs = cc in subst (HaveTags ms m no_elements) same no_tags
  have_tags (element (marker at x) es) gs h = marker_has es gs (have_tags es) at x (own_tags ms m es) refl h
  have_tags (element (group at inner) es) gs h = absurd (cc)
  have_tags (element (components_of at from) es) gs h = absurd (cc)
  have_tags (element (component at w t need) es) gs h = first_has es gs (have_tags es) at w t need (outermost_tag ms (type_in m t)) refl h

-- ---- automatic tags

module _ (p : Place) (n : ℕ) (ns : List ℕ) (gs : List Tag) (on : (hs : List Tag) → context_tags p ns ≡ Ok hs → hs ≡ map (tag Context) ns) where
  rest_are : (k : ℕ) → n ≡ k → (r : Read (List Tag)) → context_tags p ns ≡ r → (r >>= λ hs. Ok (tag Context k ∷ hs)) ≡ Ok gs
      → gs ≡ map (tag Context) (n ∷ ns)
  rest_are k e (Err _) is h = absurd (cc)
  rest_are k e (Ok hs) is h =
      let same : tag Context k ∷ hs ≡ gs = cc in
      sym same ∙ ap₂ (λ x xs. tag Context x ∷ xs) (sym e) (on hs is)

  first_is : (r : Read ℕ) → fitting p (pos n) ≡ r
      → ((r >>= λ k. Ok (tag Context k)) >>= λ g. context_tags p ns >>= λ hs. Ok (g ∷ hs)) ≡ Ok gs → gs ≡ map (tag Context) (n ∷ ns)
  first_is (Err e) is h = absurd (cc)
  first_is (Ok k) is h = let q = fits p (pos n) k is in let same : n ≡ k = cc in rest_are k same (context_tags p ns) refl h

are_context : (p : Place) (ns : List ℕ) (gs : List Tag) → context_tags p ns ≡ Ok gs → gs ≡ map (tag Context) ns
are_context p [] gs h = let same : [] ≡ gs = cc in sym same
are_context p (n ∷ ns) gs h = first_is p n ns gs (are_context p ns) (fitting p (pos n)) refl h

-- ---- the tags of alternatives

module _ (ms : List Module) (m : ℕ) (es : Elements) (gs : List Tag) where
  checked_are : (r : Read (Unit {0})) → (tags_automatically ms m && are_untagged (marks_of es)) ≡ true
      → (r >>= λ _. automatic_tags (module_place ms m) (marks_of es)) ≡ Ok gs → AreTags ms m es gs
  checked_are (Err e) a h = absurd (cc)
  checked_are (Ok _) a h =
      automatic (automatic_numbers (places_of 0 (marks_of es))) a (automatic_in_order (places_of 0 (marks_of es)))
      (are_context (module_place ms m) (automatic_numbers (places_of 0 (marks_of es))) gs h)

  either_are : (b : Bool) → (tags_automatically ms m && are_untagged (marks_of es)) ≡ b
      → (if b then (checked m es >>= λ _. automatic_tags (module_place ms m) (marks_of es)) else own_tags ms m es) ≡ Ok gs → AreTags ms m es gs
  either_are true a h = checked_are (checked m es) a h
  either_are false a h = by_types a (have_tags ms m es gs h)

  pub are_tags : alternative_tags ms m es ≡ Ok gs → AreTags ms m es gs
  unfolding alternative_tags
  are_tags h = either_are (tags_automatically ms m && are_untagged (marks_of es)) refl h
