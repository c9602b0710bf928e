-- The tags of the alternatives of a CHOICE (X.680, 29.2 to 29.5; X.696, 20).
use Rattle.std.specs.Prelude.{◌≡◌, ℕ, pos, List, [], ◌∷◌, map, true, false, ◌&&◌, Option, Some, None, Ok, if◌then◌else◌}
use Rattle.oer_module_lexer.specs.Token.{Spot}
use Rattle.oer_module_names.specs.Finding.{module_place}
use Rattle.oer_module_names.specs.declared.error.Place.{Place}
use Rattle.oer_module_parts.specs.Automatic.{AreAutomatic, are_untagged, automatic_numbers, marks_of, places_of}
use Rattle.oer_module_parts.specs.declared.automatic.Mark.{Mark}
use Rattle.oer_module_syntax.specs.Tree.{Module, Tree, Element, Elements, Need, marker, group, components_of, component, no_elements, element}
use Rattle.oer_module_text.specs.Errors.{Read, refused, ◌>>=◌}
use Rattle.oer_module_text.specs.declared.error.Part.TheVariants as part
use Rattle.oer_module_values.specs.Types.{type_in}
use Rattle.oer_units.specs.declared.tagging.Class.TheVariants.{Context}
use Rattle.oer_units.specs.declared.tagging.Tag.{Tag}
use Rattle.oer_module_tags.specs.Headers.{tags_automatically}
use Rattle.oer_module_tags.specs.Outermost.{tag, HasTag, fitting, outermost_tag}

-- ---- the relation

module _ (ms : List Module) (m : ℕ) where
  -- the outermost tag of the type of each alternative in a module; a marker has none
  pub data HaveTags : Elements → List Tag → Type 0 where
    no_tags : HaveTags no_elements []
    behind_marker : (at : ℕ) (exception : List Spot) (es : Elements) (gs : List Tag) → HaveTags es gs
        → HaveTags (element (marker at exception) es) gs
    another_tag : (at : ℕ) (w : List ℕ) (t : Tree) (need : Need) (g : Tag) (es : Elements) (gs : List Tag) → HasTag ms m t g
        → HaveTags es gs → HaveTags (element (component at w t need) es) (g ∷ gs)

  -- The tags of the alternatives of a CHOICE in a module: automatic ones, where the header says AUTOMATIC TAGS and none of
  -- them has a tag (29.2 to 29.5); else the outermost tags of their types.
  pub data AreTags (es : Elements) (gs : List Tag) : Type 0 where
    automatic : (ns : List ℕ) → (tags_automatically ms m && are_untagged (marks_of es)) ≡ true → AreAutomatic (places_of 0 (marks_of es)) ns
        → gs ≡ map (tag Context) ns → AreTags es gs
    by_types : (tags_automatically ms m && are_untagged (marks_of es)) ≡ false → HaveTags es gs → AreTags es gs

-- ---- as the code has it

-- the type of an alternative; none of a marker
abbrev pub type_at : ℕ → Element → Read (Option Tree)
type_at m (marker at exception) = Ok None
type_at m (group at es) = refused m at part.Group
type_at m (components_of at from) = refused m at part.ComponentsOf
type_at m (component at name from need) = Ok (Some from)

-- nothing else than alternatives and markers
abbrev pub checked : ℕ → Elements → Read (Unit {0})
checked m no_elements = Ok tt
checked m (element e es) = type_at m e >>= λ t. checked m es

abbrev pub context_tag : Place → ℕ → Read Tag
context_tag p n = fitting p (pos n) >>= λ k. Ok (tag Context k)

abbrev pub context_tags : Place → List ℕ → Read (List Tag)
context_tags p [] = Ok []
context_tags p (n ∷ ns) = context_tag p n >>= λ g. context_tags p ns >>= λ gs. Ok (g ∷ gs)

abbrev pub automatic_tags : Place → List Mark → Read (List Tag)
automatic_tags p ks = context_tags p (automatic_numbers (places_of 0 ks))

abbrev pub onto : Option Tag → List Tag → List Tag
onto None gs = gs
onto (Some g) gs = g ∷ gs

module _ (ms : List Module) where
  abbrev pub tag_of_type : ℕ → Option Tree → Read (Option Tag)
  tag_of_type m None = Ok None
  tag_of_type m (Some t) = outermost_tag ms (type_in m t) >>= λ g. Ok (Some g)

  -- the outermost tag of an alternative's type; none of a marker
  abbrev pub own_tag : ℕ → Element → Read (Option Tag)
  own_tag m e = type_at m e >>= tag_of_type m

  abbrev pub own_tags : ℕ → Elements → Read (List Tag)
  own_tags m no_elements = Ok []
  own_tags m (element e es) = own_tag m e >>= λ g. own_tags m es >>= λ gs. Ok (onto g gs)

  -- the tag of each alternative
  unfoldable pub alternative_tags : ℕ → Elements → Read (List Tag)
  alternative_tags m es =
      if tags_automatically ms m && are_untagged (marks_of es) then (checked m es >>= λ _. automatic_tags (module_place ms m) (marks_of es))
      else own_tags m es
