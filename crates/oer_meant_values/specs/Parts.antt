-- What stands between the braces of a SEQUENCE or a CHOICE, with what COMPONENTS OF stands for (X.680, 25 and 29).
use Rattle.std.specs.Prelude.{ℕ, List, [], ◌∷◌, ◌++◌, Bool, true, false}
use Rattle.oer_module_lexer.specs.Token.{Spot}
use Rattle.oer_module_syntax.specs.Tree.{Module, Tree, structure, Elements, no_elements, element, marker, components_of, component, Need}
use Rattle.oer_module_syntax.specs.declared.word.Builtin.TheVariants as bi
use Rattle.oer_module_values.specs.Types.{Given, Means, type_in}

-- a component or an alternative: the module that it is written in, whether it stands behind the extension marker, and its name,
-- type and need
pub record Part : Type 0 where
  pub «module» : ℕ
  pub added : Bool
  pub name : List ℕ
  pub type : Tree
  pub need : Need

abbrev pub part : ℕ → Bool → List ℕ → Tree → Need → Part
part m added name type need = record { «module» = m; added = added; name = name; type = type; need = need }

-- behind the marker, in a module
pub data AreAdded (m : ℕ) : Elements → List Part → Type 0 where
  none_added : AreAdded m no_elements []
  another_added : (at : ℕ) (w : List ℕ) (t : Tree) (need : Need) (es : Elements) (ps : List Part) → AreAdded m es ps
      → AreAdded m (element (component at w t need) es) (part m true w t need ∷ ps)

module _ (ms : List Module) where
  -- The root of a SEQUENCE in a module: what stands before its marker. COMPONENTS OF a type stands for the root of the SEQUENCE that this
  -- is, or stands for (25.5).
  pub data IsRoot : ℕ → Elements → List Part → Type 0 where
    no_more : (m : ℕ) → IsRoot m no_elements []
    up_to_marker : (m at : ℕ) (x : List Spot) (es : Elements) → IsRoot m (element (marker at x) es) []
    another : (m at : ℕ) (w : List ℕ) (t : Tree) (need : Need) (es : Elements) (ps : List Part) → IsRoot m es ps
        → IsRoot m (element (component at w t need) es) (part m false w t need ∷ ps)
    included : (m at n there : ℕ) (t : Tree) (fs es : Elements) (cs : List Spot) (gs : List Given) (qs ps : List Part)
        → Means ms m t (type_in n (structure there bi.Sequence fs cs)) gs → IsRoot n fs qs → IsRoot m es ps
        → IsRoot m (element (components_of at t) es) (qs ++ ps)

  -- all of them, and whether there is an extension marker
  pub data AreParts (m : ℕ) : Elements → List Part → Bool → Type 0 where
    no_parts : AreParts m no_elements [] false
    behind_marker : (at : ℕ) (x : List Spot) (es : Elements) (ps : List Part) → AreAdded m es ps
        → AreParts m (element (marker at x) es) ps true
    another_part : (at : ℕ) (w : List ℕ) (t : Tree) (need : Need) (es : Elements) (ps : List Part) (marked : Bool) → AreParts m es ps marked
        → AreParts m (element (component at w t need) es) (part m false w t need ∷ ps) marked
    included_parts : (at n there : ℕ) (t : Tree) (fs es : Elements) (cs : List Spot) (gs : List Given) (qs ps : List Part) (marked : Bool)
        → Means ms m t (type_in n (structure there bi.Sequence fs cs)) gs → IsRoot n fs qs → AreParts m es ps marked
        → AreParts m (element (components_of at t) es) (qs ++ ps) marked
