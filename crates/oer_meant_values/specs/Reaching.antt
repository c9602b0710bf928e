-- Which value a name stands for (X.680, 3.8, 14.1 and 16).
use Rattle.std.specs.Prelude.{◌≡◌, ℕ, List, [], true, false, Some, None, Ok}
use Rattle.oer_module_defaults.specs.Governors.{Governor, governed}
use Rattle.oer_module_defaults.specs.Items.{is_own}
use Rattle.oer_module_defaults.specs.Walks.{name_in}
use Rattle.oer_module_lexer.specs.Token.{Spot}
use Rattle.oer_module_syntax.specs.State.{State}
use Rattle.oer_module_syntax.specs.Tree.{Module, Tree, value_body}
use Rattle.oer_module_terms.specs.Trees.{named, amount, Value, atom}
use Rattle.oer_module_terms.specs.Values.{value_at}
use Rattle.oer_module_values.specs.Kept.{kept}
use Rattle.oer_module_values.specs.Looks.{path_of}
use Rattle.oer_module_values.specs.Types.{Given, Means, Refers, TypeIn}

-- tokens that are a value, and nothing else; values may nest to 64 levels in it
pub record Writes (ts : List Spot) (v : Value) : Type 0 where
  pub rest : State
  pub is : value_at 64 (kept ts) ≡ Ok (v, rest)
  pub done : rest.left ≡ []

module _ (ms : List Module) where
  -- A type in a module governs values: through references and tags, by a type whose values are taken.
  pub record Governs (m : ℕ) (t : Tree) (g : Governor) : Type 0 where
    pub of : TypeIn
    pub given : List Given
    pub means : Means ms m t of given
    pub is : governed of.«module» of.type ≡ Some g

  -- Which value one in a module stands for, each with the type that governs it. A value that is no name stands for itself, and so does
  -- a name that the type has itself, as that of an item. Another name stands for what the value of its assignment does, whose type has
  -- the same kind.
  pub data Reaches : ℕ → Governor → Value → ℕ → Governor → Value → Type 0 where
    no_name : (m : ℕ) (g : Governor) (v : Value) → name_in v ≡ None → Reaches m g v m g v
    own_name : (m at : ℕ) (g : Governor) (w : List ℕ) (steps : List Spot) → is_own g w (path_of steps) ≡ Ok true
        → Reaches m g (atom at (amount (named w steps))) m g (atom at (amount (named w steps)))
    through : (m at n k : ℕ) (g h i : Governor) (w : List ℕ) (steps ts : List Spot) (t : Tree) (v x : Value)
        → is_own g w (path_of steps) ≡ Ok false → Refers ms m w steps n (value_body t ts) → Governs n t h → h.kind ≡ g.kind → Writes ts v
        → Reaches n h v k i x → Reaches m g (atom at (amount (named w steps))) k i x
