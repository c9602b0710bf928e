-- Which items of an ENUMERATED of the notation are ordinary.
use Rattle.std.specs.Prelude.{ℕ, List, Bool}
use Rattle.oer_meant_leaves.specs.Leaves.{AreItems}
use Rattle.oer_model.specs.AsnType.{NamedNumber}
use Rattle.oer_model.specs.Widths.{HaveItemWidths}
use Rattle.oer_module_lexer.specs.Token.{Spot}
use Rattle.oer_module_names.specs.declared.error.Place.{Place}
use Rattle.oer_module_syntax.specs.Tree.{Module}

-- What stands in the braces of a type in a module, at a byte, are items as X.680, 20 has them: so those behind the marker rise.
abbrev pub HasItems : List Module → ℕ → ℕ → List Spot → Type 0
HasItems ms m at ts = (items : List NamedNumber) × (marked : Bool) × AreItems ms m at ts items marked

-- It does, and the numbers of the items have 64 bits.
pub record AreOrdinary (ms : List Module) (p : Place) (ts : List Spot) (items : List NamedNumber) : Type 0 where
  pub written : HasItems ms p.«module» p.at ts
  pub widths : HaveItemWidths items
