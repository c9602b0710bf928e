-- A module with one type that contains itself, Nest ::= SEQUENCE OF Nest, at two nestings.
use Rattle.std.specs.Prelude.{◌≡◌, ℕ, zero, suc, List, [], ◌∷◌, false, None, Ok, codes}
use Rattle.oer_model.specs.AsnType.{AsnType, sequence_of}
use Rattle.oer_model.specs.Constraints.{any_size}
use Rattle.oer_module_syntax.specs.Tree.{Module, Tree, all, list_of, named, type_body}
use Rattle.oer_module_syntax.specs.declared.tree.Tags.TheVariants.{Automatic}
use Rattle.oer_module_syntax.specs.declared.word.Builtin.TheVariants.{Sequence}
use Rattle.oer_module_types.specs.Levels.{end_type}
use Rattle.oer_module_types.specs.Types.{typed}
use Rattle.oer_module_values.specs.Types.{type_in}

-- the Name, where it is used
abbrev pub nest : Tree
nest = named 0 (codes "Nest") [] [] []

abbrev pub nests : Module
nests = record {
  at = 0;
  name = codes "Nests";
  id = [];
  instructions = None;
  tags = Automatic;
  extensible = false;
  exports = all;
  imports = [];
  assignments = record { at = 0; name = codes "Nest"; parameters = []; body = type_body (list_of 0 Sequence false [] None nest) } ∷ [];
  control = [];
}

-- so many lists, one in the other, and an end
abbrev pub lists : ℕ → AsnType
lists zero = end_type
lists (suc n) = sequence_of any_size (lists n)

-- It is written out as often as the nesting says.
abbrev pub IsWrittenOut : ℕ → Type 0
IsWrittenOut n = (w : List ℕ) × (typed (nests ∷ []) n (type_in 0 nest) ≡ Ok (lists n, w))
