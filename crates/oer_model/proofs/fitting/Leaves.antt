-- What holds of every type that holds no other, and what every type has.
use Rattle.std.proofs.Common.{◌≡◌, ℕ, ◌≤◌, List, arith}
use Rattle.oer_model.specs.LeafType as kind
use Rattle.oer_model.specs.LeafType.{LeafType}
use Rattle.oer_model.specs.LeafValue.{LeafValue}
use Rattle.oer_model.specs.AsnType.{AsnType, choice, extensible_sequence, leaf, sequence, sequence_of}
use Rattle.oer_model.specs.AsnValue.{AsnValue, leaf_value}
use Rattle.oer_model.specs.Encoding.{IsLeafSpelling}
use Rattle.oer_model.specs.Nodes.{leaf_nodes, type_nodes}
use Rattle.oer_model.specs.WellFormed.{depth}

pub leaf_some : (kind : LeafType) → 1 ≤ leaf_nodes kind
leaf_some (kind.enumerated xs e) = omega arith
leaf_some _ = omega arith

pub some_node : (T : AsnType) → 1 ≤ type_nodes T
some_node (leaf kind) = leaf_some kind
some_node (sequence fs) = omega arith
some_node (extensible_sequence fs more) = omega arith
some_node (sequence_of s T) = omega arith
some_node (choice e more) = omega arith

pub some_depth : (T : AsnType) → 1 ≤ depth T
some_depth (leaf kind) = omega arith
some_depth (sequence fs) = omega arith
some_depth (extensible_sequence fs more) = omega arith
some_depth (sequence_of s T) = omega arith
some_depth (choice e more) = omega arith

-- what fits such a type holds no other value
pub leaf_is : (kind : LeafType) (v : AsnValue) (b : List ℕ) → IsLeafSpelling kind v b → (x : LeafValue) × (v ≡ leaf_value x)
leaf_is kind.boolean v b s = (_, s.2)
leaf_is kind.null v b s = (_, s.0)
leaf_is _ v b s = (_, s.1)
