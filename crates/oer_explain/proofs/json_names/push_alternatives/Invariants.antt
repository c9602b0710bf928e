use Rattle.std.proofs.Common.{◌≡◌, ◌++◌, drop}
use Rattle.oer_model.specs.AsnType.{Alternatives}
use Rattle.oer_model.specs.WellFormed.{alternative_names}
use Rattle.oer_values.specs.ShapeView.{later_of, root_of}
use Rattle.oer_explain.specs.JsonNames.{texts_behind}
use Rattle.oer_explain.proofs.json_names.push_alternatives.Given as goal

-- what is there and what is left are the whole
abbrev pub invariant-loop-alternative : goal.invariant-loop-alternative
invariant-loop-alternative l = record {
  root : (after : Alternatives) → texts_behind l.fn.names.items ++ alternative_names (root_of l.alternatives after)
      ≡ texts_behind l.names.items ++ alternative_names (root_of (drop l.alternative-index l.alternatives) after);
  later : texts_behind l.fn.names.items ++ alternative_names (later_of l.alternatives)
      ≡ texts_behind l.names.items ++ alternative_names (later_of (drop l.alternative-index l.alternatives));
}
