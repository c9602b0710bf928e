use Rattle.std.proofs.Common.{◌≡◌, ◌≤◌, ◌+◌, drop}
use Rattle.oer_model.specs.Bits.{bit_value, bits_of}
use Rattle.oer_values.specs.ShapeView.{fields_of}
use Rattle.oer_entries.specs.Next.{component_from}
use Rattle.oer_entries.proofs.next.next_component.Given as goal

abbrev pub invariant-loop-index : goal.invariant-loop-index
invariant-loop-index l = record {
  place : l.place ≤ l.index + 1;
  is : component_from l.index l.from (fields_of (drop l.index l.root)) (drop l.place (bits_of l.preamble))
      ≡ component_from 0 l.from (fields_of l.root) (drop (bit_value l.is_extensible) (bits_of l.preamble));
}
