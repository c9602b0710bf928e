use Rattle.std.proofs.Common.{◌≡◌, drop}
use Rattle.oer_input.specs.Hex.{IsFit, hex_from, hex_of}
use Rattle.oer_input.proofs.hex.hex_octets.Given as goal

-- what the text spells is what is left of it spells, behind the octets so far
abbrev pub invariant-loop-at : goal.invariant-loop-at
invariant-loop-at l = record {
  same : hex_of l.text ≡ hex_from (drop l.at l.text) l.at l.next l.octets.items;
  fit : IsFit l.next;
}
