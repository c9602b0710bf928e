use Rattle.std.proofs.Common.{◌≡◌, drop}
use Rattle.oer_input.specs.Base64.{IsFit, base64_from, base64_of}
use Rattle.oer_input.proofs.base64.base64_octets.Given as goal

-- what the text spells is what is left of it spells, behind the octets so far
abbrev pub invariant-loop-at : goal.invariant-loop-at
invariant-loop-at l = record {
  same : base64_of l.text ≡ base64_from (drop l.at l.text) l.at l.next l.octets.items;
  fit : IsFit l.next;
}
