use Rattle.std.proofs.Common.{◌≡◌, drop}
use Rattle.oer_json.specs.Texts.{are_bits}
use Rattle.oer_json.proofs.texts.are_bits.Given as goal

-- what is left decides
abbrev pub invariant-loop-byte : goal.invariant-loop-byte
invariant-loop-byte l = are_bits l.bytes ≡ are_bits (drop l.byte-index l.bytes)
