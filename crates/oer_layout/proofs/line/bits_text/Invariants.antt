use Rattle.std.proofs.Common.{◌≡◌, string_bytes, take}
use Rattle.oer_layout.specs.Cells.{bits_text}
use Rattle.oer_layout.proofs.line.bits_text.Given as goal

abbrev pub invariant-loop-bit : goal.invariant-loop-bit
invariant-loop-bit l = string_bytes l.text ≡ bits_text l.word (take l.bit-index l.bits)
