use Rattle.std.proofs.Common.{◌++◌, drop, string_bytes}
use Rattle.serde_json.specs.Written.{compact_text}
use Rattle.oer_layout.specs.Array.{bits_data}
use Rattle.oer_layout.proofs.Pushed.{GivesBits}
use Rattle.oer_layout.proofs.as_json.push_bits.Given as goal

abbrev pub invariant-loop-bit : goal.invariant-loop-bit
invariant-loop-bit l = GivesBits (string_bytes l.text) (string_bytes l.fn.text ++ compact_text (bits_data l.bits)) l.is_later (drop l.bit-index l.bits)
