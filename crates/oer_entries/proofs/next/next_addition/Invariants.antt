use Rattle.std.proofs.Common.{◌≡◌, drop}
use Rattle.oer_entries.specs.Next.{addition_from, bits_in, map_bits}
use Rattle.oer_entries.proofs.next.next_addition.Given as goal

abbrev pub invariant-loop-index : goal.invariant-loop-index
invariant-loop-index l = addition_from l.index (drop l.index (bits_in l.bits)) ≡ addition_from l.from (drop l.from (map_bits l.bitmap))
