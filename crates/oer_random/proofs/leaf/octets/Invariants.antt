use Rattle.std.proofs.Common.{◌≡◌, ◌%◌, map, take}
use Rattle.oer_random.proofs.leaf.octets.Given as goal

abbrev pub invariant-loop-word : goal.invariant-loop-word
invariant-loop-word l = l.octets.items ≡ map (λ x. x % 256) (take l.word-index l.word-items)
