use Rattle.std.proofs.Common.{◌≡◌, ◌%◌, ◌/◌, ◌∷◌, map, take}
use Rattle.oer_random.specs.Leaves.{arc, second}
use Rattle.oer_random.proofs.leaf.arcs.Given as goal

abbrev pub invariant-loop-word : goal.invariant-loop-word
invariant-loop-word l = l.arcs.items ≡ l.seed % 3 ∷ second (l.seed % 3) (l.seed / 3) ∷ map arc (take l.word-index l.word-items)
