use Rattle.std.proofs.Common.{◌≡◌, ◌+◌, drop}
use Rattle.oer_places.specs.Looks.{word_length}
use Rattle.oer_places.proofs.looks.word_length.Given as goal

abbrev pub invariant-loop-octet : goal.invariant-loop-octet
invariant-loop-octet l = (word_length l.text ≡ l.count + word_length (drop l.octet-index l.text)) × (l.count ≡ l.octet-index)
