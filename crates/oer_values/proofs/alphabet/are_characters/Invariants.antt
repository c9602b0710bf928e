use Rattle.std.proofs.Common.{◌≡◌, drop}
use Rattle.oer_model.specs.Constraints.{all_characters}
use Rattle.oer_values.specs.AlphabetView.{alphabet_of}
use Rattle.oer_values.proofs.alphabet.are_characters.Given as goal

abbrev pub invariant-loop-octet : goal.invariant-loop-octet
invariant-loop-octet l = all_characters (alphabet_of l.kind) (drop l.octet-index l.octets) ≡ all_characters (alphabet_of l.kind) l.octets
