use Rattle.std.proofs.Common.{◌≡◌, map, take, string_bytes}
use Rattle.std.specs.Str.{encode_utf8_all}
use Rattle.oer_random.specs.Leaves.{letter}
use Rattle.oer_random.proofs.letters.text.Given as goal

abbrev pub invariant-loop-word : goal.invariant-loop-word
invariant-loop-word l = string_bytes l.text ≡ encode_utf8_all (map (letter l.letters) (take l.word-index l.word-items))
