use Rattle.std.proofs.Common.{◌≡◌, ◌++◌, [], length, Ok, IsUtf8}
use Rattle.oer_json.specs.Answer.{◌>>=◌}
use Rattle.oer_json.specs.Take.{numbers_in}
use Rattle.oer_json.specs.Texts.{parts}
use Rattle.oer_json.proofs.dotted.numbers_in.Given as goal

-- what is there and what is left are the whole
abbrev pub invariant-parts : goal.invariant-parts
invariant-parts l = record { is : numbers_in (parts [] l.text) ≡ (numbers_in (parts [] l.rest) >>= λ xs. Ok (l.numbers.items ++ xs)); utf8 : IsUtf8 l.rest }

abbrev pub decreases-parts : goal.decreases-parts
decreases-parts l = length l.rest
