use Rattle.std.proofs.Common.{◌≡◌, [], length, IsUtf8}
use Rattle.oer_json.specs.Texts.{all_natural, parts}
use Rattle.oer_json.proofs.dotted.all_natural.Given as goal

-- what is left decides
abbrev pub invariant-parts : goal.invariant-parts
invariant-parts l = record { is : all_natural (parts [] l.text) ≡ all_natural (parts [] l.rest); utf8 : IsUtf8 l.rest }

abbrev pub decreases-parts : goal.decreases-parts
decreases-parts l = length l.rest
