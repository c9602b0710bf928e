use Rattle.std.proofs.Common.{◌≡◌, drop}
use Rattle.oer_types.specs.Ascending.{next_tag}
use Rattle.oer_types.proofs.rule.next_tag.Given as goal

abbrev pub invariant-loop-alt : goal.invariant-loop-alt
invariant-loop-alt l = next_tag l.next (drop l.alt-index l.alts) ≡ next_tag l.first l.alts
