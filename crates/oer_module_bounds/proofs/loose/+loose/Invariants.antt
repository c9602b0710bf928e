use Rattle.std.proofs.Common.{◌≡◌, None, Some, map, take}
use Rattle.std.specs.Option.{option_map}
use Rattle.std.specs.List.{fold}
use Rattle.oer_module_bounds.specs.Loose.{join, loose, meet}
use Rattle.oer_module_bounds.specs.Sets.{everything, set_of, span_of}
use Rattle.oer_module_bounds.proofs.loose.+loose.Given as goal

abbrev pub invariant-joined_of-loop-member : goal.invariant-joined_of-loop-member
invariant-joined_of-loop-member l = option_map span_of l.all ≡ fold join None (map (λ s. loose (set_of s)) (take l.member-index l.members))

abbrev pub invariant-met_of-loop-member : goal.invariant-met_of-loop-member
invariant-met_of-loop-member l = option_map span_of l.all ≡ fold meet (Some everything) (map (λ s. loose (set_of s)) (take l.member-index l.members))
