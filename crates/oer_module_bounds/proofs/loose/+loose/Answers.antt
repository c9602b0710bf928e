use Rattle.std.proofs.Common.{None, Some, map, sym, ap, ◌∙◌}
use Rattle.std.specs.List.{fold}
use Rattle.oer_module_bounds.specs.Loose.{join, loose, meet}
use Rattle.oer_module_bounds.specs.Sets.{everything, set_of}
use Rattle.oer_module_bounds.proofs.Looseness.{loose_listed}
use Rattle.oer_module_bounds.proofs.Members.{set_of-Intersection, set_of-Union}
use Rattle.oer_module_bounds.proofs.loose.+loose.Goals as goal

pub loose_hull_of-returns-in-Union : goal.loose_hull_of-returns-in-Union
loose_hull_of-returns-in-Union t c =
    c.joined_of.ensures ∙ ap (λ xs. fold join None (map (λ s. loose (set_of s)) xs)) c.deref.ensures.value
    ∙ ap (fold join None) (sym (loose_listed c.in-Union.members.items)) ∙ sym (ap loose (ap set_of c.in-Union.is ∙ set_of-Union c.in-Union.members))

pub loose_hull_of-returns-in-Intersection : goal.loose_hull_of-returns-in-Intersection
loose_hull_of-returns-in-Intersection t c =
    c.met_of.ensures ∙ ap (λ xs. fold meet (Some everything) (map (λ s. loose (set_of s)) xs)) c.deref-in-Intersection.ensures.value
    ∙ ap (fold meet (Some everything)) (sym (loose_listed c.in-Intersection.members.items))
    ∙ sym (ap loose (ap set_of c.in-Intersection.is ∙ set_of-Intersection c.in-Intersection.members))
