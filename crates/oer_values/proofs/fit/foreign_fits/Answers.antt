use Rattle.std.proofs.Common.{arith}
use Rattle.std.proofs.lemmas.Grind.{common_steps}
use Rattle.oer_values.proofs.FitSteps.{tag_in_root}
use Rattle.oer_values.proofs.fit.foreign_fits.Goals.{then-contains_tag-via-then-contains_tag, then-contains_tag-via-else-contains_tag+then-contains_tag-2}
use Rattle.oer_values.proofs.fit.foreign_fits.Goals as goal

pub returns-then-contains_tag : goal.returns-then-contains_tag
returns-then-contains_tag c =
    let e = tag_in_root c.args.tag c.args.root.now c.in-Some.additions.items in
    rw (c.in-Some.is) (elim c.then-contains_tag.branch [ then-contains_tag-via-then-contains_tag w ↦ grind (arith, common_steps, e) | then-contains_tag-via-else-contains_tag+then-contains_tag-2 w ↦ grind (arith, common_steps, e) ])

pub returns-then-is_tag_number : goal.returns-then-is_tag_number
returns-then-is_tag_number c =
    let e = tag_in_root c.args.tag c.args.root.now c.in-Some.additions.items in
    rw (c.in-Some.is) (grind (arith, common_steps, e))
