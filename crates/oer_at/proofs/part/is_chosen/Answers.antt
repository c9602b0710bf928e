use Rattle.std.proofs.Common.{◌∙◌, ap}
use Rattle.oer_at.specs.Finding.{is_chosen, is_tag}
use Rattle.oer_at.proofs.part.is_chosen.Goals as goal

pub returns-in-Ok : goal.returns-in-Ok
unfolding is_chosen
returns-in-Ok c = c.is_same_tag.ensures ∙ ap (is_tag c.args.tag) c.in-Ok.ensures

pub returns-in-Err : goal.returns-in-Err
unfolding is_chosen
returns-in-Err c = ap (is_tag c.args.tag) c.in-Err.ensures
