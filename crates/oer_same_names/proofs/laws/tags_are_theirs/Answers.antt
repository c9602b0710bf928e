use Rattle.oer_same_names.proofs.Tags.{tags_are}
use Rattle.oer_same_names.proofs.laws.tags_are_theirs.Goals as goal

pub returns : goal.returns
returns c ms ks known is_tagged more marker es h says = tags_are ms ks h known is_tagged more marker es says
