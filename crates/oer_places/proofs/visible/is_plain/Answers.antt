use Rattle.std.proofs.Common.{◌≡◌, subst}
use Rattle.oer_places.specs.Visible.{visible}
use Rattle.oer_places.proofs.Visibly.{plain_whole}
use Rattle.oer_places.proofs.visible.is_plain.Goals as goal

pub returns : goal.returns
returns c = λ e. subst (λ t. visible t ≡ t) c.as_bytes-octet-items.ensures.value (plain_whole _ c.loop-octet.octet-index c.loop-octet-test.false (c.loop-octet.invariant e))
