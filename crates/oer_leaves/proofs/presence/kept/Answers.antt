use Rattle.std.proofs.Common.{sym, true≢false, ◌∙◌}
use Rattle.oer_leaves.proofs.Places.{kept_dropped, kept_there}
use Rattle.oer_leaves.proofs.presence.kept.Goals as goal

pub returns-then-same_filled_at : goal.returns-then-same_filled_at
returns-then-same_filled_at c = kept_dropped c.args.field.now.need _ c.args.place.now c.in-Some.value c.in-Default.default c.in-Default.is c.in-Some.is (c.same_filled_at.ensures.0 c.if-same_filled_at.true)

pub returns-else-same_filled_at : goal.returns-else-same_filled_at
returns-else-same_filled_at c = kept_there c.args.field.now.need _ c.args.place.now c.in-Some.value c.in-Default.default c.in-Default.is c.in-Some.is (λ e. true≢false (sym (c.same_filled_at.ensures.1 e) ∙ c.if-same_filled_at.false))
