use Rattle.oer_types.specs.Schema.{shape_of, the_type}
use Rattle.oer_values.specs.ShapeView.{type_of}
use Rattle.oer_decoder.specs.Memory.{NeedsNoMemory}
use Rattle.std.proofs.Common.{subst}
use Rattle.oer_decoder.proofs.Rewrites.{exactly, is_refused, is_rewritten, keeps, what_comes}
use Rattle.oer_decoder.proofs.rewriting.rewrite.Goals as goal

pub returns-then-holds_others-clause-rewritten : goal.returns-then-holds_others-clause-rewritten
returns-then-holds_others-clause-rewritten g c = is_rewritten (the_type c.args.schema.now)
    (rw c.shape.ensures.same at c.shape.ensures.limits) _ _ _ _ _ _ _ _ _ c.rewrite_parts.result c.rewrite_parts.ensures.rewrites

pub returns-then-holds_others-clause-refused : goal.returns-then-holds_others-clause-refused
returns-then-holds_others-clause-refused g c = is_refused (the_type c.args.schema.now)
    (rw c.shape.ensures.same at c.shape.ensures.limits) _ _ _ _ _ _ _ _ _ c.rewrite_parts.result c.rewrite_parts.ensures.rewrites

pub returns-then-holds_others-clause-comes : goal.returns-then-holds_others-clause-comes
returns-then-holds_others-clause-comes g c = what_comes (the_type c.args.schema.now)
    (rw c.shape.ensures.same at c.shape.ensures.limits) _ _ _ _ _ _ _ _ _ c.rewrite_parts.result c.rewrite_parts.ensures.rewrites

pub returns-then-holds_others-clause-stays : goal.returns-then-holds_others-clause-stays
returns-then-holds_others-clause-stays g c = keeps (the_type c.args.schema.now)
    (rw c.shape.ensures.same at c.shape.ensures.limits) _ _ _ _ _ _ _ _ _ c.rewrite_parts.result c.rewrite_parts.ensures.rewrites

pub returns-then-holds_others-clause-exact : goal.returns-then-holds_others-clause-exact
returns-then-holds_others-clause-exact g c = exactly (the_type c.args.schema.now)
    (rw c.shape.ensures.same at c.shape.ensures.limits) _ _ _ _ _ _ _ _ _ c.rewrite_parts.result c.rewrite_parts.ensures.rewrites

pub returns-then-holds_others-clause-memory : goal.returns-then-holds_others-clause-memory
returns-then-holds_others-clause-memory g c = λ none. absurd ((rw c.shape.ensures.same at c.holds_others.ensures) c.if-holds_others.true none)

pub returns-else-holds_others-clause-rewritten : goal.returns-else-holds_others-clause-rewritten
returns-else-holds_others-clause-rewritten g c = is_rewritten (the_type c.args.schema.now)
    (rw c.shape.ensures.same at c.shape.ensures.limits) _ _ _ _ _ _ _ _ _ c.rewrite_value.result c.rewrite_value.ensures.rewrites

pub returns-else-holds_others-clause-refused : goal.returns-else-holds_others-clause-refused
returns-else-holds_others-clause-refused g c = is_refused (the_type c.args.schema.now)
    (rw c.shape.ensures.same at c.shape.ensures.limits) _ _ _ _ _ _ _ _ _ c.rewrite_value.result c.rewrite_value.ensures.rewrites

pub returns-else-holds_others-clause-comes : goal.returns-else-holds_others-clause-comes
returns-else-holds_others-clause-comes g c = what_comes (the_type c.args.schema.now)
    (rw c.shape.ensures.same at c.shape.ensures.limits) _ _ _ _ _ _ _ _ _ c.rewrite_value.result c.rewrite_value.ensures.rewrites

pub returns-else-holds_others-clause-stays : goal.returns-else-holds_others-clause-stays
returns-else-holds_others-clause-stays g c = keeps (the_type c.args.schema.now)
    (rw c.shape.ensures.same at c.shape.ensures.limits) _ _ _ _ _ _ _ _ _ c.rewrite_value.result c.rewrite_value.ensures.rewrites

pub returns-else-holds_others-clause-exact : goal.returns-else-holds_others-clause-exact
returns-else-holds_others-clause-exact g c = exactly (the_type c.args.schema.now)
    (rw c.shape.ensures.same at c.shape.ensures.limits) _ _ _ _ _ _ _ _ _ c.rewrite_value.result c.rewrite_value.ensures.rewrites
