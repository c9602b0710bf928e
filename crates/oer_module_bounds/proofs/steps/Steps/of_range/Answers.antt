use Rattle.std.proofs.Common.{sym, ◌∙◌}
use Rattle.oer_module_bounds.specs.Sets.{span_of}
use Rattle.oer_module_bounds.proofs.Giving.{absent, empty_gives, pushed_both, range_gives}
use Rattle.oer_module_bounds.proofs.steps.Steps.of_range.Goals as goal

pub returns-then-is_empty : goal.returns-then-is_empty
returns-then-is_empty c = empty_gives c.uniform.result (span_of c.args.range) (sym c.is_empty.ensures ∙ c.if-is_empty.true) c.uniform.ensures

pub returns : goal.returns
returns c =
    range_gives _ (span_of c.args.range) (sym c.is_empty.ensures ∙ c.if-is_empty.false)
    (pushed_both _ _ _ _ _ _ _ c.new-cuts.ensures.items c.in_ok-push_some.ensures c.in_ok-push_some-2.ensures c.begin.ensures c.end.ensures)
    (absent _ _ c.is_none.ensures) (absent _ _ c.is_none-2.ensures)
