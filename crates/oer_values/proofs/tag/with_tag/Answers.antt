use Rattle.std.proofs.Common.{sym, ◌∙◌}
use Rattle.oer_values.proofs.TagSteps.{first_later, first_more, first_none}
use Rattle.oer_values.proofs.tag.with_tag.Goals as goal

pub returns-then-is_same_tag-clause-first : goal.returns-then-is_same_tag-clause-first
returns-then-is_same_tag-clause-first c = (c.loop-alternative.alternative-index, c.loop-alternative-test.true, c.alternative-item.is, sym c.is_same_tag.ensures ∙ c.if-is_same_tag.true, c.loop-alternative.invariant.none)

pub loop-alternative-preserved : goal.loop-alternative-preserved
loop-alternative-preserved c =
    let xs = c.args.alternatives.now in
    let i = c.loop-alternative.alternative-index in
    let a = c.alternative-item.result in
    let other = sym c.is_same_tag.ensures ∙ c.if-is_same_tag.false in
    record {
      is = first_later xs i a c.args.tag c.loop-alternative-test.true c.alternative-item.is other c.loop-alternative.invariant.is;
      none = first_more xs i a c.args.tag c.loop-alternative-test.true c.alternative-item.is other c.loop-alternative.invariant.none;
    }

pub returns-clause-first : goal.returns-clause-first
returns-clause-first c = first_none c.args.alternatives.now c.loop-alternative.alternative-index c.args.tag c.loop-alternative-test.false c.loop-alternative.invariant.none
