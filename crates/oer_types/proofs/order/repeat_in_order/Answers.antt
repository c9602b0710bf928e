use Rattle.std.proofs.Common.{not, sym, ap, ◌∙◌}
use Rattle.oer_types.proofs.NameOrder.{in_order, put_in_order}
use Rattle.oer_types.proofs.order.repeat_in_order.Goals as goal

pub returns-then-is_ascending : goal.returns-then-is_ascending
returns-then-is_ascending c =
    let all = c.number.ensures.length ∙ c.requires.count in
    sym (in_order c.args.names c.number.new.order all c.number.ensures.numbered (sym c.is_ascending.ensures ∙ c.if-is_ascending.true))

pub returns : goal.returns
returns c =
    let all = c.number.ensures.length ∙ c.requires.count in
    ap not c.is_ascending-2.ensures ∙ put_in_order c.args.names c.number.new.order c.sort.new.order all c.number.ensures.numbered c.sort.ensures.moved c.sort.ensures.sorted
