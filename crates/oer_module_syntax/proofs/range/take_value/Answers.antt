use Rattle.std.proofs.Common.{◌+◌, Ok, sym, ap, ◌∙◌}
use Rattle.oer_module_syntax.specs.Ranges.{prefix_at}
use Rattle.oer_module_syntax.specs.State.{state_of}
use Rattle.oer_module_syntax.proofs.Spots.{taken, value_read}
use Rattle.oer_module_syntax.proofs.range.take_value.Goals as goal

pub returns : goal.returns
returns c =
    let prefix = ap prefix_at (sym c.take_front-names.ensures.rest) ∙ c.in_ok-prefix.ensures.read in
    value_read (state_of c.args.cursor.now) c.pairs_len-names.result c.in_ok-prefix.prefix c.in_ok-base.base _ _ c.pairs_len-names.ensures.value prefix c.in_ok-base.ensures.read
    ∙ ap (λ l. Ok (l, state_of c.take_base.new.cursor)) (sym (taken (c.pairs_len-names.result + c.in_ok-prefix.prefix + c.in_ok-base.base) c.args.cursor.now.spots.now))
