use Rattle.std.proofs.Common.{sym, ◌∙◌}
use Rattle.oer_options.proofs.Asked.{flag_read}
use Rattle.oer_options.proofs.options.is_given.Goals as goal

pub returns : goal.returns
returns c =
    let tells = flag_read _ _ _ c.get_one.ensures.none c.get_one.ensures.value in (λ is. tells.0 (sym c.unwrap_or.ensures ∙ is), λ e. c.unwrap_or.ensures ∙ tells.1 e)
