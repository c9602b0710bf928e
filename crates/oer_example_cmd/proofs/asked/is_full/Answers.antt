use Rattle.std.proofs.Common.{sym, true≢false, ◌∙◌}
use Rattle.oer_options.proofs.Asked.{flag_read}
use Rattle.oer_example_cmd.proofs.asked.is_full.Goals as goal

pub returns-clause-given : goal.returns-clause-given
returns-clause-given c = λ is. (flag_read _ _ _ c.get_one.ensures.none c.get_one.ensures.value).0 (sym c.unwrap_or.ensures ∙ is)

pub returns-clause-missing : goal.returns-clause-missing
returns-clause-missing c = λ is e. true≢false (sym ((flag_read _ _ _ c.get_one.ensures.none c.get_one.ensures.value).1 e) ∙ sym c.unwrap_or.ensures ∙ is)
