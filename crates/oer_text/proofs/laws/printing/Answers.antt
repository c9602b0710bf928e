use Rattle.oer_text.proofs.PrintedTokens.{printed_read}
use Rattle.oer_text.proofs.laws.printing.Goals as goal

pub returns : goal.returns
returns c = printed_read c.what_is_spelled_is_parsed.ensures.one c.defaults_fit.ensures.fit
