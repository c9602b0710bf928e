use Rattle.std.proofs.Common.{◌∙◌}
use Rattle.oer_checker.proofs.LastBits.{by_last, some_octet}
use Rattle.oer_checker.proofs.bit_strings.ends_in_zeros.Goals as goal

pub returns : goal.returns
returns c = c.are_last_zero.ensures ∙ by_last c.args.unused c.args.octets.now (some_octet c.args.octets.now c.if-is_empty.ensures) c.requires
