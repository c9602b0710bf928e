use Rattle.std.proofs.Common.{sym, ◌∙◌, ◌<◌, get_or}
use Rattle.oer_decoder.proofs.BitLists.{set_at, zero_at}
use Rattle.oer_decoder.proofs.bit_strings.are_zero.Goals as goal

pub returns-then-octet-ne0 : goal.returns-then-octet-ne0
returns-then-octet-ne0 c =
    let i = c.loop-octet.octet-index in
    let fits : get_or c.args.octets.now i 0 < 256 = (c.type_inv.octets i).fits in
    sym (set_at c.args.octets.now i c.loop-octet-test.true c.if-octet-ne0.true fits) ∙ c.loop-octet.invariant

pub loop-octet-preserved : goal.loop-octet-preserved
loop-octet-preserved c = sym (zero_at c.args.octets.now c.loop-octet.octet-index c.loop-octet-test.true c.if-octet-ne0.false) ∙ c.loop-octet.invariant
