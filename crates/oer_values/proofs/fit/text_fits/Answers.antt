use Rattle.std.proofs.Common.{arith}
use Rattle.std.proofs.lemmas.Grind.{common_steps}
use Rattle.std.proofs.lemmas.Str.{is_utf8-from_IsUtf8}
use Rattle.oer_values.proofs.fit.text_fits.Goals as goal

pub returns-then-are_octets : goal.returns-then-are_octets
returns-then-are_octets c = let e = is_utf8-from_IsUtf8 c.args.text.now c.utf8.text in grind (arith, common_steps, e)
