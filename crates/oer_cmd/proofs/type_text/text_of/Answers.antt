use Rattle.std.proofs.Common.{Vec, ℕ, Global, ap}
use Rattle.oer_cmd.proofs.TypesInput.{text_made}
use Rattle.oer_cmd.proofs.type_text.text_of.Goals as goal

pub returns-in-Ok : goal.returns-in-Ok
returns-in-Ok c = text_made c.args.octets.items c.in-Ok.text (ap (λ (v : Vec ℕ Global). v.items) c.in-Ok.ensures.ok)
