use Rattle.std.proofs.Common.{Vec, ℕ, Global, ap, true≢false, sym}
use Rattle.oer_module_cmd.proofs.Texts.{text_made, text_refused}
use Rattle.oer_module_cmd.proofs.input.text_in.Goals as goal

pub returns-in-Ok : goal.returns-in-Ok
returns-in-Ok c = text_made c.args.octets c.in-Ok.text (ap (λ (v : Vec ℕ Global). v.items) c.in-Ok.ensures.ok)

pub returns : goal.returns
returns c = λ two. text_refused c.args.octets.items (λ utf8. true≢false (sym (c.in-Err.ensures.succeeds utf8)))
