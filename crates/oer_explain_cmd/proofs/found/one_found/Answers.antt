use Rattle.std.proofs.Common.{refl}
use Rattle.oer_explain_cmd.proofs.found.one_found.Goals as goal

pub returns-in-Ok : goal.returns-in-Ok
returns-in-Ok c = rw c.in-Ok.ensures.exact refl
