use Rattle.std.proofs.Common.{inl, inr, rules}
use Rattle.oer_c.specs.Sharing.{types_in}
use Rattle.oer_c.proofs.modules.oer_types_read_modules.Goals as goal

pub returns-in-Ok : goal.returns-in-Ok
returns-in-Ok c = inl (types_in c.in-Ok.found.value, search rules, search rules, search rules, search rules)

pub returns-in-Err : goal.returns-in-Err
returns-in-Err c = inr (c.in-Err.stop, search rules, c.in-Err.ensures.stopped, c.tell.ensures)
