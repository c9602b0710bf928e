use Rattle.std.proofs.Common.{inl, rules}
use Rattle.oer_c.specs.Sharing.{types_in}
use Rattle.oer_c.proofs.definitions.oer_types_read_within.Goals as goal

pub returns-in-Ok : goal.returns-in-Ok
returns-in-Ok c = inl (types_in c.in-Ok.found.value, search rules, search rules, search rules, search rules, search rules)
