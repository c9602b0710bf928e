use Rattle.std.proofs.Common.{sym, subst}
use Rattle.oer_module_cmd.specs.Errors.{IsByNone}
use Rattle.oer_module_cmd.proofs.error.ErrorFromNoType.from.Goals as goal

pub returns-in-Refused : goal.returns-in-Refused
returns-in-Refused c = subst (λ n. IsByNone n c.from.result) (sym c.in-Refused.is) (record {
  memory = c.from.ensures.memory;
  other = c.from.ensures.other;
})
