use Rattle.std.proofs.Common.{IsUtf8, subst, sym}
use Rattle.oer_modules.proofs.Shown.{shown_text}
use Rattle.oer_modules.proofs.words.front.Goals as goal

pub unreachable-requires : goal.unreachable-requires
unreachable-requires c = c.in-Err.ensures.cases.0 (subst IsUtf8 (sym c.printable.ensures) (shown_text c.front.result.now))
