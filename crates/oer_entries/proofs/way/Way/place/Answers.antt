use Rattle.std.proofs.Common.{sym}
use Rattle.oer_entries.proofs.Called.{last_seen}
use Rattle.oer_entries.proofs.way.Way.place.Goals as goal

pub returns-clause-shape : goal.returns-clause-shape
returns-clause-shape c = sym (last_seen c.args.self.now.frames.items c.last.ensures.0 c.last.result.now c.last.ensures.1)
