use Rattle.oer_model.proofs.paths.Finding.{finds_parts, misses_parts}
use Rattle.oer_model.proofs.laws.finding_parts.Goals as goal

pub returns-clause-finds : goal.returns-clause-finds
returns-clause-finds c = finds_parts

pub returns-clause-misses : goal.returns-clause-misses
returns-clause-misses c = misses_parts
