use Rattle.oer_rows.proofs.LineNames as names
use Rattle.oer_rows.proofs.laws.naming_parts.Goals as goal

pub returns : goal.returns
returns c = names.naming_parts
