use Rattle.oer_canonical_cmd.proofs.Lines.{tells_canonical}
use Rattle.oer_canonical_cmd.proofs.laws.canonical_octets_have_a_line.Goals as goal

pub returns : goal.returns
returns c = tells_canonical
