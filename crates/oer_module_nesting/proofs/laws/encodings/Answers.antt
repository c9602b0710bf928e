use Rattle.oer_module_nesting.proofs.Types.{canonical_by_both, encoded_by_both}
use Rattle.oer_module_nesting.proofs.laws.encodings.Goals as goal

pub returns-clause-encodes : goal.returns-clause-encodes
returns-clause-encodes c = encoded_by_both

pub returns-clause-canonical : goal.returns-clause-canonical
returns-clause-canonical c = canonical_by_both
