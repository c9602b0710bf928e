use Rattle.oer_nesting.proofs.Canonical.{encodes_alike, fits_alike}
use Rattle.oer_nesting.proofs.laws.encodings.Goals as goal

pub returns-clause-fits : goal.returns-clause-fits
returns-clause-fits c = fits_alike

pub returns-clause-encodes : goal.returns-clause-encodes
returns-clause-encodes c = encodes_alike
