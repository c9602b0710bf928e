use Rattle.oer_module_names.proofs.Allowed.{fits_tested}
use Rattle.oer_module_names.proofs.laws.fits_are_tested.Goals as goal

pub returns : goal.returns
returns c = fits_tested
