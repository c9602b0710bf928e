use Rattle.std.proofs.Common.{◌∙◌, sym}
use Rattle.oer_types.specs.Schema.{the_type}
use Rattle.oer_values.specs.ValueView.{value_of}
use Rattle.oer_model.proofs.fitting.FitTests.{fit_decides}
use Rattle.oer_types.proofs.calls.fits.Goals as goal

pub returns : goal.returns
returns c =
    let d = fit_decides (the_type c.args.schema.now) (value_of c.args.value.now) in
    let e = rw c.shape.ensures.same at c.fits_shape.ensures in
    (λ h. d.0 (sym e ∙ h), λ f. e ∙ d.1 f)
