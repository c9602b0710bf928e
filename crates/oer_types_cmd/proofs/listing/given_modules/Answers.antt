use Rattle.std.proofs.Common.{map}
use Rattle.oer_module_cmd.specs.Errors.{error_of, status_of as error_status}
use Rattle.oer_module_options.specs.Scan.{text_of}
use Rattle.oer_types_cmd.proofs.Inputs.{modules_given, modules_taken, modules_ungiven}
use Rattle.oer_types_cmd.proofs.listing.given_modules.Goals as goal

pub returns-in-Ok-clause-exact : goal.returns-in-Ok-clause-exact
returns-in-Ok-clause-exact g c =
    let x = c.in-Ok.ensures.exact in
    modules_given (map text_of c.args.texts.now) (g.R.Read.remaining c.args.input.now) x.0 c.in-Ok.given x.1 x.2

pub returns-in-Ok-clause-given : goal.returns-in-Ok-clause-given
returns-in-Ok-clause-given g c = c.in-Ok.ensures.exact

pub returns-in-Ok-clause-takes : goal.returns-in-Ok-clause-takes
returns-in-Ok-clause-takes g c = λ yes. modules_taken 0 _ _ (c.in-Ok.ensures.takes yes)

pub returns-in-Err-clause-exact : goal.returns-in-Err-clause-exact
returns-in-Err-clause-exact g c =
    let x = c.in-Err.ensures.exact in
    modules_ungiven (map text_of c.args.texts.now) (g.R.Read.remaining c.args.input.now) x.0 c.in-Err.error x.1 x.2

pub returns-in-Err-clause-takes : goal.returns-in-Err-clause-takes
returns-in-Err-clause-takes g c = λ yes. modules_taken (error_status (error_of c.in-Err.error)) _ _ (c.in-Err.ensures.takes yes)
