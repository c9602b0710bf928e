use Rattle.std.proofs.Common.{◌∙◌}
use Rattle.oer_places.specs.Place.{first_line}
use Rattle.oer_places.specs.Quoting.{rest_shown}
use Rattle.oer_places.proofs.Told.{no_text_shown, text_shown}
use Rattle.oer_places.proofs.quoting.behind.Goals as goal

pub returns-in-Ok : goal.returns-in-Ok
returns-in-Ok c = text_shown rest_shown (first_line c.args.rest.now) c.as_slice.result.now c.in-Ok.text.now c.rest_shown.result (c.as_slice.ensures.value ∙ c.in_ok-line.ensures)
    c.in-Ok.ensures.cases.0 c.in-Ok.ensures.cases.1 c.rest_shown.ensures

pub returns : goal.returns
returns c =
    no_text_shown rest_shown (first_line c.args.rest.now) c.as_slice.result.now c.from_str.result
    (c.as_slice.ensures.value ∙ c.in_ok-line.ensures) c.in-Err.ensures.cases.0 c.from_str.ensures.ok
