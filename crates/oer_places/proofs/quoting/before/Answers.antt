use Rattle.std.proofs.Common.{◌∙◌}
use Rattle.oer_places.specs.Place.{last_line}
use Rattle.oer_places.specs.Quoting.{front_shown}
use Rattle.oer_places.proofs.Told.{no_text_shown, text_shown}
use Rattle.oer_places.proofs.quoting.before.Goals as goal

pub returns-in-Ok : goal.returns-in-Ok
returns-in-Ok c = text_shown front_shown (last_line c.args.front.now) c.as_slice.result.now c.in-Ok.text.now c.front_shown.result (c.as_slice.ensures.value ∙ c.in_ok-line.ensures)
    c.in-Ok.ensures.cases.0 c.in-Ok.ensures.cases.1 c.front_shown.ensures

pub returns : goal.returns
returns c =
    no_text_shown front_shown (last_line c.args.front.now) c.as_slice.result.now c.from_str.result
    (c.as_slice.ensures.value ∙ c.in_ok-line.ensures) c.in-Err.ensures.cases.0 c.from_str.ensures.ok
