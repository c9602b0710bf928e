use Rattle.oer_json.proofs.Decimals.{text_read, text_spelt}
use Rattle.oer_json.proofs.Dots.{dotted_complete, dotted_sound}
use Rattle.oer_json.proofs.laws.taken_numerals_are_those_made.Goals as goal

pub returns-clause-integers_spelt : goal.returns-clause-integers_spelt
returns-clause-integers_spelt c = text_spelt

pub returns-clause-integers_read : goal.returns-clause-integers_read
returns-clause-integers_read c = text_read

pub returns-clause-arcs_spelt : goal.returns-clause-arcs_spelt
returns-clause-arcs_spelt c = dotted_sound

pub returns-clause-arcs_read : goal.returns-clause-arcs_read
returns-clause-arcs_read c = dotted_complete
