use Rattle.oer_notation.proofs.Sound.{parse_sound}
use Rattle.oer_notation.proofs.SoundAll.{parse_all_sound}
use Rattle.oer_notation.proofs.laws.what_is_parsed_is_spelled.Goals as goal

pub returns-clause-one : goal.returns-clause-one
returns-clause-one c = λ bs T h. parse_sound c.text_falls_into_its_tokens.ensures c.first_fault.ensures.none c.first_fault.ensures.well_formed bs T h

pub returns-clause-all : goal.returns-clause-all
returns-clause-all c = λ bs ks h. parse_all_sound c.text_falls_into_its_tokens.ensures c.first_fault.ensures.none c.first_fault.ensures.well_formed bs ks h
