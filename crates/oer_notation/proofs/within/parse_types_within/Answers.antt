use Rattle.oer_notation.specs.Views.{knowns}
use Rattle.oer_notation.proofs.WithinLoops.{few_within, light_within, read_within, refuses_within, spells_within}
use Rattle.oer_notation.proofs.within.parse_types_within.Goals as goal

pub returns-clause-read : goal.returns-clause-read
returns-clause-read c = read_within knowns c.args.parts c.args.text.now c.read_text_within.result c.read_text_within.ensures

pub returns-clause-spells : goal.returns-clause-spells
returns-clause-spells c =
    spells_within knowns c.args.parts c.args.text.now c.what_is_parsed_is_spelled.ensures.all c.read_text_within.result
    c.read_text_within.ensures

pub returns-clause-within : goal.returns-clause-within
returns-clause-within c = few_within knowns c.args.parts c.args.text.now c.read_text_within.result c.read_text_within.ensures

pub returns-clause-light : goal.returns-clause-light
returns-clause-light c = light_within knowns c.args.parts c.args.text.now c.read_text_within.result c.read_text_within.ensures

pub returns-clause-refused : goal.returns-clause-refused
returns-clause-refused c =
    refuses_within knowns c.args.parts c.args.text.now c.what_is_spelled_is_parsed.ensures.all_refused c.read_text_within.result
    c.read_text_within.ensures
