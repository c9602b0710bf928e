use Rattle.oer_notation.specs.Views.{knowns}
use Rattle.oer_notation.proofs.Spelling.{refuses_all, spells_all}
use Rattle.oer_notation.proofs.types.parse_types.Goals as goal

pub returns-clause-spells : goal.returns-clause-spells
returns-clause-spells c = spells_all c.what_is_parsed_is_spelled.ensures.all knowns c.args.text.now c.read_definitions.result c.read_definitions.ensures

pub returns-clause-refused : goal.returns-clause-refused
returns-clause-refused c = refuses_all c.what_is_spelled_is_parsed.ensures.all_refused knowns c.args.text.now c.read_definitions.result c.read_definitions.ensures
