use Rattle.oer_types.specs.Schema.{the_type}
use Rattle.oer_notation.proofs.Spelling.{refuses_one, spells_one}
use Rattle.oer_notation.proofs.types.parse_type.Goals as goal

pub returns-clause-spells : goal.returns-clause-spells
returns-clause-spells c = spells_one c.what_is_parsed_is_spelled.ensures.one the_type c.args.text.now c.read_text.result c.read_text.ensures

pub returns-clause-refused : goal.returns-clause-refused
returns-clause-refused c = refuses_one c.what_is_spelled_is_parsed.ensures.refused the_type c.args.text.now c.read_text.result c.read_text.ensures
