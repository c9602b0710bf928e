use Rattle.oer_types.specs.Schema.{the_type}
use Rattle.oer_notation.specs.Views.{known_by}
use Rattle.oer_notation.proofs.Spelling.{defined}
use Rattle.oer_notation.proofs.types.Types.get.Goals as goal

pub returns-clause-defined : goal.returns-clause-defined
returns-clause-defined c = defined (λ s. the_type s.now) (known_by c.args.self.now.definitions) c.args.name.now c.find.result c.find.ensures
