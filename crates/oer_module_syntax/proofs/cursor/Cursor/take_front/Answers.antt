use Rattle.std.proofs.Common.{ap, List}
use Rattle.oer_module_lexer.specs.Token.{Spot}
use Rattle.oer_module_syntax.specs.State.{State}
use Rattle.oer_module_syntax.proofs.Spots.{left}
use Rattle.oer_module_syntax.proofs.cursor.Cursor.take_front.Goals as goal

pub returns-clause-rest : goal.returns-clause-rest
returns-clause-rest c = rw c.rest_of-self.ensures (ap (λ (l : List Spot). record { left = l; end = c.args.self.now.end; complete = c.args.self.now.complete }) (left c.args.count c.args.self.now.spots.now))
