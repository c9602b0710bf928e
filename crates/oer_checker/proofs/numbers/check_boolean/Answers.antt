use Rattle.oer_checker.proofs.Exits.{at_stop}
use Rattle.std.proofs.Common.{eqb, ◌||◌}
use Rattle.oer_units.specs.Reader.{give}
use Rattle.oer_units.specs.Reading.{octet}
use Rattle.oer_checker.proofs.Joins.{bind_got, bind_stop, give_got}
use Rattle.oer_checker.proofs.numbers.check_boolean.Goals as goal

pub returns-in_err-octet : goal.returns-in_err-octet
returns-in_err-octet c = rw (at_stop c.from_residual.result c.in_err-octet.field-0.0 c.from_residual.ensures.1) (bind_stop octet (λ x. give (eqb x 0 || eqb x 255)) _ _ _ c.in_err-octet.ensures)

pub returns : goal.returns
returns c = rw c.is_least_boolean.ensures (bind_got octet (λ x. give (eqb x 0 || eqb x 255)) _ _ c.in_ok-octet.octet _ c.in_ok-octet.ensures (give_got (eqb c.in_ok-octet.octet 0 || eqb c.in_ok-octet.octet 255) _))
