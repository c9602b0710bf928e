use Rattle.std.proofs.Common.{sym}
use Rattle.std.specs.Int.{w128}
use Rattle.std.proofs.lemmas.Int.{to_z-of_z}
use Rattle.oer_units.specs.Reader.{give}
use Rattle.oer_units.specs.declared.fault.Why.TheVariants.{IntegerRange}
use Rattle.oer_model.specs.Constraints.{in_range}
use Rattle.oer_checker.proofs.Joins.{give_got, guard_no, guard_yes}
use Rattle.oer_checker.proofs.numbers.in_bounds.Goals as goal

pub returns-then-not-is_in_range : goal.returns-then-not-is_in_range
returns-then-not-is_in_range c = guard_no (in_range c.args.low c.args.high c.args.number) IntegerRange (give c.args.is_least) _ (sym (rw (to_z-of_z w128 c.args.number c.ranges.number) at c.if-not-is_in_range.ensures))

pub returns : goal.returns
returns c = guard_yes (in_range c.args.low c.args.high c.args.number) IntegerRange (give c.args.is_least) _ _ (sym (rw (to_z-of_z w128 c.args.number c.ranges.number) at c.if-not-is_in_range.ensures)) (give_got c.args.is_least _)
