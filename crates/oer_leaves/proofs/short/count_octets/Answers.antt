use Rattle.std.proofs.Common.{arith}
use Rattle.oer_leaves.proofs.ShortNumbers.{needed_eight, needed_of}
use Rattle.oer_leaves.proofs.short.count_octets.Goals as goal

pub returns-clause-value : goal.returns-clause-value
returns-clause-value c = omega (arith, needed_of c.args.n c.short_len.result c.ranges.n.fits c.short_len.ensures)

pub returns-clause-most : goal.returns-clause-most
returns-clause-most c = omega (arith, needed_of c.args.n c.short_len.result c.ranges.n.fits c.short_len.ensures, needed_eight c.args.n c.ranges.n.fits)

pub overflow_sub-result : goal.overflow_sub-result
overflow_sub-result c = omega (arith, needed_of c.args.n c.short_len.result c.ranges.n.fits c.short_len.ensures)
