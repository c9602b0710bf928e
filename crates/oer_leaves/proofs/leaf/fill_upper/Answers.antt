use Rattle.std.proofs.Common.{arith, rules}
use Rattle.oer_units.proofs.WrittenDigits.{fits_step}
use Rattle.oer_leaves.proofs.Numbers.{fill_more, fill_all}
use Rattle.oer_leaves.proofs.leaf.fill_upper.Goals as goal

pub loop-rest-preserved : goal.loop-rest-preserved
loop-rest-preserved c =
    let inv = c.loop-rest.invariant in
    let less = fits_step c.loop-rest.at c.loop-rest.rest inv.fits (omega arith) in
    record {
      size = search rules;
      room = omega arith;
      fits = less.1;
      octets = fill_more c.loop-rest.buffer _ c.loop-rest.at c.loop-rest.rest inv.size inv.room less.0 (omega arith) inv.octets;
    }

pub returns-clause-digits : goal.returns-clause-digits
returns-clause-digits c = fill_all c.loop-rest.buffer _ c.loop-rest.at c.loop-rest.rest (omega arith) c.loop-rest.invariant.octets
