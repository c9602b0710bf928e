use Rattle.std.proofs.Common.{arith, rules, ◌-◌}
use Rattle.oer_units.proofs.WrittenDigits.{fits_step, fill_first, fill_step, fill_end}
use Rattle.oer_units.proofs.writing.fill_digits.Goals as goal

pub loop-rest-init : goal.loop-rest-init
loop-rest-init c = record {
  size = search rules;
  room = omega arith;
  some = omega arith;
  fits = omega arith;
  octets = fill_first c.args.buffer.now c.args.n c.told-buffer;
}

pub loop-rest-preserved : goal.loop-rest-preserved
loop-rest-preserved c =
    let inv = c.loop-rest.invariant in
    let less = fits_step (c.loop-rest.at - 1) c.loop-rest.rest inv.fits (omega arith) in
    record {
      size = search rules;
      room = omega arith;
      some = less.0;
      fits = less.1;
      octets = fill_step c.loop-rest.buffer c.loop-rest.at c.loop-rest.rest c.args.n inv.size inv.room inv.some (omega arith) inv.octets;
    }

pub returns-clause-digits : goal.returns-clause-digits
returns-clause-digits c = fill_end c.loop-rest.buffer c.loop-rest.at c.loop-rest.rest c.args.n (omega arith) c.loop-rest.invariant.octets
