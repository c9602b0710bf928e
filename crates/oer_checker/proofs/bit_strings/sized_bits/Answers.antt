use Rattle.oer_checker.proofs.Exits.{at_stop}
use Rattle.std.proofs.Common.{◌-◌, ◌*◌, ap₂, sym, ℕ, refl}
use Rattle.oer_checker.proofs.BitSteps.{content_got, content_out, content_stop, content_whole}
use Rattle.oer_checker.proofs.bit_strings.sized_bits.Goals as goal

pub returns-then-not-allows-clause-bits : goal.returns-then-not-allows-clause-bits
returns-then-not-allows-clause-bits c = content_out c.args.size.now c.args.count c.args.unused _ (sym (rw (c.from.ensures, c.from-2.ensures) at c.if-not-allows.ensures))

pub returns-in_err-octets-clause-bits : goal.returns-in_err-octets-clause-bits
returns-in_err-octets-clause-bits c = rw (at_stop c.from_residual.result c.in_err-octets.field-0.0 c.from_residual.ensures.1) (content_stop c.args.size.now c.args.count c.args.unused _ _ _ (sym (rw (c.from.ensures, c.from-2.ensures) at c.if-not-allows.ensures)) c.in_err-octets.ensures)

pub returns-clause-whole : goal.returns-clause-whole
returns-clause-whole c = (refl, content_whole c.args.count c.args.unused _ _ _ c.in_ok-octets.octets.now c.in_ok-octets.ensures (ap₂ (λ (i j : ℕ). 8 * i - j) c.from.ensures c.from-2.ensures))

pub returns-clause-bits : goal.returns-clause-bits
returns-clause-bits c = content_got c.args.size.now c.args.count c.args.unused _ _ _ c.in_ok-octets.octets.now (sym (rw (c.from.ensures, c.from-2.ensures) at c.if-not-allows.ensures)) c.in_ok-octets.ensures (ap₂ (λ (i j : ℕ). 8 * i - j) c.from.ensures c.from-2.ensures)
