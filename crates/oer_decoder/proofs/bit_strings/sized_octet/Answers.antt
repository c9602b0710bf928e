use Rattle.std.proofs.Common.{refl, ◌∙◌, sym, ap, ℕ}
use Rattle.oer_model.specs.Constraints.{size_fits}
use Rattle.oer_decoder.proofs.BitReads.{sized_stop, sized_misfit, sized_got}
use Rattle.oer_decoder.proofs.Exits.{at_stop}
use Rattle.oer_decoder.proofs.bit_strings.sized_octet.Goals as goal

pub returns-in_err-unused-clause-reads : goal.returns-in_err-unused-clause-reads
returns-in_err-unused-clause-reads g c = rw (at_stop c.from_residual.result c.in_err-unused.field-0.0 c.from_residual.ensures.1) (sized_stop c.args.size c.args.length _ _ _ c.in_err-unused.ensures.reads)

pub returns-then-not-allows-clause-reads : goal.returns-then-not-allows-clause-reads
returns-then-not-allows-clause-reads g c =
    sized_misfit c.args.size c.args.length c.in_ok-unused.unused _ _ _ c.in_ok-unused.ensures.reads
    (sym (c.if-not-allows.ensures ∙ ap (λ (n : ℕ). size_fits c.args.size n) c.bits_used-count.ensures)) refl refl

pub returns-clause-reads : goal.returns-clause-reads
returns-clause-reads g c =
    sized_got c.args.size c.args.length c.in_ok-unused.unused _ _ c.in_ok-unused.ensures.reads
    (sym (c.if-not-allows.ensures ∙ ap (λ (n : ℕ). size_fits c.args.size n) c.bits_used-count.ensures))
