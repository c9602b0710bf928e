use Rattle.std.proofs.Common.{arith, ◌∙◌, sym, true≢false, codes}
use Rattle.std.proofs.lemmas.Slice.Eq.{bytes_eq-Decides}
use Rattle.std.proofs.lemmas.Str.Pattern.{strip_prefix_char}
use Rattle.oer_parts.proofs.Paths.{no_step}
use Rattle.oer_parts.proofs.path.step.Goals as goal

pub returns-else-eq : goal.returns-else-eq
returns-else-eq c =
    let text = c.args.text.now in
    let letter_c = rw c.in_default.is at (strip_prefix_char 99 text c.strip_prefix.result c.strip_prefix.ensures.cases (omega arith)) in
    let letter_a = rw c.in_default-strip_prefix.is at (strip_prefix_char 97 text c.strip_prefix-2.result c.strip_prefix-2.ensures.cases (omega arith)) in
    let letter_i = rw c.in_default-strip_prefix-2.is at (strip_prefix_char 105 text c.strip_prefix-3.result c.strip_prefix-3.ensures.cases (omega arith)) in
    no_step text letter_c letter_a letter_i (λ e. true≢false (sym ((bytes_eq-Decides text (codes "v")).1 e) ∙ sym (c.if-eq.ensures)))
