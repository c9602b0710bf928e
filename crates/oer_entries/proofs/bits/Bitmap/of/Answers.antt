use Rattle.std.proofs.Common.{◌-◌, ◌∙◌, ap, sym, take, ℕ}
use Rattle.oer_model.specs.Bits.{bits_of}
use Rattle.oer_entries.specs.Next.{used_bits}
use Rattle.oer_entries.proofs.bits.Bitmap.of.Goals as goal

pub returns : goal.returns
returns c =
    let unused = c.in-Some.unused.now in
    let bits = c.in-Some.bits.now in
    ap (λ (n : ℕ). take n (bits_of bits)) (c.saturating_sub.ensures ∙ ap (λ (n : ℕ). n - unused) c.saturating_mul.ensures)
    ∙ ap used_bits (sym c.in-Some.ensures.cases.0 ∙ c.after_length.ensures)
