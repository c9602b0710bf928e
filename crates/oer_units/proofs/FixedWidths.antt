-- Numbers of fixed size are read as their octets say.
use Rattle.std.proofs.Common.{◌≡◌, ℕ, List, [], ◌++◌, length, refl, sym, ap, ◌∙◌, append-nil}
use Rattle.oer_units.specs.declared.width.Width.{Width}
use Rattle.oer_units.specs.Width.{octets_of_width}
use Rattle.oer_units.specs.Lawful.{Lawful}
use Rattle.oer_units.specs.Numbers.{unsigned, signed}
use Rattle.oer_units.specs.Reader.{give, group}
use Rattle.oer_units.specs.Fixed.{group_as, unsigned_fixed_at, signed_fixed_at}
use Rattle.oer_units.specs.Laws.{IsOfWidth}
use Rattle.oer_units.proofs.Closure.{bind_lawful, same_spellings, give_lawful}
use Rattle.oer_units.proofs.Units.{group_lawful}

group_as_lawful : {A : Type 0} (n : ℕ) (f : List ℕ → A) → Lawful (group_as n f) (λ z b. (length b ≡ n) × (f b ≡ z))
group_as_lawful n f = same_spellings
    (bind_lawful (group n) (λ w. give (f w)) (λ w b. (w ≡ b) × (length b ≡ n)) (λ w z b. (z ≡ f w) × (b ≡ [])) (group_lawful n) (λ w. give_lawful (f w)))
    (λ z b (w, b1, b2, s1, s2, e).
    (let whole : b ≡ b1 = e ∙ ap (λ v. b1 ++ v) s2.1 ∙ append-nil b1 in
    let word : w ≡ b = s1.0 ∙ sym whole in
    let is : z ≡ f w = s2.0 in
    (ap length whole ∙ s1.1, ap f (sym word) ∙ sym is)))
    (λ z b (e, is). (b, b, [], (refl, e), (sym is, refl), sym (append-nil b)))

pub unsigned_width_lawful : (width : Width) → Lawful (unsigned_fixed_at width) (IsOfWidth unsigned width)
unfolding unsigned_fixed_at
unsigned_width_lawful width = group_as_lawful (octets_of_width width) unsigned

pub signed_width_lawful : (width : Width) → Lawful (signed_fixed_at width) (IsOfWidth signed width)
unfolding signed_fixed_at
signed_width_lawful width = group_as_lawful (octets_of_width width) signed
