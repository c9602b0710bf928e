-- The lines of `check`.
use Rattle.std.proofs.Common.{◌≡◌, ℕ, true, false, refl, sym, ap, ◌∙◌}
use Rattle.std.specs.Prelude.{Bool}
use Rattle.oer_cmd.specs.Run.{verdict_text}
use Rattle.oer_canonical_cmd.specs.Strict.{TellsCanonical, is_basic}

basic_of : (canonical : Bool) (n : ℕ) → is_basic (verdict_text canonical n) ≡ false → canonical ≡ true
basic_of true n h = refl
basic_of false n h = absurd (cc (h))

canonical_of : (canonical : Bool) (n : ℕ) → canonical ≡ true → is_basic (verdict_text canonical n) ≡ false
canonical_of true n h = refl
canonical_of false n h = absurd (cc (h))

pub tells_canonical : TellsCanonical
tells_canonical T limit line b (encoding, within, (canonical, is, iff)) = (
  λ told. iff.0 (basic_of canonical _ (ap is_basic (sym is) ∙ told)),
  λ all. ap is_basic is ∙ canonical_of canonical _ (iff.1 all),
)
