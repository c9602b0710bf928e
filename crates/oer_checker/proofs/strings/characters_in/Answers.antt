use Rattle.std.proofs.Common.{◌≡◌, ◌∙◌, Bool, true, false, List, ℕ, ap, sym, refl, length}
use Rattle.std.specs.Str.{chars, is_utf8, IsUtf8}
use Rattle.std.proofs.lemmas.Str.{IsUtf8-from_is_utf8}
use Rattle.oer_checker.proofs.strings.characters_in.Goals as goal

refuted : (xs : List ℕ) (b : Bool) → is_utf8 xs ≡ b → (IsUtf8 xs → ⊥) → b ≡ false
refuted xs true e no_text = absurd (no_text (IsUtf8-from_is_utf8 xs e))
refuted xs false e no_text = refl

pub returns-in-Ok : goal.returns-in-Ok
returns-in-Ok c =
    let same = c.in-Ok.ensures.cases.0 in
    (ap is_utf8 (sym same) ∙ c.characters_of.ensures.text, c.characters_of.ensures.count ∙ ap (λ (l : List ℕ). length (chars l)) same)

pub returns-in-Err : goal.returns-in-Err
returns-in-Err c = refuted c.args.octets.now (is_utf8 c.args.octets.now) refl c.in-Err.ensures.cases.0
