use Rattle.std.proofs.Common.{◌≡◌, Bool, true, false, List, ℕ, ap, refl}
use Rattle.std.specs.Str.{is_utf8, IsUtf8}
use Rattle.std.proofs.lemmas.Bool.{false≢true}
use Rattle.std.proofs.lemmas.Str.{IsUtf8-from_is_utf8, IsUtf8-had, is_utf8-from_IsUtf8}
use Rattle.oer_decoder.proofs.strings.decoded.Goals as goal

pub returns-in-Ok : goal.returns-in-Ok
returns-in-Ok c =
    let same = c.in-Ok.ensures.ok in
    let text = c.in-Ok.text in
    (rw same at (is_utf8-from_IsUtf8 text.bytes.items (IsUtf8-had text.bytes.items text.ok)), ap (λ v. v.items) same)

refuted : (xs : List ℕ) (b : Bool) → is_utf8 xs ≡ b → (IsUtf8 xs → ⊥) → b ≡ false
refuted xs true e no_text = absurd (no_text (IsUtf8-from_is_utf8 xs e))
refuted xs false e no_text = refl

pub returns : goal.returns
returns c = refuted c.args.octets.items (is_utf8 c.args.octets.items) refl (λ u. false≢true (c.in-Err.ensures.succeeds u))
