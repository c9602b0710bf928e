use Rattle.std.proofs.Common.{refl, ◌≡◌, sym, ◌∙◌, ap, List, ℕ, length}
use Rattle.std.specs.Str.{chars}
use Rattle.oer_model.specs.Constraints.{size_fits}
use Rattle.oer_decoder.proofs.Texts.{utf8_got, utf8_misfit, utf8_out, utf8_stop}
use Rattle.oer_decoder.proofs.Values.{value_of-Text}
use Rattle.oer_decoder.proofs.Exits.{at_stop}
use Rattle.oer_decoder.proofs.strings.read_utf8.Goals as goal

pub returns-in_err-octets : goal.returns-in_err-octets
returns-in_err-octets g c = rw (at_stop c.from_residual.result c.in_err-octets.field-0.0 c.from_residual.ensures.1) (utf8_stop c.args.size.now _ _ _ c.in_err-octets.ensures)

pub returns-in_default : goal.returns-in_default
returns-in_default g c = utf8_out c.args.size.now _ _ c.in_ok-octets.octets.items _ c.in_ok-octets.ensures c.in_default.ensures refl refl

pub returns-then-not-allows : goal.returns-then-not-allows
returns-then-not-allows g c =
    let count : c.from.result ≡ length (chars c.in_ok-octets.octets.items) = c.from.ensures ∙ c.characters_in.ensures ∙ ap (λ (w : List ℕ). length (chars w)) (c.as_str.ensures.value ∙ c.in-Some.ensures.1) in
    utf8_misfit c.args.size.now _ _ c.in_ok-octets.octets.items _ c.in_ok-octets.ensures c.in-Some.ensures.0 (sym (c.if-not-allows.ensures ∙ ap (λ (n : ℕ). size_fits c.args.size.now n) count)) refl refl

pub returns : goal.returns
returns g c =
    let count : c.from.result ≡ length (chars c.in_ok-octets.octets.items) = c.from.ensures ∙ c.characters_in.ensures ∙ ap (λ (w : List ℕ). length (chars w)) (c.as_str.ensures.value ∙ c.in-Some.ensures.1) in
    rw (c.set.ensures, value_of-Text, c.in-Some.ensures.1)
    (utf8_got c.args.size.now _ _ c.in_ok-octets.octets.items c.in_ok-octets.ensures c.in-Some.ensures.0 (sym (c.if-not-allows.ensures ∙ ap (λ (n : ℕ). size_fits c.args.size.now n) count)))
