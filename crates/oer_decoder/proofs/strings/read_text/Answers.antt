use Rattle.std.proofs.Common.{refl, sym, ◌∙◌}
use Rattle.std.proofs.lemmas.Bool.{false≢true}
use Rattle.oer_values.specs.AlphabetView.{alphabet_of}
use Rattle.oer_decoder.proofs.Texts.{decodes, text_got, text_out, text_stop}
use Rattle.oer_decoder.proofs.Values.{value_of-Text}
use Rattle.oer_decoder.proofs.Exits.{at_stop}
use Rattle.oer_decoder.proofs.strings.read_text.Goals as goal

pub returns-in_err-octets : goal.returns-in_err-octets
returns-in_err-octets g c = rw (at_stop c.from_residual.result c.in_err-octets.field-0.0 c.from_residual.ensures.1) (text_stop (alphabet_of c.args.kind) c.args.size.now _ _ _ c.in_err-octets.ensures)

pub returns-then-not-are_characters : goal.returns-then-not-are_characters
returns-then-not-are_characters g c =
    text_out (alphabet_of c.args.kind) c.args.size.now _ _ c.in_ok-octets.octets.items _ c.in_ok-octets.ensures (sym (rw c.deref.ensures.value at c.if-not-are_characters.ensures)) refl refl

pub returns-in_default : goal.returns-in_default
returns-in_default g c =
    let characters = sym (rw c.deref.ensures.value at c.if-not-are_characters.ensures) in
    absurd (false≢true (sym c.in_default.ensures ∙ decodes (alphabet_of c.args.kind) c.in_ok-octets.octets.items characters))

pub returns : goal.returns
returns g c =
    rw (c.set.ensures, value_of-Text, c.in-Some.ensures.1)
    (text_got (alphabet_of c.args.kind) c.args.size.now _ _ c.in_ok-octets.octets.items c.in_ok-octets.ensures (sym (rw c.deref.ensures.value at c.if-not-are_characters.ensures)))
