use Rattle.std.proofs.Common.{refl, ◌≡◌, ◌∙◌, sym, ap, List, Bool, take, drop}
use Rattle.oer_model.specs.Bits.{all_false, bits_of}
use Rattle.oer_decoder.proofs.BitReads.{preamble_stop, preamble_padding, preamble_got}
use Rattle.oer_decoder.proofs.Exits.{at_fault, here}
use Rattle.oer_decoder.proofs.preamble.long_preamble.Goals as goal

pub returns-in_err-octets : goal.returns-in_err-octets
returns-in_err-octets g c = rw (at_fault c.from_residual.result c.in_err-octets.field-0.0 c.from_residual.ensures.1) (here _ _ _ _ (preamble_stop c.args.count _ _ _ (rw c.octets_needed.ensures.value at c.in_err-octets.ensures.reads)))

pub returns-then-not-are_false_from : goal.returns-then-not-are_false_from
returns-then-not-are_false_from g c =
    let all : c.deref-2.result.now ≡ bits_of c.in_ok-octets.octets.items = c.deref-2.ensures.value ∙ c.in-Ok.ensures ∙ ap bits_of c.deref.ensures.value in
    preamble_padding c.args.count _ _ c.in_ok-octets.octets.items _ (rw c.octets_needed.ensures.value at c.in_ok-octets.ensures.reads)
    (sym (c.if-not-are_false_from.ensures ∙ ap (λ (s : List Bool). all_false (drop c.args.count s)) all)) refl refl

pub returns : goal.returns
returns g c =
    let all : c.in-Ok.bits.items ≡ bits_of c.in_ok-octets.octets.items = c.in-Ok.ensures ∙ ap bits_of c.deref.ensures.value in
    preamble_got c.args.count _ _ c.in_ok-octets.octets.items _ (rw c.octets_needed.ensures.value at c.in_ok-octets.ensures.reads)
    (sym (c.if-not-are_false_from.ensures ∙ ap (λ (s : List Bool). all_false (drop c.args.count s)) (c.deref-2.ensures.value ∙ all)))
    (c.truncate.ensures.items ∙ ap (λ (s : List Bool). take c.args.count s) all)
