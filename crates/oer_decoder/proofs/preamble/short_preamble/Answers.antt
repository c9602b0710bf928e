use Rattle.std.proofs.Common.{refl, ◌≡◌, ◌∙◌, sym, ap, ℕ, List, Bool, arith, min, take, Ok, Err}
use Rattle.oer_model.specs.Bits.{bits_of}
use Rattle.oer_decoder.proofs.BitReads.{as_preamble, one_is, padding_is, preamble_stop, preamble_padding, preamble_got}
use Rattle.oer_decoder.proofs.Exits.{at_fault, here}
use Rattle.oer_decoder.proofs.preamble.short_preamble.Goals as goal

pub returns-in_err-octets_into : goal.returns-in_err-octets_into
returns-in_err-octets_into g c =
    rw (at_fault c.from_residual.result c.in_err-octets_into.field-0.0 c.from_residual.ensures.1)
    (here _ _ _ _ (preamble_stop c.args.count _ _ _ (as_preamble c.args.count _ _ (Err c.in_err-octets_into.field-0.0) c.requires.some c.requires.most c.in_err-octets_into.ensures.reads)))

pub returns-then-not-are_last_zero : goal.returns-then-not-are_last_zero
returns-then-not-are_last_zero g c =
    let p = c.octets_into.new.into in
    preamble_padding c.args.count _ _ p _ (as_preamble c.args.count _ _ (Ok p) c.requires.some c.requires.most c.in_ok-octets_into.ensures.reads)
    (padding_is c.args.count p _ c.octets_into.auto.into c.requires.most c.if-not-are_last_zero.ensures) refl refl

pub returns : goal.returns
returns g c =
    let p = c.octets_into.new.into in
    let all : c.bits_of_octet.result ≡ bits_of p = c.bits_of_octet.ensures ∙ ap bits_of (sym (one_is p 0 c.octets_into.auto.into)) in
    let most = c.requires.most in
    let within : min c.args.count 8 ≡ c.args.count = omega arith in
    preamble_got c.args.count _ _ p _ (as_preamble c.args.count _ _ (Ok p) c.requires.some c.requires.most c.in_ok-octets_into.ensures.reads)
    (padding_is c.args.count p _ c.octets_into.auto.into c.requires.most c.if-not-are_last_zero.ensures)
    (ap (λ (n : ℕ). take n c.bits_of_octet.result) within ∙ ap (λ (s : List Bool). take c.args.count s) all)
