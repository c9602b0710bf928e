use Rattle.std.proofs.Common.{◌≡◌, ◌∙◌, ◌-◌, ◌<◌, ◌≤◌, Bool, List, ap, arith, length, drop, refl, sym, take}
use Rattle.std.proofs.lemmas.Bool.{eqb-false, eqb-true}
use Rattle.std.proofs.lemmas.List.{length-drop, take_all}
use Rattle.oer_model.specs.Bits.{padded}
use Rattle.oer_decoder.proofs.Packed.{bits_done, bits_last, bits_more, padded_more}
use Rattle.oer_decoder.proofs.packing.append_bits.Goals as goal

pub returns : goal.returns
returns c =
    let some = eqb-false (length c.loop-rest.rest.now) 0 (sym c.is_empty.ensures ∙ c.if-is_empty.false) in
    bits_last c.args.bits.now c.loop-rest.rest.now c.octet_of-2.result _ _ _ c.append-2.result
    (omega (arith, some)) c.loop-rest-test.false c.loop-rest.invariant c.octet_of-2.ensures c.append-2.ensures

pub returns-then-is_empty : goal.returns-then-is_empty
returns-then-is_empty c =
    let none = eqb-true (length c.loop-rest.rest.now) 0 (sym c.is_empty.ensures ∙ c.if-is_empty.true) in
    bits_done c.args.bits.now c.loop-rest.rest.now _ _ none c.loop-rest.invariant

pub loop-rest-preserved : goal.loop-rest-preserved
loop-rest-preserved c =
    let rest = c.loop-rest.rest.now in
    let all : (n : _) → n ≡ length rest - 8 → take n (drop 8 rest) ≡ drop 8 rest = λ n e. take_all n (drop 8 rest) (omega (arith, e, length-drop 8 rest)) in
    rw (all _ refl) (bits_more c.args.bits.now rest (drop 8 rest) c.octet_of.result _ _ _ c.loop-rest.invariant
    (padded_more rest c.octet_of.result c.loop-rest-test.true c.octet_of.ensures) c.in_ok-append.ensures)
