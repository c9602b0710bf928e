use Rattle.std.proofs.Common.{sym, ◌∙◌, ◌-◌, refl, ap, arith, List, ℕ, length, drop, length-drop}
use Rattle.oer_model.specs.Bits.{all_false}
use Rattle.oer_decoder.specs.BitReading.{used}
use Rattle.oer_decoder.proofs.BitLists.{clear_few, clear_many, take_all}
use Rattle.oer_decoder.proofs.bit_strings.is_clear_past.Goals as goal

pub returns-then-octets-le-PLACES_OCTETS : goal.returns-then-octets-le-PLACES_OCTETS
returns-then-octets-le-PLACES_OCTETS c = sym (clear_few 8192 65536 c.args.unused c.args.octets.now refl c.if-octets-le-PLACES_OCTETS.true)

pub returns : goal.returns
returns c =
    let xs = c.args.octets.now in
    c.is_clear.ensures
    ∙ ap (λ (l : List ℕ). all_false (used c.args.unused l)) (take_all (length xs - 8192) (drop 8192 xs) (omega (arith, length-drop 8192 xs)))
    ∙ ap all_false (sym (clear_many 8192 65536 c.args.unused xs refl c.if-octets-le-PLACES_OCTETS.false))
