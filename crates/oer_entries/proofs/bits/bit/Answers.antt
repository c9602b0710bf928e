use Rattle.std.proofs.Common.{◌≡◌, ◌-◌, ◌/◌, ◌^◌, ◌%◌, ◌∷◌, ℕ, ap, drop, drop-cons, nat_eq, refl, suc, sym, ◌∙◌}
use Rattle.oer_model.specs.Bits.{bit}
use Rattle.oer_checker.proofs.BitLists.{bit_past, bit_there}
use Rattle.oer_entries.proofs.bits.bit.Goals as goal

bit_is : (x r : ℕ) → nat_eq (x / 2 ^ r % 2) 1 ≡ bit x r
unfolding bit
bit_is x r = refl

pub returns-in-Some : goal.returns-in-Some
returns-in-Some c =
    let i = c.args.index in
    let xs = c.args.octets.now in
    let x = c.in-Some.octet.now in
    let found = c.in-Some.ensures.lookup in
    bit_is x (7 - i % 8) ∙ bit_there i xs x (drop (suc (i / 8)) xs) (drop-cons xs (i / 8) x found.3.0 ∙ ap (λ (y : ℕ). y ∷ drop (suc (i / 8)) xs) (sym found.1))

pub returns-in-None : goal.returns-in-None
returns-in-None c = bit_past c.args.index c.args.octets.now c.in-None.ensures.lookup.3
