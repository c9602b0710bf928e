use Rattle.std.proofs.Common.{◌≡◌, sym, ◌∙◌, ◌-◌, ap, List, ℕ, Bool, true, false, ◌&&◌, take, length, get_or, ◌∷◌, []}
use Rattle.oer_model.specs.Bits.{all_false, bits_of}
use Rattle.oer_decoder.proofs.BitLists.{used-split}
use Rattle.oer_decoder.proofs.bit_strings.is_clear.Goals as goal

pub returns-then-are_zero : goal.returns-then-are_zero
returns-then-are_zero c =
    let xs = c.args.octets.now in
    let f : true ≡ all_false (bits_of (take (length xs - 1) xs)) = c.if-are_zero.ensures in
    let last : List Bool = bits_of (get_or xs (length xs - 1) 0 ∷ []) in
    let b : c.bits_of_octet-bits.result ≡ last = c.bits_of_octet-bits.ensures in
    c.are_false_from.ensures
    ∙ ap (λ (n : ℕ). all_false (take (8 - n) c.bits_of_octet-bits.result)) c.from.ensures
    ∙ ap (λ (s : List Bool). all_false (take (8 - c.args.unused) s)) b
    ∙ ap (λ (t : Bool). t && all_false (take (8 - c.args.unused) last)) f
    ∙ sym (used-split c.args.unused xs c.requires c.in-len1-up.len_at_least)

pub returns-else-are_zero : goal.returns-else-are_zero
returns-else-are_zero c =
    let xs = c.args.octets.now in
    let f : false ≡ all_false (bits_of (take (length xs - 1) xs)) = c.if-are_zero.ensures in
    let last : List Bool = bits_of (get_or xs (length xs - 1) 0 ∷ []) in
    c.if-are_zero.false
    ∙ ap (λ (t : Bool). t && all_false (take (8 - c.args.unused) last)) f
    ∙ sym (used-split c.args.unused xs c.requires c.in-len1-up.len_at_least)
