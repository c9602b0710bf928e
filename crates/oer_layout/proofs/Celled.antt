-- What stands in the columns of a line, as it is appended.
use Rattle.std.proofs.Common.{◌≡◌, ◌∙◌, ℕ, ◌+◌, ◌<◌, ◌≤◌, List, [], ◌∷◌, ◌++◌, length, get_or}
use Rattle.std.proofs.Common.{take, ap, sym, append_assoc, append-nil, add-one, Option, Some, Vec, Global, flat_map, take_all, codes}
use Rattle.std.proofs.Math.Seq.{take-suc}
use Rattle.std.proofs.lemmas.Grind.{flat_map-append}
use Rattle.oer_layout.specs.Text.{Text}
use Rattle.oer_entries.specs.declared.bits.NamedBit.{NamedBit}
use Rattle.oer_layout.specs.Cells.{bit_text, bits_text, canonical_note, digits_or_none, first_digits}

-- ---- bits

pub no_bits : (word : Text) (bits : List NamedBit) (text : Text) → text ≡ word → text ≡ bits_text word (take 0 bits)
no_bits word bits text is = is ∙ sym (append-nil word)

pub one_bit : (word : Text) (bits : List NamedBit) (i : ℕ) (d : NamedBit) (text new : Text) → i < length bits → text ≡ bits_text word (take i bits)
    → new ≡ text ++ bit_text (get_or bits i d) → new ≡ bits_text word (take (i + 1) bits)
one_bit word bits i d text new lt so is =
    let split : take (i + 1) bits ≡ take i bits ++ get_or bits i d ∷ [] = rw add-one (take-suc bits i d lt) in
    is ∙ ap (λ x. x ++ bit_text (get_or bits i d)) so ∙ append_assoc word (flat_map bit_text (take i bits)) (bit_text (get_or bits i d))
    ∙ ap (λ x. word ++ (flat_map bit_text (take i bits) ++ x)) (sym (append-nil (bit_text (get_or bits i d))))
    ∙ ap (λ x. word ++ x) (sym (flat_map-append bit_text (take i bits) (get_or bits i d ∷ []))) ∙ ap (bits_text word) (sym split)

pub all_bits : (word : Text) (bits : List NamedBit) (i : ℕ) (text : Text) → length bits ≤ i → text ≡ bits_text word (take i bits) → text ≡ bits_text word bits
all_bits word bits i text over so = so ∙ ap (bits_text word) (take_all i bits over)

-- ---- notes

flat : (t a b c d : Text) → (((t ++ a) ++ b) ++ c) ++ d ≡ t ++ (a ++ (b ++ (c ++ d)))
flat t a b c d = simp append_assoc

pub canonical_noted : (o : Option (Vec ℕ Global)) (v : Vec ℕ Global) (b t0 t1 t2 t3 t4 shown octets : List ℕ) → o ≡ Some v → shown ≡ first_digits b → octets ≡ v.items
    → t1 ≡ t0 ++ codes " -- basic " → t2 ≡ t1 ++ shown → t3 ≡ t2 ++ codes ", canonical " → t4 ≡ t3 ++ digits_or_none octets → t4 ≡ t0 ++ canonical_note o b
canonical_noted o v b t0 t1 t2 t3 t4 shown octets is one two e1 e2 e3 e4 =
    rw (is, e4, e3, e2, e1, one, two) (flat t0 (codes " -- basic ") (first_digits b) (codes ", canonical ") (digits_or_none v.items))
