-- The last bits of octets.
use Rattle.std.proofs.Common.{◌≡◌, ℕ, suc, ◌-◌, ◌<◌, ◌≤◌, false, eqb, List, [], ◌∷◌, length, take, drop, get_or, drop-cons, arith, ap, ◌∙◌, sym}
use Rattle.oer_model.specs.Bits.{all_false, bits_of}
use Rattle.oer_checker.specs.Steps.{last_are_zero}
use Rattle.oer_checker.proofs.BitLists.{drop_past, last_octet}

pub some_octet : (xs : List ℕ) → false ≡ eqb (length xs) 0 → 0 < length xs
some_octet [] e = absurd (cc)
some_octet (x ∷ xs) e = omega arith

-- the last octet, alone
alone : (xs : List ℕ) → 0 < length xs → drop (length xs - 1) xs ≡ get_or xs (length xs - 1) 0 ∷ []
alone xs some = drop-cons xs (length xs - 1) 0 (omega arith) ∙ ap (λ (l : List ℕ). get_or xs (length xs - 1) 0 ∷ l) (drop_past (suc (length xs - 1)) xs (omega arith))

pub by_last : (u : ℕ) (xs : List ℕ) → 0 < length xs → u ≤ 7 → all_false (drop (8 - u) (bits_of (get_or xs (length xs - 1) 0 ∷ []))) ≡ last_are_zero u xs
by_last u xs some le =
    ap (λ (l : List ℕ). all_false (drop (8 - u) (take 8 (bits_of l)))) (sym (alone xs some))
    ∙ last_octet u xs le
