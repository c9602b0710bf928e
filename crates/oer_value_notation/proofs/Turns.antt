-- The turns of the loop over arcs, and octets in hexadecimal.
use Rattle.std.proofs.Common.{◌≡◌, ℕ, zero, suc, ◌+◌, ◌-◌, ◌≤◌, ◌<◌, List, [], ◌∷◌, ◌++◌, length, true, false, Some, None, Ok, Err, refl, ap, arith, sub-one}
use Rattle.hex.specs.Hex.{decode_of}
use Rattle.hex.specs.declared.error.FromHexError.{FromHexError}
use Rattle.oer_lexer.specs.Token.{spots_of}
use Rattle.oer_lexer.specs.declared.token.Spot.{Spot as RawSpot}
use Rattle.oer_literals.specs.Numbers.{arc_of}
use Rattle.oer_value_notation.specs.Numbers.{number_at}
use Rattle.oer_value_notation.specs.State.{State, first}
use Rattle.oer_value_notation.specs.Values.{ok_part, octets_in, is_number, arcs_more}
use Rattle.oer_value_notation.specs.declared.fault.TextFault.{TextFault}

pub arcs_end : (n : ℕ) (found : List ℕ) (s : State) → 0 < n → is_number (first s) ≡ false → arcs_more n found s ≡ Ok (found, s)
unfolding arcs_more
arcs_end zero found s some h = absurd (omega arith)
arcs_end (suc n) found s some h = rw h refl

pub arcs_err : (n : ℕ) (found : List ℕ) (s : State) (e : TextFault) → 0 < n → is_number (first s) ≡ true → number_at arc_of s ≡ Err e → arcs_more n found s ≡ Err e
unfolding arcs_more
arcs_err zero found s e some h a = absurd (omega arith)
arcs_err (suc n) found s e some h a = rw (h, a) refl

pub arcs_step : (n : ℕ) (found : List ℕ) (s : State) (a : ℕ) (r : State) → 0 < n → is_number (first s) ≡ true → number_at arc_of s ≡ Ok (a, r) → arcs_more n found s ≡ arcs_more (n - 1) (found ++ a ∷ []) r
unfolding arcs_more
arcs_step zero found s a r some h e = absurd (omega arith)
arcs_step (suc n) found s a r some h e = rw (h, e, sub-one) refl

pub arcs_over : (n : ℕ) (found : List ℕ) (s : State) → n ≤ 0 → arcs_more n found s ≡ Err s.stop
unfolding arcs_more
arcs_over zero found s h = refl
arcs_over (suc n) found s h = absurd (omega arith)

pub octets_given : (w xs : List ℕ) → decode_of w ≡ Ok xs → octets_in w ≡ Some xs
unfolding octets_in
octets_given w xs h = ap (λ r. ok_part r) h

pub octets_none : (w : List ℕ) (e : FromHexError) → decode_of w ≡ Err e → octets_in w ≡ None
unfolding octets_in
octets_none w e h = ap (λ r. ok_part r) h

pub spots_count : (ss : List RawSpot) → length (spots_of ss) ≡ length ss
spots_count [] = refl
spots_count (s ∷ ss) = ap suc (spots_count ss)
