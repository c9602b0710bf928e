-- What is spelt in hexadecimal digits is read.
use Rattle.std.proofs.Common.{◌≡◌, ℕ, suc, ◌+◌, ◌*◌, List, [], ◌∷◌, ◌++◌, Bool, true, false, ◌==◌, Some, Ok, refl, sym, ap, ◌∙◌, append_assoc}
use Rattle.std.proofs.lemmas.Bool.{eqb-true}
use Rattle.std.proofs.lemmas.List.{append-nil}
use Rattle.oer_input.specs.Faults.{Read}
use Rattle.oer_input.specs.Hex.{SpellsHex, by_step, digit_of, hex_from, hex_of, is_separator, is_x, nothing_left, octet, octet_behind_0x, separator, step_at}
use Rattle.oer_input.specs.declared.hex.Next.{Next}
use Rattle.oer_input.specs.declared.hex.Next.TheVariants.{Free, Octet, First, SecondOrX, Second}
use Rattle.oer_input.specs.declared.hex.Step.{Step}
use Rattle.oer_input.specs.declared.hex.Step.TheVariants as does
use Rattle.oer_input.proofs.Characters.{digit_no_separator, digit_no_x, separator_no_zero}

-- where the text goes on
abbrev from : Bool → Next
from true = Free
from false = Octet

abbrev okay : List ℕ → Read
okay os = Ok os

separator_step : (free : Bool) (c : ℕ) → is_separator c ≡ true → step_at (from free) c ≡ does.To Free
unfolding step_at
separator_step true c e = rw (separator_no_zero c e, e) refl
separator_step false c e = rw e refl

-- the first digit of an octet, also behind `0x`, and the second one
first_step : (p u : ℕ) → digit_of p ≡ Some u → step_at Octet p ≡ does.To (Second u)
unfolding step_at
first_step p u e = rw (digit_no_separator p u e, e) refl

first_but_zero : (p u : ℕ) → digit_of p ≡ Some u → p == 48 ≡ false → step_at Free p ≡ does.To (Second u)
unfolding step_at
first_but_zero p u e other = rw (other, digit_no_separator p u e, e) refl

first_behind_0x : (p u : ℕ) → digit_of p ≡ Some u → step_at First p ≡ does.To (Second u)
unfolding step_at
first_behind_0x p u e = rw e refl

second_step : (u q v : ℕ) → digit_of q ≡ Some v → step_at (Second u) q ≡ does.Octet (u * 16 + v)
unfolding step_at
second_step u q v e = rw e refl

-- a first digit 0, and what may stand behind it
zero_step : step_at Free 48 ≡ does.To SecondOrX
unfolding step_at
zero_step = refl

x_step : (x : ℕ) → is_x x ≡ true → step_at SecondOrX x ≡ does.To First
unfolding step_at
x_step x e = rw e refl

second_behind_zero : (q v : ℕ) → digit_of q ≡ Some v → step_at SecondOrX q ≡ does.Octet (0 * 16 + v)
unfolding step_at
second_behind_zero q v e = rw (digit_no_x q v e, e) refl

-- two steps
two : (s t : Next) (p q o n : ℕ) (cs done : List ℕ) → step_at s p ≡ does.To t → step_at t q ≡ does.Octet o
    → hex_from (p ∷ q ∷ cs) n s done ≡ hex_from cs (suc (suc n)) Octet (done ++ o ∷ [])
two s t p q o n cs done e f =
    ap (λ (r : Step). by_step r (hex_from (q ∷ cs) (suc n)) n done) e ∙ ap (λ (r : Step). by_step r (hex_from cs (suc (suc n))) (suc n) done) f

free_steps : (b : Bool) (p q u v n : ℕ) (cs done : List ℕ) → p == 48 ≡ b → digit_of p ≡ Some u → digit_of q ≡ Some v
    → hex_from (p ∷ q ∷ cs) n Free done ≡ hex_from cs (suc (suc n)) Octet (done ++ (u * 16 + v) ∷ [])
free_steps false p q u v n cs done other e f = two Free (Second u) p q (u * 16 + v) n cs done (first_but_zero p u e other) (second_step u q v f)
free_steps true p q u v n cs done is e f =
    let zero : p ≡ 48 = eqb-true p 48 is in
    let first : digit_of 48 ≡ Some u = rw zero at e in
    let none : 0 ≡ u = cc in
    rw (zero, sym none) (two Free SecondOrX 48 q (0 * 16 + v) n cs done zero_step (second_behind_zero q v f))

octet_steps : (free : Bool) (p q u v n : ℕ) (cs done : List ℕ) → digit_of p ≡ Some u → digit_of q ≡ Some v
    → hex_from (p ∷ q ∷ cs) n (from free) done ≡ hex_from cs (suc (suc n)) Octet (done ++ (u * 16 + v) ∷ [])
octet_steps true p q u v n cs done e f = free_steps (p == 48) p q u v n cs done refl e f
octet_steps false p q u v n cs done e f = two Octet (Second u) p q (u * 16 + v) n cs done (first_step p u e) (second_step u q v f)

steps_0x : (x p q u v n : ℕ) (cs done : List ℕ) → is_x x ≡ true → digit_of p ≡ Some u → digit_of q ≡ Some v
    → hex_from (48 ∷ x ∷ p ∷ q ∷ cs) n Free done ≡ hex_from cs (suc (suc (suc (suc n)))) Octet (done ++ (u * 16 + v) ∷ [])
steps_0x x p q u v n cs done h e f =
    ap (λ (r : Step). by_step r (hex_from (x ∷ p ∷ q ∷ cs) (suc n)) n done) zero_step
    ∙ ap (λ (r : Step). by_step r (hex_from (p ∷ q ∷ cs) (suc (suc n))) (suc n) done) (x_step x h)
    ∙ two First (Second u) p q (u * 16 + v) (suc (suc n)) cs done (first_behind_0x p u e) (second_step u q v f)

ends : (free : Bool) (n : ℕ) (done : List ℕ) → hex_from [] n (from free) done ≡ okay done
ends true n done = refl
ends false n done = refl

reads : {free : Bool} {t os : List ℕ} → SpellsHex free t os → (n : ℕ) (done : List ℕ) → hex_from t n (from free) done ≡ Ok (done ++ os)
reads (nothing_left {free}) n done = ends free n done ∙ ap okay (sym (append-nil done))
reads (separator {free} {c} {cs} e d) n done =
    ap (λ (r : Step). by_step r (hex_from cs (suc n)) n done) (separator_step free c e) ∙ reads d (suc n) done
reads (octet {free} {p} {q} {u} {v} {cs} {os} e f d) n done =
    octet_steps free p q u v n cs done e f ∙ reads d (suc (suc n)) (done ++ (u * 16 + v) ∷ []) ∙ ap okay (append_assoc done ((u * 16 + v) ∷ []) os)
reads (octet_behind_0x {x} {p} {q} {u} {v} {cs} {os} h e f d) n done =
    steps_0x x p q u v n cs done h e f ∙ reads d (suc (suc (suc (suc n)))) (done ++ (u * 16 + v) ∷ []) ∙ ap okay (append_assoc done ((u * 16 + v) ∷ []) os)

pub hex_complete : (t os : List ℕ) → SpellsHex true t os → hex_of t ≡ Ok os
hex_complete t os d = reads d 0 []
