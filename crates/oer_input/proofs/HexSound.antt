-- What is read in hexadecimal digits is spelt.
use Rattle.std.proofs.Common.{◌≡◌, ℕ, suc, ◌+◌, ◌*◌, List, [], ◌∷◌, ◌++◌, Bool, true, false, cond, ◌==◌, Option, Some, None, Ok, refl, sym, ◌∙◌, append_assoc}
use Rattle.std.proofs.lemmas.Bool.{eqb-true}
use Rattle.std.proofs.lemmas.List.{append-nil}
use Rattle.oer_input.specs.Hex.{SpellsHex, at_octet, by_step, digit_of, ended, first, first_by, hex_from, hex_of, is_separator, is_x, nothing_left, octet, octet_behind_0x, second, second_by, separator, step_at}
use Rattle.oer_input.specs.declared.hex.Next.{Next}
use Rattle.oer_input.specs.declared.hex.Next.TheVariants.{Free, Octet, First, SecondOrX, Second}
use Rattle.oer_input.specs.declared.hex.Step.{Step}
use Rattle.oer_input.specs.declared.hex.Step.TheVariants as does

-- the text begins with the second digit of an octet, whose first is u
data Ends (u : ℕ) : List ℕ → List ℕ → Type 0 where
  ends : {q v : ℕ} {cs os : List ℕ} → digit_of q ≡ Some v → SpellsHex false cs os → Ends u (q ∷ cs) ((u * 16 + v) ∷ os)

-- with both digits of one
data Begins : List ℕ → List ℕ → Type 0 where
  begins : {p u : ℕ} {cs os : List ℕ} → digit_of p ≡ Some u → Ends u cs os → Begins (p ∷ cs) os

with_first : {free : Bool} {p u : ℕ} {cs os : List ℕ} → digit_of p ≡ Some u → Ends u cs os → SpellsHex free (p ∷ cs) os
with_first e (ends f d) = octet e f d

with_0x : {x p u : ℕ} {cs os : List ℕ} → is_x x ≡ true → digit_of p ≡ Some u → Ends u cs os → SpellsHex true (48 ∷ x ∷ p ∷ cs) os
with_0x h e (ends f d) = octet_behind_0x h e f d

octet_of : {free : Bool} {cs os : List ℕ} → Begins cs os → SpellsHex free cs os
octet_of (begins e d) = with_first e d

octet_of_x : {x : ℕ} {cs os : List ℕ} → is_x x ≡ true → Begins cs os → SpellsHex true (48 ∷ x ∷ cs) os
octet_of_x h (begins e d) = with_0x h e d

octet_of_zero : {cs os : List ℕ} → Ends 0 cs os → SpellsHex true (48 ∷ cs) os
octet_of_zero d = with_first refl d

-- what the text that is left spells
abbrev Left : Next → List ℕ → List ℕ → Type 0
Left Free cs os = SpellsHex true cs os
Left Octet cs os = SpellsHex false cs os
Left First cs os = Begins cs os
Left SecondOrX cs os = SpellsHex true (48 ∷ cs) os
Left (Second u) cs os = Ends u cs os

-- it spells what was read behind the octets os
abbrev Reads : Next → List ℕ → List ℕ → List ℕ → Type 0
Reads s cs os xs = (ys : List ℕ) × (xs ≡ os ++ ys) × Left s cs ys

-- the same after a step
abbrev Goes : Step → List ℕ → List ℕ → List ℕ → Type 0
Goes (does.To s) cs os xs = Reads s cs os xs
Goes (does.Octet o) cs os xs = Reads Octet cs (os ++ o ∷ []) xs
Goes does.Stops cs os xs = ⊥

first_goes : (c : ℕ) (cs os xs : List ℕ) (d : Option ℕ) → digit_of c ≡ d → Goes (first_by d) cs os xs → Reads First (c ∷ cs) os xs
first_goes c cs os xs (Some u) e h = (h.0, h.1, begins e h.2)
first_goes c cs os xs None e h = absurd h

second_goes : (u c : ℕ) (cs os xs : List ℕ) (d : Option ℕ) → digit_of c ≡ d → Goes (second_by u d) cs os xs → Reads (Second u) (c ∷ cs) os xs
second_goes u c cs os xs (Some v) e h = ((u * 16 + v) ∷ h.0, h.1 ∙ append_assoc os ((u * 16 + v) ∷ []) h.0, ends e h.2)
second_goes u c cs os xs None e h = absurd h

octet_goes : (c : ℕ) (cs os xs : List ℕ) (b : Bool) → is_separator c ≡ b → Goes (cond b (does.To Free) (first c)) cs os xs
    → (ys : List ℕ) × (xs ≡ os ++ ys) × ((free : Bool) → SpellsHex free (c ∷ cs) ys)
octet_goes c cs os xs true e h = (h.0, h.1, λ free. separator e h.2)
octet_goes c cs os xs false e h = let f = first_goes c cs os xs (digit_of c) refl h in (f.0, f.1, λ free. octet_of f.2)

free_goes : (c : ℕ) (cs os xs : List ℕ) (b : Bool) → c == 48 ≡ b → Goes (cond b (does.To SecondOrX) (at_octet c)) cs os xs → Reads Free (c ∷ cs) os xs
free_goes c cs os xs true e h = let is : c ≡ 48 = eqb-true c 48 e in (h.0, h.1, rw is h.2)
free_goes c cs os xs false e h = let f = octet_goes c cs os xs (is_separator c) refl h in (f.0, f.1, f.2 true)

x_goes : (c : ℕ) (cs os xs : List ℕ) (b : Bool) → is_x c ≡ b → Goes (cond b (does.To First) (second 0 c)) cs os xs → Reads SecondOrX (c ∷ cs) os xs
x_goes c cs os xs true e h = (h.0, h.1, octet_of_x e h.2)
x_goes c cs os xs false e h = let f = second_goes 0 c cs os xs (digit_of c) refl h in (f.0, f.1, octet_of_zero f.2)

step_goes : (s : Next) (c : ℕ) (cs os xs : List ℕ) → Goes (step_at s c) cs os xs → Reads s (c ∷ cs) os xs
unfolding step_at
step_goes Free c cs os xs h = free_goes c cs os xs (c == 48) refl h
step_goes Octet c cs os xs h = let f = octet_goes c cs os xs (is_separator c) refl h in (f.0, f.1, f.2 false)
step_goes First c cs os xs h = first_goes c cs os xs (digit_of c) refl h
step_goes SecondOrX c cs os xs h = x_goes c cs os xs (is_x c) refl h
step_goes (Second u) c cs os xs h = second_goes u c cs os xs (digit_of c) refl h

ended_reads : (s : Next) (n : ℕ) (os xs : List ℕ) → ended s n os ≡ Ok xs → Reads s [] os xs
ended_reads Free n os xs e = let same : xs ≡ os = cc in ([], same ∙ sym (append-nil os), nothing_left)
ended_reads Octet n os xs e = let same : xs ≡ os = cc in ([], same ∙ sym (append-nil os), nothing_left)
ended_reads First n os xs e = absurd (cc)
ended_reads SecondOrX n os xs e = absurd (cc)
ended_reads (Second u) n os xs e = absurd (cc)

by_step_goes : (r : Step) (n : ℕ) (cs os xs : List ℕ) → by_step r (hex_from cs (suc n)) n os ≡ Ok xs
    → ((s : Next) (ds : List ℕ) → hex_from cs (suc n) s ds ≡ Ok xs → Reads s cs ds xs) → Goes r cs os xs
by_step_goes (does.To s) n cs os xs e more = more s os e
by_step_goes (does.Octet o) n cs os xs e more = more Octet (os ++ o ∷ []) e
by_step_goes does.Stops n cs os xs e more = cc

reads : (cs : List ℕ) (n : ℕ) (s : Next) (os xs : List ℕ) → hex_from cs n s os ≡ Ok xs → Reads s cs os xs
reads [] n s os xs e = ended_reads s n os xs e
reads (c ∷ cs) n s os xs e = step_goes s c cs os xs (by_step_goes (step_at s c) n cs os xs e (λ t ds f. reads cs (suc n) t ds xs f))

pub hex_sound : (t os : List ℕ) → hex_of t ≡ Ok os → SpellsHex true t os
hex_sound t os e = let r = reads t 0 Free [] os e in rw r.1 r.2
