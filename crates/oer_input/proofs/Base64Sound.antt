-- What is read in base64 is spelt.
use Rattle.std.proofs.Common.{◌≡◌, ℕ, suc, ◌+◌, ◌*◌, ◌/◌, ◌%◌, List, [], ◌∷◌, ◌++◌, Bool, true, false, cond, ◌==◌, Option, Some, None, Ok, Err, inl, inr, refl, sym, ap, ◌∙◌, append_assoc, arith}
use Rattle.std.proofs.lemmas.Bool.{eqb-true}
use Rattle.std.proofs.lemmas.List.{append-nil}
use Rattle.oer_input.specs.Base64.{SpellsBase64, MayBe, at_character, base64_from, base64_of, by_sextet, by_step, ended, is_space, nothing_left, one_octet, padding_at, sextet_at, sextet_of, step_at, three_octets, two_octets, without_space}
use Rattle.oer_input.specs.Faults.{Read}
use Rattle.oer_input.specs.declared.fault.Fault.TheVariants.{Bits}
use Rattle.oer_input.specs.declared.group.Next.{Next}
use Rattle.oer_input.specs.declared.group.Next.TheVariants as expects
use Rattle.oer_input.specs.declared.group.Step.{Step}
use Rattle.oer_input.specs.declared.group.Step.TheVariants as does
use Rattle.oer_input.proofs.Characters.{sextet_below}

abbrev okay : List ℕ → Read
okay os = Ok os

-- The text that is left, without white space, spells these octets, whatever stood before in its group.
abbrev Left : Next → List ℕ → List ℕ → Type 0
Left expects.First cs os = SpellsBase64 cs os
Left (expects.Second k) cs os = (p : ℕ) → sextet_of p ≡ Some k → SpellsBase64 (p ∷ cs) os
Left (expects.Third left last) cs os = (p q k l : ℕ) → sextet_of p ≡ Some k → sextet_of q ≡ Some l → l % 16 ≡ left
    → SpellsBase64 (p ∷ q ∷ cs) ((k * 4 + l / 16) ∷ os)
Left (expects.Fourth left last) cs os = (p q r k l m : ℕ) → sextet_of p ≡ Some k → sextet_of q ≡ Some l → sextet_of r ≡ Some m → m % 4 ≡ left
    → SpellsBase64 (p ∷ q ∷ r ∷ cs) ((k * 4 + l / 16) ∷ (l % 16 * 16 + m / 4) ∷ os)
Left expects.Padding cs os = (cs ≡ 61 ∷ []) × (os ≡ [])
Left expects.End cs os = (cs ≡ []) × (os ≡ [])

-- it spells what was read behind the octets os
abbrev Reads : Next → List ℕ → List ℕ → List ℕ → Type 0
Reads s cs os xs = (ys : List ℕ) × (xs ≡ os ++ ys) × Left s cs ys

-- the same after a step
abbrev Goes : Step → List ℕ → List ℕ → List ℕ → Type 0
Goes (does.To s) cs os xs = Reads s cs os xs
Goes (does.Octet o s) cs os xs = Reads s cs (os ++ o ∷ []) xs
Goes (does.Stops fault) cs os xs = ⊥

-- ---- the octets of a group

whole : (p q r s k l m n : ℕ) (cs os : List ℕ) → sextet_of p ≡ Some k → sextet_of q ≡ Some l → sextet_of r ≡ Some m → sextet_of s ≡ Some n
    → SpellsBase64 cs os → SpellsBase64 (p ∷ q ∷ r ∷ s ∷ cs) ((k * 4 + l / 16) ∷ (l % 16 * 16 + m / 4) ∷ (m % 4 * 64 + n) ∷ os)
whole p q r s k l m n cs os e f g h d =
    let a = sextet_below p k e in let b = sextet_below q l f in let c = sextet_below r m g in let o = sextet_below s n h in
    three_octets e f g h (omega arith) (omega arith) (omega arith) (omega arith) d

two : (p q r k l m : ℕ) (cs : List ℕ) → sextet_of p ≡ Some k → sextet_of q ≡ Some l → sextet_of r ≡ Some m → m % 4 ≡ 0 → MayBe (61 ∷ []) cs
    → SpellsBase64 (p ∷ q ∷ r ∷ cs) ((k * 4 + l / 16) ∷ (l % 16 * 16 + m / 4) ∷ [])
two p q r k l m cs e f g none d =
    let a = sextet_below p k e in let b = sextet_below q l f in let c = sextet_below r m g in
    two_octets e f g (omega arith) (omega arith) (omega arith) d

one : (p q k l : ℕ) (cs : List ℕ) → sextet_of p ≡ Some k → sextet_of q ≡ Some l → l % 16 ≡ 0 → MayBe (61 ∷ 61 ∷ []) cs
    → SpellsBase64 (p ∷ q ∷ cs) ((k * 4 + l / 16) ∷ [])
one p q k l cs e f none d =
    let a = sextet_below p k e in let b = sextet_below q l f in
    one_octet e f (omega arith) (omega arith) d

-- ---- the text ends

third_ends : (left last : ℕ) (os xs : List ℕ) (b : Bool) → left == 0 ≡ b → cond b (okay os) (Err (Bits last)) ≡ Ok xs → Reads (expects.Third left last) [] os xs
third_ends left last os xs true e h =
    let none : left ≡ 0 = eqb-true left 0 e in
    let same : xs ≡ os = cc in
    ([], same ∙ sym (append-nil os), λ p q k l f g i. one p q k l [] f g (i ∙ none) (inl refl))
third_ends left last os xs false e h = absurd (cc)

fourth_ends : (left last : ℕ) (os xs : List ℕ) (b : Bool) → left == 0 ≡ b → cond b (okay os) (Err (Bits last)) ≡ Ok xs → Reads (expects.Fourth left last) [] os xs
fourth_ends left last os xs true e h =
    let none : left ≡ 0 = eqb-true left 0 e in
    let same : xs ≡ os = cc in
    ([], same ∙ sym (append-nil os), λ p q r k l m f g i j. two p q r k l m [] f g i (j ∙ none) (inl refl))
fourth_ends left last os xs false e h = absurd (cc)

ended_reads : (s : Next) (n : ℕ) (os xs : List ℕ) → ended s n os ≡ Ok xs → Reads s [] os xs
ended_reads expects.First n os xs e = let same : xs ≡ os = cc in ([], same ∙ sym (append-nil os), nothing_left)
ended_reads (expects.Second k) n os xs e = absurd (cc)
ended_reads (expects.Third left last) n os xs e = third_ends left last os xs (left == 0) refl e
ended_reads (expects.Fourth left last) n os xs e = fourth_ends left last os xs (left == 0) refl e
ended_reads expects.Padding n os xs e = absurd (cc)
ended_reads expects.End n os xs e = let same : xs ≡ os = cc in ([], same ∙ sym (append-nil os), (refl, refl))

-- ---- a step

third_padded : (left last : ℕ) (cs os xs : List ℕ) (b : Bool) → left == 0 ≡ b → Goes (cond b (does.To expects.Padding) (does.Stops (Bits last))) cs os xs
    → Reads (expects.Third left last) (61 ∷ cs) os xs
third_padded left last cs os xs true e h =
    let none : left ≡ 0 = eqb-true left 0 e in
    ([], h.1 ∙ ap (λ ys. os ++ ys) h.2.1, λ p q k l f g i. one p q k l (61 ∷ cs) f g (i ∙ none) (inr (ap (λ ds. 61 ∷ ds) h.2.0)))
third_padded left last cs os xs false e h = absurd h

fourth_padded : (left last : ℕ) (cs os xs : List ℕ) (b : Bool) → left == 0 ≡ b → Goes (cond b (does.To expects.End) (does.Stops (Bits last))) cs os xs
    → Reads (expects.Fourth left last) (61 ∷ cs) os xs
fourth_padded left last cs os xs true e h =
    let none : left ≡ 0 = eqb-true left 0 e in
    ([], h.1 ∙ ap (λ ys. os ++ ys) h.2.1, λ p q r k l m f g i j. two p q r k l m (61 ∷ cs) f g i (j ∙ none) (inr (ap (λ ds. 61 ∷ ds) h.2.0)))
fourth_padded left last cs os xs false e h = absurd h

padding_goes : (s : Next) (at : ℕ) (cs os xs : List ℕ) → Goes (padding_at s at) cs os xs → Reads s (61 ∷ cs) os xs
padding_goes expects.First at cs os xs h = absurd h
padding_goes (expects.Second k) at cs os xs h = absurd h
padding_goes (expects.Third left last) at cs os xs h = third_padded left last cs os xs (left == 0) refl h
padding_goes (expects.Fourth left last) at cs os xs h = fourth_padded left last cs os xs (left == 0) refl h
padding_goes expects.Padding at cs os xs h = (h.0, h.1, (ap (λ ds. 61 ∷ ds) h.2.0, h.2.1))
padding_goes expects.End at cs os xs h = absurd h

sextet_goes : (s : Next) (at c n : ℕ) (cs os xs : List ℕ) → sextet_of c ≡ Some n → Goes (sextet_at s at n) cs os xs → Reads s (c ∷ cs) os xs
sextet_goes expects.First at c n cs os xs e h = (h.0, h.1, h.2 c e)
sextet_goes (expects.Second k) at c n cs os xs e h =
    ((k * 4 + n / 16) ∷ h.0, h.1 ∙ append_assoc os ((k * 4 + n / 16) ∷ []) h.0, λ p f. h.2 p c k n f e refl)
sextet_goes (expects.Third left last) at c n cs os xs e h = (
  (left * 16 + n / 4) ∷ h.0,
  h.1 ∙ append_assoc os ((left * 16 + n / 4) ∷ []) h.0,
  λ p q k l f g i. rw (sym i) (h.2 p q c k l n f g e refl),
)
sextet_goes (expects.Fourth left last) at c n cs os xs e h = (
  (left * 64 + n) ∷ h.0,
  h.1 ∙ append_assoc os ((left * 64 + n) ∷ []) h.0,
  λ p q r k l m f g i j. rw (sym j) (whole p q r c k l m n cs h.0 f g i e h.2),
)
sextet_goes expects.Padding at c n cs os xs e h = absurd h
sextet_goes expects.End at c n cs os xs e h = absurd h

character_goes : (s : Next) (at c : ℕ) (cs os xs : List ℕ) (d : Option ℕ) → sextet_of c ≡ d → Goes (by_sextet d s at) cs os xs → Reads s (c ∷ cs) os xs
character_goes s at c cs os xs (Some n) e h = sextet_goes s at c n cs os xs e h
character_goes s at c cs os xs None e h = absurd h

other_goes : (s : Next) (at c : ℕ) (cs os xs : List ℕ) (b : Bool) → c == 61 ≡ b → Goes (cond b (padding_at s at) (at_character s at c)) cs os xs
    → Reads s (c ∷ cs) os xs
other_goes s at c cs os xs true e h = let is : c ≡ 61 = eqb-true c 61 e in rw is (padding_goes s at cs os xs h)
other_goes s at c cs os xs false e h = character_goes s at c cs os xs (sextet_of c) refl h

space_goes : (s : Next) (at c : ℕ) (cs os xs : List ℕ) (b : Bool) → is_space c ≡ b
    → Goes (cond b (does.To s) (cond (c == 61) (padding_at s at) (at_character s at c))) (without_space cs) os xs
    → Reads s (cond b (without_space cs) (c ∷ without_space cs)) os xs
space_goes s at c cs os xs true e h = h
space_goes s at c cs os xs false e h = other_goes s at c (without_space cs) os xs (c == 61) refl h

step_goes : (s : Next) (at c : ℕ) (cs os xs : List ℕ) → Goes (step_at s at c) (without_space cs) os xs → Reads s (without_space (c ∷ cs)) os xs
unfolding step_at
step_goes s at c cs os xs h = space_goes s at c cs os xs (is_space c) refl h

by_step_goes : (r : Step) (n : ℕ) (cs os xs : List ℕ) → by_step r (base64_from cs (suc n)) os ≡ Ok xs
    → ((s : Next) (ds : List ℕ) → base64_from cs (suc n) s ds ≡ Ok xs → Reads s (without_space cs) ds xs) → Goes r (without_space cs) os xs
by_step_goes (does.To s) n cs os xs e more = more s os e
by_step_goes (does.Octet o s) n cs os xs e more = more s (os ++ o ∷ []) e
by_step_goes (does.Stops fault) n cs os xs e more = cc

reads : (cs : List ℕ) (n : ℕ) (s : Next) (os xs : List ℕ) → base64_from cs n s os ≡ Ok xs → Reads s (without_space cs) os xs
reads [] n s os xs e = ended_reads s n os xs e
reads (c ∷ cs) n s os xs e = step_goes s n c cs os xs (by_step_goes (step_at s n c) n cs os xs e (λ t ds f. reads cs (suc n) t ds xs f))

pub base64_sound : (t os : List ℕ) → base64_of t ≡ Ok os → SpellsBase64 (without_space t) os
base64_sound t os e = let r = reads t 0 expects.First [] os e in rw r.1 r.2
